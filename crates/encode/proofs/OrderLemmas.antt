-- Words that stand in another order give the same command.
use Rattle.std.proofs.Common.{◌≡◌, ℕ, ◌+◌, ◌&&◌, ◌||◌, Bool, true, false, cond, not, List, [], ◌∷◌, drop, length, eqb, refl, ap, sym, ◌∙◌, Option, Some, None, Ok, arith}
use Rattle.std.specs.Prelude.{Result}
use Rattle.std.specs.List.{count_by, find, list_any, starts_with}
use Rattle.std.specs.List.Sorted.{IsPermutation}
use Rattle.std.specs.Str.{bytes_eq}
use Rattle.std.proofs.lemmas.List.Sorted.{list_any-IsPermutation, sum_by-IsPermutation}
use Rattle.std.proofs.lemmas.List.Sums.{sum_by-cons}
use Rattle.std.proofs.lemmas.Slice.Eq.{bytes_eq-Decides}
use Rattle.cmdcodec.specs.declared.raw.Raw.{Raw}
use Rattle.cmdcodec.specs.declared.opcode.Opcode.{Opcode}
use Rattle.cmdcodec.specs.declared.opcode.Opcode.TheVariants as op
use Rattle.script.specs.Fields.{is_comment}
use Rattle.encode.specs.declared.field.Field.{Field}
use Rattle.encode.specs.declared.field.Field.TheVariants as field
use Rattle.encode.specs.Fields.{key_of}
use Rattle.encode.specs.Names.{opcode_called, fields_of}
use Rattle.encode.specs.Values.{behind, value_in, value_of, is_some_word, is_given, is_of, unknown_word}
use Rattle.encode.specs.Commands.{flag_of, reach_of, kept_of, command_of}
use Rattle.encode.specs.LineEncodings.{LineFault, named_encoding, known_encoding, encoding_of}
use Rattle.encode.specs.OrderLaws.{OrderPlaysNoPart}
use Rattle.encode.proofs.ValueLemmas.{behind_nothing, behind_its_key, behind_another}

-- ---- which words give a field, by how many there are of each kind

-- Both have as many words of each kind.
record AreAsMany (words others : List (List ℕ)) : Type 0 where
  counts : (test : List ℕ → Bool) → count_by test others ≡ count_by test words

module _ (key : List ℕ) (test : List ℕ → Bool) where
  abbrev its_test : List ℕ → Bool
  its_test word = starts_with eqb word key && test (drop (length key) word)

  one_word : (word : List ℕ) (words : List (List ℕ)) (s : Bool) → starts_with eqb word key ≡ s → count_by test (behind key words) ≡ count_by its_test words
      → count_by test (behind key (word ∷ words)) ≡ cond (s && test (drop (length key) word)) 1 0 + count_by its_test words
  one_word word words true s h =
      ap (λ found. count_by test found) (behind_its_key key word words s) ∙ sum_by-cons (λ w. cond (test w) 1 0) (drop (length key) word) (behind key words)
      ∙ ap (λ n. cond (test (drop (length key) word)) 1 0 + n) h
  one_word word words false s h = ap (λ found. count_by test found) (behind_another key word words s) ∙ h ∙ omega arith

  count_behind : (words : List (List ℕ)) → count_by test (behind key words) ≡ count_by its_test words
  count_behind [] = ap (λ found. count_by test found) (behind_nothing key)
  count_behind (word ∷ words) =
      one_word word words (starts_with eqb word key) refl (count_behind words) ∙ sym (sum_by-cons (λ w. cond (its_test w) 1 0) word words)

as_many_behind : (key : List ℕ) (words others : List (List ℕ)) → IsPermutation words others → AreAsMany (behind key words) (behind key others)
as_many_behind key words others same = record {
  counts = λ test.
      count_behind key test others ∙ sum_by-IsPermutation (λ word. cond (its_test key test word) 1 0) words others same ∙ sym (count_behind key test words);
}

all_counted : (words : List (List ℕ)) → count_by (λ word. true) words ≡ length words
all_counted [] = refl
all_counted (word ∷ words) = sum_by-cons (λ w. 1) word words ∙ ap (λ n. 1 + n) (all_counted words) ∙ omega arith

same_length : (words others : List (List ℕ)) → AreAsMany words others → length others ≡ length words
same_length words others many = sym (all_counted others) ∙ many.counts (λ word. true) ∙ all_counted words

only_one : (word other : List ℕ) → AreAsMany (word ∷ []) (other ∷ []) → word ≡ other
only_one word other many = by (bytes_eq word other) refl
  where
    by : (s : Bool) → bytes_eq word other ≡ s → word ≡ other
    by true s = (bytes_eq-Decides word other).0 s
    by false s =
        let here : cond {A = ℕ} (bytes_eq word word) 1 0 ≡ 1 = ap (λ (b : Bool). cond {A = ℕ} b 1 0) ((bytes_eq-Decides word word).1 refl) in
        let there : cond {A = ℕ} (bytes_eq word other) 1 0 ≡ 0 = ap (λ (b : Bool). cond {A = ℕ} b 1 0) s in
        let one = sum_by-cons (λ w. cond (bytes_eq word w) 1 0) word [] in
        let none = sum_by-cons (λ w. cond (bytes_eq word w) 1 0) other [] in
        let same = many.counts (bytes_eq word) in
        absurd (omega (arith, here, there, one, none, same))

value_alike : (f : Field) (words others : List (List ℕ)) → AreAsMany words others → value_in f words ≡ value_in f others
value_alike f [] [] many = refl
value_alike f [] (y ∷ others) many = let e = same_length [] (y ∷ others) many in absurd (omega arith)
value_alike f (x ∷ []) [] many = let e = same_length (x ∷ []) [] many in absurd (omega arith)
value_alike f (x ∷ []) (y ∷ []) many = ap (λ digits. value_in f (digits ∷ [])) (only_one x y many)
value_alike f (x ∷ []) (y ∷ z ∷ others) many = let e = same_length (x ∷ []) (y ∷ z ∷ others) many in absurd (omega arith)
value_alike f (x ∷ w ∷ words) [] many = let e = same_length (x ∷ w ∷ words) [] many in absurd (omega arith)
value_alike f (x ∷ w ∷ words) (y ∷ []) many = let e = same_length (x ∷ w ∷ words) (y ∷ []) many in absurd (omega arith)
value_alike f (x ∷ w ∷ words) (y ∷ z ∷ others) many = refl

given_alike : (words others : List (List ℕ)) → AreAsMany words others → is_some_word words ≡ is_some_word others
given_alike [] [] many = refl
given_alike [] (y ∷ others) many = let e = same_length [] (y ∷ others) many in absurd (omega arith)
given_alike (x ∷ words) [] many = let e = same_length (x ∷ words) [] many in absurd (omega arith)
given_alike (x ∷ words) (y ∷ others) many = refl

-- These words say the same of each field.
record SayTheSame (words others : List (List ℕ)) : Type 0 where
  value : (f : Field) → value_of f words ≡ value_of f others
  given : (f : Field) → is_given f words ≡ is_given f others

say_the_same : (words others : List (List ℕ)) → IsPermutation words others → SayTheSame words others
unfolding value_of is_given
say_the_same words others same = record {
  value = λ f. value_alike f (behind (key_of f) words) (behind (key_of f) others) (as_many_behind (key_of f) words others same);
  given = λ f. given_alike (behind (key_of f) words) (behind (key_of f) others) (as_many_behind (key_of f) words others same);
}

module _ (words others : List (List ℕ)) (same : SayTheSame words others) where
  flag : (f : Field) → flag_of f words ≡ flag_of f others
  unfolding flag_of
  flag f = rw (same.value f)

  reach : reach_of words ≡ reach_of others
  unfolding reach_of
  reach = rw (same.given field.Tg, same.given field.Num, same.given field.Scale, same.value field.Tg, same.value field.Num, same.value field.Scale)

  kept : (opcode : Opcode) → kept_of opcode words ≡ kept_of opcode others
  unfolding kept_of
  kept opcode = rw (same.value field.Lo, same.value field.Hi)

  command : (opcode : Opcode) → command_of opcode words ≡ command_of opcode others
  unfolding command_of
  command op.CfgiSte = rw (same.value field.Sid, flag field.Leaf)
  command op.CfgiSteRange = rw (same.value field.Sid, same.value field.Range)
  command op.CfgiCd = rw (same.value field.Sid, same.value field.Ssid, flag field.Leaf)
  command op.CfgiCdAll = rw (same.value field.Sid)
  command op.TlbiNhAll = rw (same.value field.Vmid)
  command op.TlbiNhAsid = rw (same.value field.Vmid, same.value field.Asid)
  command op.TlbiNhVa = rw (same.value field.Vmid, same.value field.Asid, flag field.Leaf, same.value field.Page, reach)
  command op.TlbiNhVaa = rw (same.value field.Vmid, flag field.Leaf, same.value field.Page, reach)
  command op.TlbiEl2All = refl
  command op.TlbiEl2Asid = rw (same.value field.Asid)
  command op.TlbiEl2Va = rw (same.value field.Asid, flag field.Leaf, same.value field.Page, reach)
  command op.TlbiEl2Vaa = rw (flag field.Leaf, same.value field.Page, reach)
  command op.TlbiS12Vmall = rw (same.value field.Vmid)
  command op.TlbiS2Ipa = rw (same.value field.Vmid, flag field.Leaf, same.value field.IpaPage, reach)
  command op.TlbiNsnhAll = refl
  command op.AtcInv = rw (same.value field.Sid, flag field.Ssv, same.value field.Ssid, flag field.Global, same.value field.Size, same.value field.Page)
  command op.CmdSync = rw (same.value field.Cs, same.value field.Msh, same.value field.Attr, same.value field.Data, same.value field.MsiWord)
  command op.PrefetchConfig = kept op.PrefetchConfig
  command op.PrefetchAddr = kept op.PrefetchAddr
  command op.PriResp = kept op.PriResp
  command op.Resume = kept op.Resume
  command op.StallTerm = kept op.StallTerm

-- ---- no word is unknown

none_passes : (p : List ℕ → Bool) (words : List (List ℕ)) → find p words ≡ None → list_any p words ≡ false
none_passes p [] none = refl
none_passes p (word ∷ words) none = by (p word) (none_passes p words) none
  where
    by : (s : Bool) → (find p words ≡ None → list_any p words ≡ false) → cond s (Some word) (find p words) ≡ None → (s || list_any p words) ≡ false
    by true later none = absurd cc
    by false later none = later none

none_found : (p : List ℕ → Bool) (words : List (List ℕ)) → list_any p words ≡ false → find p words ≡ None
none_found p [] none = refl
none_found p (word ∷ words) none = by (p word) (none_found p words) none
  where
    by : (s : Bool) → (list_any p words ≡ false → find p words ≡ None) → (s || list_any p words) ≡ false → cond s (Some word) (find p words) ≡ None
    by true later none = absurd cc
    by false later none = later none

none_unknown : (fields : List Field) (words others : List (List ℕ)) → IsPermutation words others → unknown_word fields words ≡ None → unknown_word fields others ≡ None
unfolding unknown_word
none_unknown fields words others same none =
    let p : List ℕ → Bool = λ word. not (is_of fields word) in
    none_found p others (sym (list_any-IsPermutation p words others same) ∙ none_passes p words none)

-- ---- the whole line

module _ (name : List ℕ) (words others : List (List ℕ)) (found : Option Raw) (same : IsPermutation words others) where
  by_fields : (opcode : Opcode) (unknown : Option (List ℕ)) → unknown_word (fields_of opcode) words ≡ unknown → known_encoding opcode unknown words ≡ Ok found
      → known_encoding opcode (unknown_word (fields_of opcode) others) others ≡ Ok found
  by_fields opcode (Some unknown) e h = absurd cc
  by_fields opcode None e h =
      ap (λ u. known_encoding opcode u others) (none_unknown (fields_of opcode) words others same e)
      ∙ ap (encoding_of opcode) (sym (command words others (say_the_same words others same) opcode)) ∙ h

  by_opcode : (called : Option Opcode) → named_encoding called name words ≡ Ok found → named_encoding called name others ≡ Ok found
  by_opcode None h = absurd cc
  by_opcode (Some opcode) h = by_fields opcode (unknown_word (fields_of opcode) words) refl h

by_comment : (comment : Bool) (before after : Result (Option Raw) LineFault) (found : Option Raw) → (before ≡ Ok found → after ≡ Ok found) → cond comment (Ok None) before ≡ Ok found
    → cond comment (Ok None) after ≡ Ok found
by_comment true before after found follows h = h
by_comment false before after found follows h = follows h

pub order_plays_no_part : OrderPlaysNoPart
order_plays_no_part name words others found same h =
    by_comment (is_comment name) (named_encoding (opcode_called name) name words) (named_encoding (opcode_called name) name others) found
    (by_opcode name words others found same (opcode_called name)) h
