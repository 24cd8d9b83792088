-- The texts of invalidations by address.
use Rattle.std.proofs.Common.{◌≡◌, ℕ, Bool, true, false, List, [], ◌∷◌, ◌++◌, map, refl, ap, ◌∙◌, codes, Ok, None, append_assoc, append-nil}
use Rattle.std.specs.Fmt.{decimal}
use Rattle.cmdcodec.specs.declared.opcode.Opcode.TheVariants as op
use Rattle.cmdcodec.specs.declared.command.Command.TheVariants.{TlbiNhVa, TlbiNhVaa, TlbiEl2Va, TlbiEl2Vaa, TlbiS2Ipa}
use Rattle.cmdcodec.specs.declared.reach.Granule.TheVariants.{Kib4, Kib16, Kib64}
use Rattle.cmdcodec.specs.declared.reach.Reach.{Reach}
use Rattle.cmdcodec.specs.declared.reach.Reach.TheVariants.{Page, Range}
use Rattle.cmdcodec.specs.Spelling.{granule_number}
use Rattle.cmdcodec.specs.Text.{reach_text, text_of}
use Rattle.line_answers.proofs.TextWords.{spaced}
use Rattle.encode.specs.declared.field.Field.{Field}
use Rattle.encode.specs.declared.field.Field.TheVariants as field
use Rattle.encode.specs.Fields.{key_of}
use Rattle.encode.specs.Names.{fields_of}
use Rattle.encode.specs.Values.{behind, value_in, value_of, unknown_word, is_given, is_of}
use Rattle.encode.specs.Commands.{flag_of, reach_of, command_of}
use Rattle.encode.proofs.Reading.{IsTextOf, one_bit}
use Rattle.encode.proofs.Written.{IsWritten, IsInDecimal, IsFlag, IsInBytes, Given, given, word_of}

-- ---- how far: the fields of a range, or none of them for a single page

-- These fields are written out.
abbrev pub IsReach : Reach → Type 0
IsReach Page = Unit {0}
IsReach (Range tg num scale) = IsInDecimal field.Tg (granule_number tg) × IsInDecimal field.Num num × IsInDecimal field.Scale scale

abbrev reach_given : (reach : Reach) → IsReach reach → List Given
reach_given Page r = []
reach_given (Range tg num scale) r = given r.0 ∷ given r.1 ∷ given r.2 ∷ []

-- their text follows a word
reach_behind : (word : List ℕ) (reach : Reach) (r : IsReach reach) → word ++ reach_text reach ≡ spaced word (map word_of (reach_given reach r))
reach_behind word Page r = append-nil word
reach_behind word (Range tg num scale) r = simp append_assoc

-- The command takes the fields of a range.
record TakesRange (fields : List Field) : Type 0 where
  tg : (digits : List ℕ) → is_of fields (codes "tg=" ++ digits) ≡ true
  num : (digits : List ℕ) → is_of fields (codes "num=" ++ digits) ≡ true
  scale : (digits : List ℕ) → is_of fields (codes "scale=" ++ digits) ≡ true

-- such a command knows the words of a reach
reach_known : (fields : List Field) (reach : Reach) (r : IsReach reach) → TakesRange fields → unknown_word fields (map word_of (reach_given reach r)) ≡ None
unfolding unknown_word
reach_known fields Page r takes = refl
reach_known fields (Range tg num scale) r takes = rw (takes.tg _, takes.num _, takes.scale _)

-- and they give it
reach_made : (reach : Reach) (r : IsReach reach) → reach_of (map word_of (reach_given reach r)) ≡ Ok reach
unfolding reach_of is_given value_of behind
reach_made Page r = refl
reach_made (Range Kib4 num scale) r = rw (r.0.said, r.1.said, r.2.said)
reach_made (Range Kib16 num scale) r = rw (r.0.said, r.1.said, r.2.said)
reach_made (Range Kib64 num scale) r = rw (r.0.said, r.1.said, r.2.said)

-- ---- the fields before a range

abbrev is_of_range : Field → Bool
is_of_range field.Tg = true
is_of_range field.Num = true
is_of_range field.Scale = true
is_of_range other = false

-- None of these fields is given by the words of a range.
reach_gives_none : (f : Field) (reach : Reach) (r : IsReach reach) → is_of_range f ≡ false → behind (key_of f) (map word_of (reach_given reach r)) ≡ []
unfolding behind
reach_gives_none field.Tg reach r none = absurd cc
reach_gives_none field.Num reach r none = absurd cc
reach_gives_none field.Scale reach r none = absurd cc
reach_gives_none other Page r none = refl
reach_gives_none other (Range tg num scale) r none = refl

-- So a field that comes before them is given once.
ahead : {f : Field} {digits : List ℕ} {value : ℕ} → IsWritten f digits value → (reach : Reach) (r : IsReach reach) → is_of_range f ≡ false
    → value_in f (digits ∷ behind (key_of f) (map word_of (reach_given reach r))) ≡ Ok value
ahead {f = f} {digits = digits} w reach r none = ap (λ more. value_in f (digits ∷ more)) (reach_gives_none f reach r none) ∙ w.said

-- ---- from an address on

-- Two fields before all that have addresses: the text in the order of its parts.
flat : (a b c d : List ℕ) → ((a ++ b) ++ c) ++ d ≡ a ++ (b ++ (c ++ d))
flat a b c d = simp append_assoc

-- the text of a flag, an address and a reach after a word
pages_behind : (word leaf addr : List ℕ) (reach : Reach) (r : IsReach reach)
    → word ++ (codes " leaf=" ++ leaf ++ codes " addr=" ++ addr ++ reach_text reach)
    ≡ word ++ 32 ∷ ((codes "leaf=" ++ leaf) ++ 32 ∷ spaced (codes "addr=" ++ addr) (map word_of (reach_given reach r)))
pages_behind word leaf addr reach r = rw (← reach_behind (codes "addr=" ++ addr) reach r) (simp append_assoc)

pub tlbi_nh_va : (vmid asid : ℕ) (leaf : Bool) (page : ℕ) (reach : Reach) → IsInDecimal field.Vmid vmid → IsInDecimal field.Asid asid → IsFlag field.Leaf leaf → IsInBytes field.Page page → IsReach reach
    → IsTextOf (text_of (TlbiNhVa vmid asid leaf page reach)) (TlbiNhVa vmid asid leaf page reach)
unfolding text_of unknown_word value_of behind is_given flag_of reach_of command_of
tlbi_nh_va vmid asid leaf page reach v a l p r = record {
  opcode = op.TlbiNhVa;
  fields = given v ∷ given a ∷ given l ∷ given p ∷ reach_given reach r;
  text =
      ap (λ t. codes "TLBI_NH_VA vmid=" ++ t)
      (flat (decimal vmid) (codes " asid=") (decimal asid) _ ∙ ap (λ t. decimal vmid ++ t) (pages_behind (codes " asid=" ++ decimal asid) _ _ reach r));
  known = reach_known (fields_of op.TlbiNhVa) reach r (record { tg = λ d. refl; num = λ d. refl; scale = λ d. refl });
  made = rw (ahead v reach r refl, ahead a reach r refl, ahead l reach r refl, one_bit leaf, ahead p reach r refl, reach_made reach r);
}

pub tlbi_nh_vaa : (vmid : ℕ) (leaf : Bool) (page : ℕ) (reach : Reach) → IsInDecimal field.Vmid vmid → IsFlag field.Leaf leaf → IsInBytes field.Page page → IsReach reach
    → IsTextOf (text_of (TlbiNhVaa vmid leaf page reach)) (TlbiNhVaa vmid leaf page reach)
unfolding text_of unknown_word value_of behind is_given flag_of reach_of command_of
tlbi_nh_vaa vmid leaf page reach v l p r = record {
  opcode = op.TlbiNhVaa;
  fields = given v ∷ given l ∷ given p ∷ reach_given reach r;
  text = pages_behind (codes "TLBI_NH_VAA vmid=" ++ decimal vmid) _ _ reach r;
  known = reach_known (fields_of op.TlbiNhVaa) reach r (record { tg = λ d. refl; num = λ d. refl; scale = λ d. refl });
  made = rw (ahead v reach r refl, ahead l reach r refl, one_bit leaf, ahead p reach r refl, reach_made reach r);
}

pub tlbi_el2_va : (asid : ℕ) (leaf : Bool) (page : ℕ) (reach : Reach) → IsInDecimal field.Asid asid → IsFlag field.Leaf leaf → IsInBytes field.Page page → IsReach reach
    → IsTextOf (text_of (TlbiEl2Va asid leaf page reach)) (TlbiEl2Va asid leaf page reach)
unfolding text_of unknown_word value_of behind is_given flag_of reach_of command_of
tlbi_el2_va asid leaf page reach a l p r = record {
  opcode = op.TlbiEl2Va;
  fields = given a ∷ given l ∷ given p ∷ reach_given reach r;
  text = pages_behind (codes "TLBI_EL2_VA asid=" ++ decimal asid) _ _ reach r;
  known = reach_known (fields_of op.TlbiEl2Va) reach r (record { tg = λ d. refl; num = λ d. refl; scale = λ d. refl });
  made = rw (ahead a reach r refl, ahead l reach r refl, one_bit leaf, ahead p reach r refl, reach_made reach r);
}

pub tlbi_el2_vaa : (leaf : Bool) (page : ℕ) (reach : Reach) → IsFlag field.Leaf leaf → IsInBytes field.Page page → IsReach reach
    → IsTextOf (text_of (TlbiEl2Vaa leaf page reach)) (TlbiEl2Vaa leaf page reach)
unfolding text_of unknown_word value_of behind is_given flag_of reach_of command_of
tlbi_el2_vaa leaf page reach l p r = record {
  opcode = op.TlbiEl2Vaa;
  fields = given l ∷ given p ∷ reach_given reach r;
  text = pages_behind (codes "TLBI_EL2_VAA") _ _ reach r;
  known = reach_known (fields_of op.TlbiEl2Vaa) reach r (record { tg = λ d. refl; num = λ d. refl; scale = λ d. refl });
  made = rw (ahead l reach r refl, one_bit leaf, ahead p reach r refl, reach_made reach r);
}

pub tlbi_s2_ipa : (vmid : ℕ) (leaf : Bool) (page : ℕ) (reach : Reach) → IsInDecimal field.Vmid vmid → IsFlag field.Leaf leaf → IsInBytes field.IpaPage page → IsReach reach
    → IsTextOf (text_of (TlbiS2Ipa vmid leaf page reach)) (TlbiS2Ipa vmid leaf page reach)
unfolding text_of unknown_word value_of behind is_given flag_of reach_of command_of
tlbi_s2_ipa vmid leaf page reach v l p r = record {
  opcode = op.TlbiS2Ipa;
  fields = given v ∷ given l ∷ given p ∷ reach_given reach r;
  text = pages_behind (codes "TLBI_S2_IPA vmid=" ++ decimal vmid) _ _ reach r;
  known = reach_known (fields_of op.TlbiS2Ipa) reach r (record { tg = λ d. refl; num = λ d. refl; scale = λ d. refl });
  made = rw (ahead v reach r refl, ahead l reach r refl, one_bit leaf, ahead p reach r refl, reach_made reach r);
}
