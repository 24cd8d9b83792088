-- What is read of the matches that words without a fault give is what the words ask for.
use Rattle.std.proofs.Common.{◌≡◌, ◌∙◌, inl, inr, [], ◌||◌, ◌<◌, ◌^◌, ℕ, Bool, true, false, true≢false, List, Some, refl, sym, ap, subst, arith, codes}
use Rattle.std.specs.Prelude.{is_some, pos}
use Rattle.std.specs.List.{list_any}
use Rattle.std.specs.Str.{bytes_eq}
use Rattle.std.specs.Str.Parse.{digits_value, without_leading_plus}
use Rattle.std.proofs.lemmas.Slice.Eq.{bytes_eq-Decides}
use Rattle.clap.specs.Lexer.{without_minus}
use Rattle.clap.specs.Faults.{fault_of, level_fault}
use Rattle.clap.specs.Kinds.{value_kinds}
use Rattle.clap.specs.Simple.{App, Shape, built, built_leaf, filled, inherited, label_of, marked_built, subcommand_of, with_index, with_leaf_noted}
use Rattle.clap.specs.Walk.{Row, Rule, Text, answers_to, nothing_held, one_of, rows_after}
use Rattle.clap.specs.declared.builder.value_parser.ValueParser.TheVariants.{Signed}
use Rattle.command_line.proofs.Leaves.{HasValue, leaf_value, number_writes}
use Rattle.command_line.proofs.Stops.{IsNoHelp, enters}
use Rattle.command_line.proofs.Walks.{In}
use Rattle.command_line.specs.CommandLine as spec
use Rattle.command_line.specs.CommandLine.{AreNumbers, AskFor, Asks, IsNumber, Reads, ReadsNumber, ReadsOf}
use Rattle.command_line.specs.declared.subcommand.Subcommand.{Subcommand}
use Rattle.command_line.specs.declared.subcommand.Subcommand.TheVariants.{Replay, Schedule, Decode, Stress, Words, Image, Encode, Trace, Range, Convert}

-- a subcommand as clap builds it
abbrev leaf : App → Shape
leaf a = built_leaf (inherited (with_leaf_noted (marked_built spec.smmuq.top)) a.top)

abbrev made : Rule → Rule
made r = with_index 1 (filled r)

abbrev rows_of_leaf : App → List Text → List Row
rows_of_leaf a words = rows_after (leaf a).rules [] words

differ : (a b : Text) → bytes_eq a b ≡ false → a ≡ b → ⊥
differ a b unlike is = true≢false (sym ((bytes_eq-Decides a b).1 is) ∙ unlike)

read_number : (name : Text) (low high : ℕ) (rows : List Row) (n : ℕ) (text : Text) → high < 2 ^ 32 → one_of name rows ≡ Some (without_minus text)
    → value_kinds false (Signed (pos low) (pos high)) text ≡ [] → ReadsNumber rows name n → IsNumber name low high rows n
read_number name low high rows n text small one passes reads =
    let writes = number_writes low high text passes in
    let few : digits_value 10 (without_leading_plus (without_minus text)) < 2 ^ 32 = omega (arith, writes.2) in
    let is = reads (without_minus text) one writes.0 few in
    (without_minus text, one, writes.0, is, omega (arith, is, writes.1), omega (arith, is, writes.2))

of_replay : (rows : List Row) (subcommand : Subcommand) → ReadsOf (codes "replay") rows subcommand → Asks (codes "replay") rows subcommand
of_replay rows Replay h = refl
of_replay rows Schedule h = h
of_replay rows (Decode word) h = h
of_replay rows (Stress numbers) h = absurd (differ _ _ refl h.0)
of_replay rows (Words asked) h = absurd (differ _ _ refl h.0)
of_replay rows (Image asked) h = absurd (differ _ _ refl h.0)
of_replay rows Encode h = absurd (differ _ _ refl h)
of_replay rows Trace h = absurd (differ _ _ refl h)
of_replay rows (Range asked) h = absurd (differ _ _ refl h.0)
of_replay rows (Convert asked) h = absurd (differ _ _ refl h.0)

of_schedule : (rows : List Row) (subcommand : Subcommand) → ReadsOf (codes "schedule") rows subcommand → Asks (codes "schedule") rows subcommand
of_schedule rows Replay h = absurd (h.0 refl)
of_schedule rows Schedule h = h
of_schedule rows (Decode word) h = h
of_schedule rows (Stress numbers) h = absurd (differ _ _ refl h.0)
of_schedule rows (Words asked) h = absurd (differ _ _ refl h.0)
of_schedule rows (Image asked) h = absurd (differ _ _ refl h.0)
of_schedule rows Encode h = absurd (differ _ _ refl h)
of_schedule rows Trace h = absurd (differ _ _ refl h)
of_schedule rows (Range asked) h = absurd (differ _ _ refl h.0)
of_schedule rows (Convert asked) h = absurd (differ _ _ refl h.0)

of_decode : (rows : List Row) (subcommand : Subcommand) → HasValue (codes "HEX") (made spec.hex) rows → ReadsOf (codes "decode") rows subcommand → Asks (codes "decode") rows subcommand
of_decode rows Replay has h = absurd (true≢false (ap is_some (sym has.1 ∙ h.8 refl)))
of_decode rows Schedule has h = h
of_decode rows (Decode word) has h = h
of_decode rows (Stress numbers) has h = absurd (differ _ _ refl h.0)
of_decode rows (Words asked) has h = absurd (differ _ _ refl h.0)
of_decode rows (Image asked) has h = absurd (differ _ _ refl h.0)
of_decode rows Encode has h = absurd (differ _ _ refl h)
of_decode rows Trace has h = absurd (differ _ _ refl h)
of_decode rows (Range asked) has h = absurd (differ _ _ refl h.0)
of_decode rows (Convert asked) has h = absurd (differ _ _ refl h.0)

record HasNumbers (rows : List Row) : Type 0 where
  log2 : HasValue (codes "log2") (made spec.log2) rows
  senders : HasValue (codes "senders") (made spec.senders) rows
  batches : HasValue (codes "batches") (made spec.batches) rows
  turns : HasValue (codes "turns") (made spec.turns) rows
  bare : HasValue (codes "bare") (made spec.bare) rows

of_stress : (rows : List Row) (subcommand : Subcommand) → HasNumbers rows → ReadsOf (codes "stress") rows subcommand → Asks (codes "stress") rows subcommand
of_stress rows Replay has h = absurd (h.1 refl)
of_stress rows Schedule has h = h
of_stress rows (Decode word) has h = h
of_stress rows (Words asked) has h = absurd (differ _ _ refl h.0)
of_stress rows (Image asked) has h = absurd (differ _ _ refl h.0)
of_stress rows Encode has h = absurd (differ _ _ refl h)
of_stress rows Trace has h = absurd (differ _ _ refl h)
of_stress rows (Range asked) has h = absurd (differ _ _ refl h.0)
of_stress rows (Convert asked) has h = absurd (differ _ _ refl h.0)
of_stress rows (Stress numbers) has h = (
  refl,
  record {
    log2 = read_number (codes "log2") 1 19 rows numbers.log2 has.log2.0 (omega arith) has.log2.2 has.log2.3 h.1.log2;
    senders = read_number (codes "senders") 1 64 rows numbers.senders has.senders.0 (omega arith) has.senders.2 has.senders.3 h.1.senders;
    batches = read_number (codes "batches") 1 100000 rows numbers.batches has.batches.0 (omega arith) has.batches.2 has.batches.3 h.1.batches;
    turns = read_number (codes "turns") 1 10000000 rows numbers.turns has.turns.0 (omega arith) has.turns.2 has.turns.3 h.1.turns;
    bare = read_number (codes "bare") 0 100000 rows numbers.bare has.bare.0 (omega arith) has.bare.2 has.bare.3 h.1.bare;
  },
)

of_words : (rows : List Row) (subcommand : Subcommand) → ReadsOf (codes "words") rows subcommand → Asks (codes "words") rows subcommand
of_words rows Replay h = absurd (h.2 refl)
of_words rows Schedule h = h
of_words rows (Decode word) h = h
of_words rows (Stress numbers) h = absurd (differ _ _ refl h.0)
of_words rows (Words asked) h = (refl, h.1)
of_words rows (Image asked) h = absurd (differ _ _ refl h.0)
of_words rows Encode h = absurd (differ _ _ refl h)
of_words rows Trace h = absurd (differ _ _ refl h)
of_words rows (Range asked) h = absurd (differ _ _ refl h.0)
of_words rows (Convert asked) h = absurd (differ _ _ refl h.0)

of_image : (rows : List Row) (subcommand : Subcommand) → ReadsOf (codes "image") rows subcommand → Asks (codes "image") rows subcommand
of_image rows Replay h = absurd (h.3 refl)
of_image rows Schedule h = h
of_image rows (Decode word) h = h
of_image rows (Stress numbers) h = absurd (differ _ _ refl h.0)
of_image rows (Words asked) h = absurd (differ _ _ refl h.0)
of_image rows (Image asked) h = (refl, h.1)
of_image rows Encode h = absurd (differ _ _ refl h)
of_image rows Trace h = absurd (differ _ _ refl h)
of_image rows (Range asked) h = absurd (differ _ _ refl h.0)
of_image rows (Convert asked) h = absurd (differ _ _ refl h.0)

of_encode : (rows : List Row) (subcommand : Subcommand) → ReadsOf (codes "encode") rows subcommand → Asks (codes "encode") rows subcommand
of_encode rows Replay h = absurd (h.4 refl)
of_encode rows Schedule h = h
of_encode rows (Decode word) h = h
of_encode rows (Stress numbers) h = absurd (differ _ _ refl h.0)
of_encode rows (Words asked) h = absurd (differ _ _ refl h.0)
of_encode rows (Image asked) h = absurd (differ _ _ refl h.0)
of_encode rows Encode h = refl
of_encode rows Trace h = absurd (differ _ _ refl h)
of_encode rows (Range asked) h = absurd (differ _ _ refl h.0)
of_encode rows (Convert asked) h = absurd (differ _ _ refl h.0)

of_trace : (rows : List Row) (subcommand : Subcommand) → ReadsOf (codes "trace") rows subcommand → Asks (codes "trace") rows subcommand
of_trace rows Replay h = absurd (h.5 refl)
of_trace rows Schedule h = h
of_trace rows (Decode word) h = h
of_trace rows (Stress numbers) h = absurd (differ _ _ refl h.0)
of_trace rows (Words asked) h = absurd (differ _ _ refl h.0)
of_trace rows (Image asked) h = absurd (differ _ _ refl h.0)
of_trace rows Encode h = absurd (differ _ _ refl h)
of_trace rows Trace h = refl
of_trace rows (Range asked) h = absurd (differ _ _ refl h.0)
of_trace rows (Convert asked) h = absurd (differ _ _ refl h.0)

of_range : (rows : List Row) (subcommand : Subcommand) → ReadsOf (codes "range") rows subcommand → Asks (codes "range") rows subcommand
of_range rows Replay h = absurd (h.6 refl)
of_range rows Schedule h = h
of_range rows (Decode word) h = h
of_range rows (Stress numbers) h = absurd (differ _ _ refl h.0)
of_range rows (Words asked) h = absurd (differ _ _ refl h.0)
of_range rows (Image asked) h = absurd (differ _ _ refl h.0)
of_range rows Encode h = absurd (differ _ _ refl h)
of_range rows Trace h = absurd (differ _ _ refl h)
of_range rows (Range asked) h = (refl, h.1)
of_range rows (Convert asked) h = absurd (differ _ _ refl h.0)

of_convert : (rows : List Row) (subcommand : Subcommand) → ReadsOf (codes "convert") rows subcommand → Asks (codes "convert") rows subcommand
of_convert rows Replay h = absurd (h.7 refl)
of_convert rows Schedule h = h
of_convert rows (Decode word) h = h
of_convert rows (Stress numbers) h = absurd (differ _ _ refl h.0)
of_convert rows (Words asked) h = absurd (differ _ _ refl h.0)
of_convert rows (Image asked) h = absurd (differ _ _ refl h.0)
of_convert rows Encode h = absurd (differ _ _ refl h)
of_convert rows Trace h = absurd (differ _ _ refl h)
of_convert rows (Range asked) h = absurd (differ _ _ refl h.0)
of_convert rows (Convert asked) h = (refl, h.1)

decode_has : (words : List Text) → level_fault (leaf spec.decode) [] nothing_held words false [] ≡ [] → HasValue (codes "HEX") (made spec.hex) (rows_of_leaf spec.decode words)
decode_has words e = leaf_value (leaf spec.decode) refl refl refl refl words (codes "HEX") (made spec.hex) e refl refl refl

stress_has : (words : List Text) → level_fault (leaf spec.stress) [] nothing_held words false [] ≡ [] → HasNumbers (rows_of_leaf spec.stress words)
stress_has words e = record {
  log2 = leaf_value (leaf spec.stress) refl refl refl refl words (codes "log2") (made spec.log2) e refl refl refl;
  senders = leaf_value (leaf spec.stress) refl refl refl refl words (codes "senders") (made spec.senders) e refl refl refl;
  batches = leaf_value (leaf spec.stress) refl refl refl refl words (codes "batches") (made spec.batches) e refl refl refl;
  turns = leaf_value (leaf spec.stress) refl refl refl refl words (codes "turns") (made spec.turns) e refl refl refl;
  bare = leaf_value (leaf spec.stress) refl refl refl refl words (codes "bare") (made spec.bare) e refl refl refl;
}

abbrev Follows : Subcommand → List Text → Shape → Type 0
Follows subcommand words s =
    level_fault s [] nothing_held words false [] ≡ [] → ReadsOf s.name (rows_after s.rules [] words) subcommand → Asks s.name (rows_after s.rules [] words) subcommand

help_no : (word : Text) (s : Shape) → s.name ≡ codes "help" → s.aliases ≡ [] → answers_to word (label_of s) ≡ true → IsNoHelp word → ⊥
help_no word s name aliases answers unlike = differ word (codes "help") unlike (sym (sym name ∙ (bytes_eq-Decides s.name word).0 (alone (bytes_eq s.name word) s.aliases aliases answers)))
  where
    alone : (b : Bool) (others : List Text) → others ≡ [] → (b || list_any (λ x. bytes_eq x word) others) ≡ true → b ≡ true
    alone true others none e = refl
    alone false others none e = absurd (true≢false (sym e ∙ ap (list_any (λ x. bytes_eq x word)) none))

by_shape : (s : Shape) (met : Text × List Text) (subcommand : Subcommand) → In s (built spec.smmuq).subs → answers_to met.0 (label_of s) ≡ true → IsNoHelp met.0
    → Follows subcommand met.1 s
by_shape s met subcommand (inl is) answers unlike = subst (Follows subcommand met.1) is (λ e h. of_replay (rows_of_leaf spec.replay met.1) subcommand h)
by_shape s met subcommand (inr (inl is)) answers unlike = subst (Follows subcommand met.1) is (λ e h. of_schedule (rows_of_leaf spec.schedule met.1) subcommand h)
by_shape s met subcommand (inr (inr (inl is))) answers unlike = subst (Follows subcommand met.1) is (λ e h. of_decode (rows_of_leaf spec.decode met.1) subcommand (decode_has met.1 e) h)
by_shape s met subcommand (inr (inr (inr (inl is)))) answers unlike = subst (Follows subcommand met.1) is (λ e h. of_stress (rows_of_leaf spec.stress met.1) subcommand (stress_has met.1 e) h)
by_shape s met subcommand (inr (inr (inr (inr (inl is))))) answers unlike = subst (Follows subcommand met.1) is (λ e h. of_words (rows_of_leaf spec.words met.1) subcommand h)
by_shape s met subcommand (inr (inr (inr (inr (inr (inl is)))))) answers unlike = subst (Follows subcommand met.1) is (λ e h. of_image (rows_of_leaf spec.image met.1) subcommand h)
by_shape s met subcommand (inr (inr (inr (inr (inr (inr (inl is))))))) answers unlike = subst (Follows subcommand met.1) is (λ e h. of_encode (rows_of_leaf spec.encode met.1) subcommand h)
by_shape s met subcommand (inr (inr (inr (inr (inr (inr (inr (inl is)))))))) answers unlike = subst (Follows subcommand met.1) is (λ e h. of_trace (rows_of_leaf spec.trace met.1) subcommand h)
by_shape s met subcommand (inr (inr (inr (inr (inr (inr (inr (inr (inl is))))))))) answers unlike = subst (Follows subcommand met.1) is (λ e h. of_range (rows_of_leaf spec.range met.1) subcommand h)
by_shape s met subcommand (inr (inr (inr (inr (inr (inr (inr (inr (inr (inl is)))))))))) answers unlike = subst (Follows subcommand met.1) is (λ e h. of_convert (rows_of_leaf spec.convert met.1) subcommand h)
by_shape s met subcommand (inr (inr (inr (inr (inr (inr (inr (inr (inr (inr (inl is))))))))))) answers unlike =
    absurd (help_no met.0 s (subst (λ (x : Shape). x.name ≡ codes "help") is refl) (subst (λ (x : Shape). x.aliases ≡ []) is refl) answers unlike)
by_shape s met subcommand (inr (inr (inr (inr (inr (inr (inr (inr (inr (inr (inr none))))))))))) answers unlike = absurd none

pub asked : (words : List Text) (subcommand : Subcommand) → fault_of spec.smmuq words ≡ [] → Reads (subcommand_of spec.smmuq words) subcommand → AskFor words subcommand
asked words subcommand none reads =
    let entry = enters (built spec.smmuq) words refl refl none in (
      entry.shape.name,
      rows_after entry.shape.rules [] entry.met.1,
      entry.is,
      by_shape entry.shape entry.met subcommand entry.member entry.answers entry.no_help entry.no_fault (subst (λ o. Reads o subcommand) entry.is reads),
    )
