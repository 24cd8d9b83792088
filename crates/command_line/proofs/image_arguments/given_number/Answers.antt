use Rattle.std.proofs.Common.{◌≡◌, ◌∙◌, ◌<◌, ◌^◌, ℕ, List, ap, Option, Some, None, Result, Ok, Err}
use Rattle.std.specs.Str.Parse.{ExplainsUnsignedError, HasUnsignedDigitsIfOk, IsNumeral, ParsesUnsigned, digits_value, without_leading_plus}
use Rattle.clap.specs.Words.{ReadsOne, Text, found_of}
use Rattle.clap.proofs.WalkLemmas.{one_text-rows}
use Rattle.command_line.proofs.image_arguments.given_number.Goals as goal

read : (E : Type 0) (G : List ℕ → Result ℕ E → Type 0) (text : Text) (r : Option ℕ) → ((u : List ℕ) (x : Result ℕ E) → G u x → ParsesUnsigned 32 10 u x)
    → ReadsOne G text r → IsNumeral 10 (without_leading_plus text) → digits_value 10 (without_leading_plus text) < 2 ^ 32
    → r ≡ Some (digits_value 10 (without_leading_plus text))
read E G text (Some n) only h numeral small = ap Some (only text (Ok n) h).1
read E G text None only h numeral small = absurd (only text (Err h.0) h.1 (numeral, small))

pub returns : goal.returns
returns c = record {
  left_out = λ is. c.get_one.ensures.none (one_text-rows (found_of c.args.matches.now) c.args.name.now ∙ is);
  read = λ text is numeral small.
      let one = c.get_one.ensures.value text (one_text-rows (found_of c.args.matches.now) c.args.name.now ∙ is) in
      read _ (λ bs r. ParsesUnsigned 32 10 bs r × ExplainsUnsignedError 10 bs r × HasUnsignedDigitsIfOk bs r) text c.get_one.result (λ u x g. g.0) one numeral small;
}
