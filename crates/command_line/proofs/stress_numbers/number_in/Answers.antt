use Rattle.std.proofs.Common.{◌≡◌, ◌∙◌, ◌<◌, ◌^◌, ℕ, List, Option, Some, None, Result, Ok, Err}
use Rattle.std.specs.Prelude.{unwrap_or}
use Rattle.std.specs.Str.Parse.{ExplainsUnsignedError, HasUnsignedDigitsIfOk, IsNumeral, ParsesUnsigned, digits_value, without_leading_plus}
use Rattle.clap.specs.Words.{ReadsOne, Text, found_of}
use Rattle.clap.proofs.WalkLemmas.{one_text-rows}
use Rattle.command_line.proofs.stress_numbers.number_in.Goals as goal

read : (E : Type 0) (G : List ℕ → Result ℕ E → Type 0) (text : Text) (r : Option ℕ) → ((u : List ℕ) (x : Result ℕ E) → G u x → ParsesUnsigned 32 10 u x)
    → ReadsOne G text r → IsNumeral 10 (without_leading_plus text) → digits_value 10 (without_leading_plus text) < 2 ^ 32
    → unwrap_or r 0 ≡ digits_value 10 (without_leading_plus text)
read E G text (Some n) only h numeral small = (only text (Ok n) h).1
read E G text None only h numeral small = absurd (only text (Err h.0) h.1 (numeral, small))

pub returns : goal.returns
returns c = λ text is numeral small.
    let one = c.get_one.ensures.value text (one_text-rows (found_of c.args.matches.now) c.args.name.now ∙ is) in
    c.unwrap_or.ensures
    ∙ read _ (λ bs r. ParsesUnsigned 32 10 bs r × ExplainsUnsignedError 10 bs r × HasUnsignedDigitsIfOk bs r) text c.get_one.result (λ u x g. g.0) one numeral small
