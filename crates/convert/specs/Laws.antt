-- Whether a line is good doesn't depend on the guest.
use Rattle.std.specs.Prelude.{◌≡◌, ℕ, List, Option, Some, None, refl}
use Rattle.cmdcodec.specs.declared.raw.Raw.{Raw}
use Rattle.line_answers.specs.LineWords.{words_of}
use Rattle.guest_commands.specs.declared.ended.Stop.{Stop}
use Rattle.guest_commands.specs.Mappings.{Mapping}
use Rattle.guest_commands.specs.Conversions.{stop_for}
use Rattle.convert.specs.declared.line.Brought.{Brought}
use Rattle.convert.specs.declared.line.Brought.TheVariants.{Nothing, Command, Bad}
use Rattle.convert.specs.Answers.{answer_to, brought_by, command_answer, converted_answer, guest_answer}

converted_alike : (one other : Mapping) (raw : Raw) (stop : Option Stop) → (converted_answer one raw stop).1 ≡ (converted_answer other raw stop).1
converted_alike one other raw None = refl
converted_alike one other raw (Some stop) = refl

command_alike : (one other : Mapping) (raw : Raw) → (command_answer one raw).1 ≡ (command_answer other raw).1
unfolding command_answer
command_alike one other raw = converted_alike one other raw (stop_for raw)

brought_alike : (one other : Mapping) (brought : Brought) → (answer_to one brought).is_good ≡ (answer_to other brought).is_good
brought_alike one other Nothing = refl
brought_alike one other (Command raw) = command_alike one other raw
brought_alike one other Bad = refl

pub judged_alike : (one other : Mapping) (line : List ℕ) → (guest_answer one line).is_good ≡ (guest_answer other line).is_good
unfolding guest_answer
judged_alike one other line = brought_alike one other (brought_by (words_of line))
