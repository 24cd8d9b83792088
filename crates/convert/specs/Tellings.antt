-- What the status of a run says.
use Rattle.std.specs.Prelude.{ℕ, List, Option}
use Rattle.script.specs.declared.status.Status.{Status}
use Rattle.line_answers.specs.Tellings.{TellsOfLines}
use Rattle.guest_commands.specs.Mappings.{Mapping}
use Rattle.convert.specs.Answers.{guest_answer}

-- Of a reader that had this input and has `rest` left, and a writer that held `before` and holds `after`. If all lines
-- were served, the run is good if the guest's queue goes on behind each command, and refused if it doesn't behind one,
-- or a line is bad; it is also refused if a line ended it.
abbrev pub TellsOfGuest : Mapping → Status → Option (List ℕ) → Option (List ℕ) → Option (List ℕ) → Option (List ℕ) → Type 0
TellsOfGuest mapping status input rest before after = TellsOfLines (guest_answer mapping) status input rest before after
