-- What the status of a run says.
use Rattle.std.specs.Prelude.{ℕ, List, Option}
use Rattle.script.specs.declared.status.Status.{Status}
use Rattle.line_answers.specs.Tellings.{TellsOfLines, ExitsAsLines}
use Rattle.encode.specs.LineAnswers.{answer_of}

-- Of a reader that had this input and has `rest` left, and a writer that held `before` and holds `after`. If all lines
-- were served, the run is good if each was a command's text or skipped, and refused if one wasn't; it is also refused
-- if a line ended it.
abbrev pub TellsOfEncode : Status → Option (List ℕ) → Option (List ℕ) → Option (List ℕ) → Option (List ℕ) → Type 0
TellsOfEncode status input rest before after = TellsOfLines answer_of status input rest before after

-- It ended with the exit status of a run.
abbrev pub ExitsAsEncode : ℕ → Option (List ℕ) → Option (List ℕ) → Option (List ℕ) → Option (List ℕ) → Type 0
ExitsAsEncode exit input rest before after = ExitsAsLines answer_of exit input rest before after
