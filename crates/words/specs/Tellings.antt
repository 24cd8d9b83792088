-- What the status of a run says.
use Rattle.std.specs.Prelude.{◌≡◌, ℕ, List, Option}
use Rattle.script.specs.declared.status.Status.{Status}
use Rattle.script.specs.Statuses.{exit_status}
use Rattle.line_answers.specs.Tellings.{TellsOf, TellsOfLines, ExitsAsLines}
use Rattle.words.specs.LineAnswers.{answer_of}
use Rattle.words.specs.DumpAnswers.{dump_answer}
use Rattle.words.specs.Logs.{Comes, all_good}

-- Of a reader that had this input and has `rest` left, and a writer that held `before` and holds `after`. If all lines
-- were served, the run is good if each was a legal command or skipped, and refused if one wasn't; it is also refused if
-- a line ended it.
abbrev pub TellsOfWords : Status → Option (List ℕ) → Option (List ℕ) → Option (List ℕ) → Option (List ℕ) → Type 0
TellsOfWords status input rest before after = TellsOfLines answer_of status input rest before after

-- It ended with the exit status of a run.
abbrev pub ExitsAsWords : ℕ → Option (List ℕ) → Option (List ℕ) → Option (List ℕ) → Option (List ℕ) → Type 0
ExitsAsWords exit input rest before after = ExitsAsLines answer_of exit input rest before after

-- The same of the lines of a kernel's log. A half that no other follows isn't good.
abbrev pub TellsOfLog : Status → Option (List ℕ) → Option (List ℕ) → Option (List ℕ) → Option (List ℕ) → Type 0
TellsOfLog status input rest before after = TellsOf Comes all_good status input rest before after

abbrev pub ExitsAsLog : ℕ → Option (List ℕ) → Option (List ℕ) → Option (List ℕ) → Option (List ℕ) → Type 0
ExitsAsLog exit input rest before after = (status : Status) × (exit ≡ exit_status status) × TellsOfLog status input rest before after

-- The same of the lines of a hex dump, each of which is answered on its own.
abbrev pub TellsOfDump : Status → Option (List ℕ) → Option (List ℕ) → Option (List ℕ) → Option (List ℕ) → Type 0
TellsOfDump status input rest before after = TellsOfLines dump_answer status input rest before after

abbrev pub ExitsAsDump : ℕ → Option (List ℕ) → Option (List ℕ) → Option (List ℕ) → Option (List ℕ) → Type 0
ExitsAsDump exit input rest before after = ExitsAsLines dump_answer exit input rest before after
