-- What the status of a run says.
use Rattle.std.specs.Prelude.{◌≡◌, ◌^◌, ℕ, List, Option, Result, Ok, Err}
use Rattle.script.specs.declared.ending.Ending.TheVariants as endings
use Rattle.script.specs.declared.ending.Ending.{Ending}
use Rattle.script.specs.declared.error.ServeError.{ServeError}
use Rattle.script.specs.declared.error.ServeError.TheVariants as errors
use Rattle.script.specs.declared.status.Status.{Status}
use Rattle.script.specs.declared.status.Status.TheVariants.{Good, Refused, NoMemory, ReadFailed, WriteFailed, Endless}
use Rattle.script.specs.Outcome.{Outcome}
use Rattle.script.specs.Writing.{WritesAnswer, WritesNoMemory, WritesBeginning, AnswersWholeLines, ReadsAtLeast}

-- Of a reader that had this input and has `rest` left, and a writer that held `before` and holds `after`.
-- `may` says what the lines of a script may come to.
abbrev pub Tells : (ℕ → List (List ℕ) → Outcome → Type 0) → Status → Option (List ℕ) → Option (List ℕ) → Option (List ℕ) → Option (List ℕ) → Type 0
Tells may Good input rest before after = WritesAnswer may input before after endings.Finished
Tells may Refused input rest before after = WritesAnswer may input before after endings.Refused
Tells may NoMemory input rest before after = WritesNoMemory may input before after
Tells may ReadFailed input rest before after = AnswersWholeLines may input rest before after
Tells may WriteFailed input rest before after = WritesBeginning may input rest before after
Tells may Endless input rest before after = ReadsAtLeast (2 ^ 63) input rest × WritesBeginning may input rest before after

-- the status of a run, by how it was served
abbrev pub status_of : Result Ending ServeError → Status
status_of (Ok endings.Finished) = Good
status_of (Ok endings.Refused) = Refused
status_of (Err (errors.Memory e)) = NoMemory
status_of (Err (errors.Read e)) = ReadFailed
status_of (Err (errors.Write e)) = WriteFailed
status_of (Err errors.Endless) = Endless

-- the exit status of a program
abbrev pub exit_status : Status → ℕ
exit_status Good = 0
exit_status Refused = 1
exit_status NoMemory = 3
exit_status ReadFailed = 4
exit_status WriteFailed = 4
exit_status Endless = 4

-- It ended with the exit status of a run.
abbrev pub ExitsAs : (ℕ → List (List ℕ) → Outcome → Type 0) → ℕ → Option (List ℕ) → Option (List ℕ) → Option (List ℕ) → Option (List ℕ) → Type 0
ExitsAs may exit input rest before after = (status : Status) × (exit ≡ exit_status status) × Tells may status input rest before after
