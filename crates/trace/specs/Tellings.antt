-- What the status of a run over a log says.
use Rattle.std.specs.Prelude.{ℕ, List, Option}
use Rattle.script.specs.declared.status.Status.{Status}
use Rattle.script.specs.Statuses.{Tells, ExitsAs}
use Rattle.trace.specs.Logs.{MayTell}

-- Of a reader that had this input and has `rest` left, and a writer that held `before` and holds
-- `after`. It is good if the model did what is right wherever the log says what it did, and refused
-- if a line ended it.
abbrev pub TellsOfLog :
    Status → Option (List ℕ) → Option (List ℕ) → Option (List ℕ) → Option (List ℕ) → Type 0
TellsOfLog status input rest before after = Tells MayTell status input rest before after

-- It ended with the exit status of a run.
abbrev pub ExitsAsTrace :
    ℕ → Option (List ℕ) → Option (List ℕ) → Option (List ℕ) → Option (List ℕ) → Type 0
ExitsAsTrace exit input rest before after = ExitsAs MayTell exit input rest before after
