-- What the status of a run says. `answer_of` says what a line is answered with.
use Rattle.std.specs.Prelude.{◌≡◌, ℕ, List, Bool, true, false, if◌then◌else◌, Option, IfSome, ◌⊎◌}
use Rattle.script.specs.declared.status.Status.{Status}
use Rattle.script.specs.declared.status.Status.TheVariants.{Good, Refused, NoMemory, ReadFailed, WriteFailed, Endless}
use Rattle.script.specs.Lines.{lines_of}
use Rattle.script.specs.Outcome.{Outcome}
use Rattle.script.specs.Statuses.{Tells, exit_status}
use Rattle.line_answers.specs.LineAnswers.{LineAnswer}
use Rattle.line_answers.specs.Answering.{Comes, all_good}

-- It is refused if any line isn't good.
abbrev pub judged : Status → Bool → Status
judged Good all_good = if all_good then Good else Refused
judged Refused all_good = Refused
judged NoMemory all_good = NoMemory
judged ReadFailed all_good = ReadFailed
judged WriteFailed all_good = WriteFailed
judged Endless all_good = Endless

-- Of a reader that had this input and has `rest` left, and a writer that held `before` and holds `after`. `may` says what
-- lines may come to, `all_good` whether they are all good. If all lines were served, the run is good if they are, and
-- refused if they aren't; it is also refused if a line ended it.
abbrev pub TellsOf : (ℕ → List (List ℕ) → Outcome → Type 0) → (List (List ℕ) → Bool) → Status → Option (List ℕ) → Option (List ℕ) → Option (List ℕ) → Option (List ℕ) → Type 0
TellsOf may all_good Good input rest before after = Tells may Good input rest before after × IfSome input (λ bytes. all_good (lines_of bytes) ≡ true)
TellsOf may all_good Refused input rest before after =
    (Tells may Good input rest before after × IfSome input (λ bytes. all_good (lines_of bytes) ≡ false)) ⊎ Tells may Refused input rest before after
TellsOf may all_good NoMemory input rest before after = Tells may NoMemory input rest before after
TellsOf may all_good ReadFailed input rest before after = Tells may ReadFailed input rest before after
TellsOf may all_good WriteFailed input rest before after = Tells may WriteFailed input rest before after
TellsOf may all_good Endless input rest before after = Tells may Endless input rest before after

-- The same of lines that are each answered on their own.
abbrev pub TellsOfLines : (List ℕ → LineAnswer) → Status → Option (List ℕ) → Option (List ℕ) → Option (List ℕ) → Option (List ℕ) → Type 0
TellsOfLines answer_of status input rest before after = TellsOf (Comes answer_of) (all_good answer_of) status input rest before after

-- It ended with the exit status of a run.
abbrev pub ExitsAsLines : (List ℕ → LineAnswer) → ℕ → Option (List ℕ) → Option (List ℕ) → Option (List ℕ) → Option (List ℕ) → Type 0
ExitsAsLines answer_of exit input rest before after = (status : Status) × (exit ≡ exit_status status) × TellsOfLines answer_of status input rest before after
