-- What the status of a run says, if all lines were good, or one at least wasn't.
use Rattle.std.proofs.Common.{◌≡◌, ℕ, Bool, true, false, List, Option, Some, None, IfSome, Ok, Err, refl, sym, inl, inr}
use Rattle.std.specs.Prelude.{Result, IfOk}
use Rattle.script.specs.declared.ending.Ending.{Ending}
use Rattle.script.specs.declared.ending.Ending.TheVariants.{Finished, Refused as Ended}
use Rattle.script.specs.declared.error.ServeError.{ServeError}
use Rattle.script.specs.declared.error.ServeError.TheVariants.{Memory, Read, Write, Endless as NoEnd}
use Rattle.script.specs.declared.status.Status.{Status}
use Rattle.script.specs.declared.status.Status.TheVariants.{Good, Refused, NoMemory, ReadFailed, WriteFailed, Endless}
use Rattle.script.specs.Lines.{lines_of}
use Rattle.script.specs.Statuses.{Tells, status_of}
use Rattle.script.specs.Outcome.{Outcome}
use Rattle.line_answers.specs.Tellings.{TellsOf, judged}

-- what holds if the run finished
pub finished : (served : Result Ending ServeError) (P : Type 0) → IfOk served (λ ending. ending ≡ Finished → P) → status_of served ≡ Good → P
finished (Ok Finished) P holds e = holds refl
finished (Ok Ended) P holds e = absurd cc
finished (Err (Memory m)) P holds e = absurd cc
finished (Err (Read m)) P holds e = absurd cc
finished (Err (Write m)) P holds e = absurd cc
finished (Err NoEnd) P holds e = absurd cc

-- The lines of the input, if they are known, are all good, or aren't.
abbrev pub AreGood : (List (List ℕ) → Bool) → Bool → Option (List ℕ) → Type 0
AreGood all_good good input = IfSome input (λ bytes. good ≡ all_good (lines_of bytes))

known : (all_good : List (List ℕ) → Bool) (good : Bool) (input : Option (List ℕ)) → AreGood all_good good input
    → IfSome input (λ bytes. all_good (lines_of bytes) ≡ good)
known all_good good None are = tt
known all_good good (Some bytes) are = sym are

pub tells_of : (may : ℕ → List (List ℕ) → Outcome → Type 0) (all_good : List (List ℕ) → Bool) (status : Status) (good : Bool) (input rest before after : Option (List ℕ))
    → Tells may status input rest before after → (status ≡ Good → AreGood all_good good input)
    → TellsOf may all_good (judged status good) input rest before after
tells_of may all_good Good true input rest before after tells are = (tells, known all_good true input (are refl))
tells_of may all_good Good false input rest before after tells are = inl (tells, known all_good false input (are refl))
tells_of may all_good Refused good input rest before after tells are = inr tells
tells_of may all_good NoMemory good input rest before after tells are = tells
tells_of may all_good ReadFailed good input rest before after tells are = tells
tells_of may all_good WriteFailed good input rest before after tells are = tells
tells_of may all_good Endless good input rest before after tells are = tells
