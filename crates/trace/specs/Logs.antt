-- What a log is answered with, line by line.
use Rattle.std.specs.Prelude.{◌≡◌, ℕ, ◌+◌, ◌<◌, ◌≤◌, List, [], ◌∷◌, ◌++◌, ◌⊎◌, Bool, true, false, Option, Some, None, Result, Ok, Err, length, codes}
use Rattle.ringcore.specs.world.World.{Taken}
use Rattle.script.specs.declared.ending.Ending.{Ending}
use Rattle.script.specs.declared.ending.Ending.TheVariants.{Finished, Refused}
use Rattle.script.specs.Outcome.{Outcome, fault_line}
use Rattle.transactions.specs.Tracking.{IsTracked}
use Rattle.trace.specs.declared.log_fault.LogFault.{LogFault}
use Rattle.trace.specs.declared.reply.Reply.{Reply}
use Rattle.trace.specs.declared.request.Request.{Request}
use Rattle.trace.specs.Replies.{reply_text, right_after, fault_name}
use Rattle.trace.specs.Requests.{request_of}
use Rattle.trace.specs.Serving.{Served, IsFaulty, Does}
use Rattle.trace.specs.Traces.{TraceValue, new_trace}

-- ---- a line

abbrev pub IsLong : List ℕ → Type 0
IsLong line = 4096 < length line

-- what is kept once a line was answered so
abbrev pub told : Reply → TraceValue → TraceValue
told said t = record t { right = right_after said t.right }

-- It is served, and what is right is kept; or it ends the run.
abbrev pub IsToldAs : Request → TraceValue → Result Reply LogFault → TraceValue → Type 0
IsToldAs request old (Ok said) new =
    (served : TraceValue) × Does request old (Ok said) served × (new ≡ told said served)
IsToldAs request old (Err fault) new = (served : TraceValue) × Does request old (Err fault) served

-- The line has at most 4,096 bytes, is a good one, and this is right for it.
pub record IsAnswered (taken : List Taken) (line : List ℕ) (old : TraceValue) (said : Reply)
    (new : TraceValue) (more : List Taken) : Type 0 where
  pub short : length line ≤ 4096
  pub request : Request
  pub asked : request_of line ≡ Some request
  pub served : TraceValue
  pub right : Served taken request old said served more
  pub new_is : new ≡ told said served

-- The line ends the run, for a reason of this name: it has more than 4,096 bytes, it is no line of
-- a log, or what it says is at fault.
pub record HasFault (line : List ℕ) (old : TraceValue) (name : List ℕ) : Type 0 where
  pub short : length line ≤ 4096
  pub request : Request
  pub asked : request_of line ≡ Some request
  pub fault : LogFault
  pub faulty : IsFaulty request old fault
  pub name_is : name ≡ fault_name fault

abbrev pub IsEnded : List ℕ → TraceValue → List ℕ → Type 0
IsEnded line old name =
    (IsLong line × (name ≡ codes "long line"))
    ⊎ (((request_of line ≡ None) × (name ≡ codes "bad line"))
    ⊎ HasFault line old name)

-- ---- one line after another

-- The lines, the first of which has this number, are answered with this text, and the run ends so.
unfoldable pub Comes :
    List Taken → TraceValue → ℕ → List (List ℕ) → List ℕ → Ending → Type 0
Comes taken old number [] text ending = (text ≡ []) × (ending ≡ Finished)
Comes taken old number (line ∷ lines) text ending =
    ((said : Reply) × (new : TraceValue) × (more : List Taken) × (rest : List ℕ)
    × IsAnswered taken line old said new more × (text ≡ reply_text said ++ rest)
    × Comes (taken ++ more) new (number + 1) lines rest ending)
    ⊎ ((name : List ℕ) × IsEnded line old name × (text ≡ fault_line number name)
    × (ending ≡ Refused))

-- The text is that of the lines, or without an ending a beginning of that of the first of them.
abbrev pub EndsSo :
    List Taken → TraceValue → ℕ → List (List ℕ) → List ℕ → Option Ending → Type 0
EndsSo taken old number lines text (Some ending) = Comes taken old number lines text ending
EndsSo taken old number lines text None =
    (first later : List (List ℕ)) × (rest : List ℕ) × (ending : Ending)
    × (lines ≡ first ++ later) × Comes taken old number first (text ++ rest) ending

-- ---- a log

-- the form that crate script asks for
abbrev pub MayTell : ℕ → List (List ℕ) → Outcome → Type 0
MayTell number lines outcome = EndsSo [] new_trace number lines outcome.text outcome.ending

-- The same behind some lines, whatever was taken; or before the first, if nothing is kept yet.
abbrev pub Gives : Option TraceValue → ℕ → List (List ℕ) → Outcome → Type 0
Gives None number lines outcome = MayTell number lines outcome
Gives (Some t) number lines outcome =
    (taken : List Taken) → IsTracked t.unit taken
    → EndsSo taken t number lines outcome.text outcome.ending

-- ---- what the code does with a line

-- It was answered and the run goes on, whatever was taken before; or it ends the run.
abbrev pub AnswersLine : ℕ → List ℕ → TraceValue → TraceValue → List ℕ → Bool → Type 0
AnswersLine number line old new answer true =
    (taken : List Taken) → IsTracked old.unit taken
    → (said : Reply) × (more : List Taken) × IsAnswered taken line old said new more
    × (answer ≡ reply_text said) × IsTracked new.unit (taken ++ more)
AnswersLine number line old new answer false =
    (name : List ℕ) × IsEnded line old name × (answer ≡ fault_line number name)

pub record IsLineAnswer (number : ℕ) (line : List ℕ) (old new : TraceValue)
    (before after : List ℕ) (goes_on : Bool) : Type 0 where
  pub answer : List ℕ
  pub text : after ≡ before ++ answer
  pub answers : AnswersLine number line old new answer goes_on

-- Nothing is kept yet, or what is kept before the first line.
abbrev pub IsNew : Option TraceValue → Type 0
IsNew None = Unit {0}
IsNew (Some t) = (t ≡ new_trace) × IsTracked t.unit []
