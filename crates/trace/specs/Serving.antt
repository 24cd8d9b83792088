-- What is right for a line, by the commands that were taken before it.
use Rattle.std.specs.Prelude.{◌≡◌, ◌≢◌, ◌↔◌, ℕ, List, [], ◌∷◌, ◌++◌, length, Some, None, Result, Ok, Err, OnOk, OnErr, ⊤, ◌⊎◌}
use Rattle.std.specs.List.{remove}
use Rattle.cmdcodec.specs.declared.raw.Raw.{Raw}
use Rattle.ringcore.specs.Limits.{most_reserved}
use Rattle.ringcore.specs.world.World.{Taken}
use Rattle.caches.specs.declared.fault.CacheFault.TheVariants.{NoMemory}
use Rattle.caches.specs.declared.tag.Entry.{Entry}
use Rattle.caches.specs.declared.tag.Tag.{Tag}
use Rattle.engine.specs.declared.answer.StepAnswer.TheVariants as step
use Rattle.engine.specs.declared.verdict.Verdict.TheVariants as verdict
use Rattle.engine.specs.declared.remedy.AckFault.{AckFault}
use Rattle.engine.specs.declared.remedy.Remedy.{Remedy}
use Rattle.engine.specs.Stops.{IsStopped, MayComeNext, IsAcknowledgementAnswer}
use Rattle.transactions.specs.declared.transaction.BeginFault.TheVariants as begin
use Rattle.transactions.specs.declared.tracked_verdict.TrackedVerdict.{TrackedVerdict}
use Rattle.transactions.specs.declared.tracked_verdict.TrackedVerdict.TheVariants.{Judged, Waiting}
use Rattle.transactions.specs.declared.walk.WalkFault.TheVariants.{Refused as RefusedBy}
use Rattle.transactions.specs.Outstanding.{HasCoveredOutstanding}
use Rattle.transactions.specs.Tracking.{IsTracked, with_acknowledged}
use Rattle.transactions.specs.TrackedVerdicts.{IsLegalSync, IsTrackedVerdict, IsWaiting, took_by}
use Rattle.transactions.specs.Transactions.{TransactionValue, IsBeginAnswer, IsEnded}
use Rattle.transactions.specs.Walks.{WalkAnswer, IsWalkAnswer, IsCachesAnswer, with_walked}
use Rattle.transactions.specs.Walks.{walk_now, began_on}
use Rattle.trace.specs.declared.access.OpenAccess.{OpenAccess}
use Rattle.trace.specs.declared.log_fault.LogFault.{LogFault}
use Rattle.trace.specs.declared.log_fault.LogFault.TheVariants.{Memory, NoWalk, AccessOpen, NoAccess, TooManyAccesses, OtherCommand, Wrong}
use Rattle.trace.specs.declared.reply.Reply.{Reply}
use Rattle.trace.specs.declared.reply.Reply.TheVariants as reply
use Rattle.trace.specs.declared.request.Conduct.{Conduct}
use Rattle.trace.specs.declared.request.Request.{Request}
use Rattle.trace.specs.declared.request.Request.TheVariants as asks
use Rattle.trace.specs.Traces.{TraceValue, walk_of, with_walk, IsOpen, IsOpenAt}

-- ---- a fill

abbrev pub fill_reply : WalkAnswer → Reply
fill_reply (Ok was) = reply.Filled
fill_reply (Err fault) = reply.NotFilled fault

-- What a walk that began after so many commands read is filled, or isn't, by those that were taken.
-- A want of memory is no answer: it ends the run.
pub record IsFill (taken : List Taken) (began : ℕ) (tag : Tag) (value : ℕ)
    (old : TraceValue) (said : Reply) (new : TraceValue) : Type 0 where
  pub answer : WalkAnswer
  pub said_is : said ≡ fill_reply answer
  pub by_walk : IsWalkAnswer taken began tag answer
  pub by_caches : IsCachesAnswer old.unit.unit.caches tag answer
  pub had_memory : answer ≢ Err (RefusedBy NoMemory)
  pub filled : OnOk answer (new ≡ record old { unit = with_walked began tag value old.unit })
  pub kept : OnErr answer (new ≡ old)

pub record HasFilled (taken : List Taken) (number : ℕ) (tag : Tag) (value : ℕ)
    (old : TraceValue) (said : Reply) (new : TraceValue) : Type 0 where
  pub walk : ℕ
  pub walk_is : walk_of number old.walks ≡ Some walk
  pub fill : IsFill taken (began_on old.unit walk) tag value old said new

-- ---- an access

-- It begins with the entry that is held, unless one of this number isn't over.
pub record HasBegun (number : ℕ) (tag : Tag) (old : TraceValue) (value : ℕ)
    (new : TraceValue) : Type 0 where
  pub unused : ¬ IsOpen number old.accesses
  pub entry : Entry
  pub token : TransactionValue
  pub begun : IsBeginAnswer old.unit tag new.unit (Ok (entry, token))
  pub value_is : value ≡ entry.value
  pub new_is : new ≡ record old {
    unit = new.unit;
    accesses = record { number = number; transaction = token } ∷ old.accesses;
  }

-- Nothing is held.
pub record HasMissed (number : ℕ) (tag : Tag) (old : TraceValue) (new : TraceValue) : Type 0 where
  pub unused : ¬ IsOpen number old.accesses
  pub missed : IsBeginAnswer old.unit tag old.unit (Err begin.NotHeld)
  pub new_is : new ≡ old

abbrev pub IsUse : ℕ → Tag → TraceValue → Reply → TraceValue → Type 0
IsUse number tag old (reply.Using value) new = HasBegun number tag old value new
IsUse number tag old reply.NotHeld new = HasMissed number tag old new
IsUse number tag old other new = ⊥

-- The access of this number is over.
pub record HasEnded (number : ℕ) (old new : TraceValue) : Type 0 where
  pub place : ℕ
  pub access : OpenAccess
  pub open_at : IsOpenAt number old.accesses place access
  pub ended : IsEnded old.unit access.transaction new.unit
  pub new_is : new ≡ record old { unit = new.unit; accesses = remove old.accesses place }

-- ---- a command

abbrev pub verdict_reply : TrackedVerdict → Reply
verdict_reply (Judged (verdict.Applied command removed)) = reply.Step (step.Applied command removed)
verdict_reply (Judged (verdict.Stopped ill)) = reply.Step (step.Stopped ill)
verdict_reply (Judged (verdict.Replaced ill)) = reply.Step (step.Replaced ill)
verdict_reply (Waiting transactions) = reply.Waiting transactions

-- It is judged. It waits exactly if it is a legal CMD_SYNC and an access isn't over whose entry a
-- command taken since covers.
pub record HasJudged (taken : List Taken) (raw : Raw) (old : TraceValue) (said : Reply)
    (new : TraceValue) (more : List Taken) : Type 0 where
  pub running : ¬ IsStopped old.unit.unit.stop.mode
  pub next : MayComeNext raw old.unit.unit.stop
  pub verdict : TrackedVerdict
  pub said_is : said ≡ verdict_reply verdict
  pub judged : IsTrackedVerdict raw old.unit new.unit verdict
  pub waits : IsWaiting verdict ↔ (IsLegalSync raw × HasCoveredOutstanding old.unit.outstanding taken)
  pub more_are : more ≡ took_by raw verdict
  pub new_is : new ≡ record old { unit = new.unit }

-- None is taken: consumption is stopped, or as many were taken as a ring ever has.
abbrev pub TakesNone : List Taken → TraceValue → Reply → TraceValue → List Taken → Type 0
TakesNone taken old said new more =
    (((said ≡ reply.Step step.StillStopped) × IsStopped old.unit.unit.stop.mode)
    ⊎ ((said ≡ reply.Step step.Exhausted) × (length taken ≡ most_reserved)))
    × (new ≡ old) × (more ≡ [])

abbrev pub IsTake : List Taken → Raw → TraceValue → Reply → TraceValue → List Taken → Type 0
IsTake taken raw old said new more =
    TakesNone taken old said new more ⊎ HasJudged taken raw old said new more

-- ---- an acknowledgement

abbrev pub acknowledgement_reply : Result ⊤ AckFault → Reply
acknowledgement_reply (Ok done) = reply.Acknowledged
acknowledgement_reply (Err fault) = reply.NotAcknowledged fault

pub record IsAcknowledgement (gerrorn : ℕ) (remedy : Remedy) (old : TraceValue) (said : Reply)
    (new : TraceValue) : Type 0 where
  pub answer : Result ⊤ AckFault
  pub said_is : said ≡ acknowledgement_reply answer
  pub by_stop : IsAcknowledgementAnswer old.unit.unit.stop gerrorn answer
  pub told : OnOk answer (new ≡ record old { unit = with_acknowledged remedy old.unit })
  pub kept : OnErr answer (new ≡ old)

-- ---- what the model did

-- It did what is right, or nothing says what is.
abbrev pub IsConduct : Conduct → TraceValue → Reply → Type 0
IsConduct conduct old reply.Right = old.right ≡ Some conduct
IsConduct conduct old reply.Unjudged = old.right ≡ None
IsConduct conduct old other = ⊥

-- ---- any line

-- What is right for a line that says this, and the commands that are taken at it.
abbrev pub Served :
    List Taken → Request → TraceValue → Reply → TraceValue → List Taken → Type 0
Served taken asks.Nothing old said new more = (said ≡ reply.Nothing) × (new ≡ old) × (more ≡ [])
Served taken (asks.Walk number) old said new more =
    (said ≡ reply.Walking) × (new ≡ with_walk number (walk_now old.unit) old) × (more ≡ [])
Served taken (asks.Fill number tag value) old said new more =
    HasFilled taken number tag value old said new × (more ≡ [])
Served taken (asks.Use number tag) old said new more = IsUse number tag old said new × (more ≡ [])
Served taken (asks.End number) old said new more =
    (said ≡ reply.Ended) × HasEnded number old new × (more ≡ [])
Served taken (asks.Command raw) old said new more = IsTake taken raw old said new more
Served taken (asks.Acknowledge gerrorn remedy) old said new more =
    IsAcknowledgement gerrorn remedy old said new × (more ≡ [])
Served taken (asks.Did conduct) old said new more =
    IsConduct conduct old said × (new ≡ old) × (more ≡ [])

-- Why a line that says this ends the run.
abbrev pub IsFaulty : Request → TraceValue → LogFault → Type 0
IsFaulty (asks.Fill number tag value) old NoWalk = walk_of number old.walks ≡ None
IsFaulty (asks.Use number tag) old AccessOpen = IsOpen number old.accesses
IsFaulty (asks.Use number tag) old TooManyAccesses =
    ¬ IsOpen number old.accesses × IsBeginAnswer old.unit tag old.unit (Err begin.Full)
IsFaulty (asks.End number) old NoAccess = ¬ IsOpen number old.accesses
IsFaulty (asks.Command raw) old OtherCommand = ¬ MayComeNext raw old.unit.unit.stop
IsFaulty (asks.Did conduct) old (Wrong right) = (old.right ≡ Some right) × (conduct ≢ right)
IsFaulty request old fault = ⊥

-- ---- what the code does

-- More is taken, as a line that says this is served, whatever was taken before.
pub record Serves (taken : List Taken) (request : Request) (old : TraceValue) (said : Reply)
    (new : TraceValue) : Type 0 where
  pub more : List Taken
  pub served : Served taken request old said new more
  pub tracked : IsTracked new.unit (taken ++ more)

-- A line that says this is served, or ends the run; if memory ran out, nothing is known.
abbrev pub Does : Request → TraceValue → Result Reply LogFault → TraceValue → Type 0
Does request old (Ok said) new =
    (taken : List Taken) → IsTracked old.unit taken → Serves taken request old said new
Does request old (Err Memory) new = ⊤
Does request old (Err fault) new = IsFaulty request old fault
