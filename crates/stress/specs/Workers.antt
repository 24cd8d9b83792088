-- What a worker has sent.
use Rattle.std.specs.Prelude.{◌≡◌, ℕ, zero, suc, ◌+◌, if◌then◌else◌, ◌<◌, ◌≤◌, Bool, true, false, cond, List, [], ◌∷◌, ◌++◌, map, Some, None, slice_get}
use Rattle.cmdcodec.specs.declared.raw.Raw.{Raw}
use Rattle.ringcore.specs.world.Trails.{numbers_given}
use Rattle.ringcore.specs.world.Laws.{own_batches}
use Rattle.ringcore.specs.machine.StepAnswers.{next_number}
use Rattle.ring.specs.Rings.{RingValue}
use Rattle.ring.specs.sender.Senders.{SenderValue}
use Rattle.ring.specs.sender.Publishing.{ReservesNone}
use Rattle.ring.specs.sender.Reserving.{IsRefused}
use Rattle.ring.specs.declared.sender.cause.Cause.{Cause}
use Rattle.stress.specs.declared.attempt.Attempt.{Attempt}
use Rattle.stress.specs.declared.attempt.Attempt.TheVariants.{Refused, Sent, SentBare}
use Rattle.stress.specs.Plans.{PlanValue, IsPlan, body, closes, numbered, planned}

pub record WorkerValue : Type 0 where
  pub plan : PlanValue
  pub sender : SenderValue
  pub sent : ℕ

-- The sender has sent the first `sent` batches of its plan, and nothing else.
pub record IsOnPlan (plan : PlanValue) (sender : SenderValue) (sent : ℕ) : Type 0 where
  pub plan_is : IsPlan plan
  pub known : sender.number < plan.senders
  pub batches_are : own_batches sender.number sender.trail ≡ planned plan sender.number sent
  pub numbers_are : numbers_given sender.trail ≡ numbered plan sent
  pub within : sent ≤ plan.batches

-- ---- what never changes of a worker

-- its plan, its ring, and its sender's number
pub record Assignment : Type 0 where
  pub plan : PlanValue
  pub ring : RingValue
  pub number : ℕ

abbrev pub assignment : WorkerValue → Assignment
assignment w = record { plan = w.plan; ring = w.sender.ring; number = w.sender.number }

abbrev pub assignments : List WorkerValue → List Assignment
assignments ws = map assignment ws

-- of a sender that is to send this plan
abbrev pub assignment_of : PlanValue → SenderValue → Assignment
assignment_of plan s = record { plan = plan; ring = s.ring; number = s.number }

abbrev pub assignments_of : PlanValue → List SenderValue → List Assignment
assignments_of plan ss = map (assignment_of plan) ss

-- ---- before and after

-- It is one of the plan's, and has taken no step.
abbrev pub IsNew : PlanValue → SenderValue → Type 0
IsNew plan s = (s.number < plan.senders) × (s.trail ≡ [])

-- The whole of its plan is sent.
abbrev pub HasSent : PlanValue → SenderValue → Type 0
HasSent plan s = own_batches s.number s.trail ≡ planned plan s.number plan.batches

-- Sender k of these has reserved the batches that are planned for it, in their order, and no others.
abbrev pub HaveSent : PlanValue → List SenderValue → Type 0
HaveSent plan senders = (k : ℕ) (s : SenderValue) → slice_get senders k ≡ Some s → own_batches k s.trail ≡ planned plan k plan.batches

-- ---- a try to send

abbrev pub is_sent : Attempt → Bool
is_sent Refused = false
is_sent (Sent receipt) = true
is_sent SentBare = true

-- This batch was reserved, and no other.
pub record HasReservedOne (body : List Raw) (closes : Bool) (s t : SenderValue) : Type 0 where
  pub batches : own_batches s.number t.trail ≡ own_batches s.number s.trail ++ record { sender = s.number; number = next_number s.trail closes; body = body } ∷ []
  pub numbers : numbers_given t.trail ≡ cond closes (suc (numbers_given s.trail)) (numbers_given s.trail)

-- If it was refused, by what was found then, nothing was reserved, else this batch; the receipt is for it.
abbrev pub HasTried : List Raw → Bool → SenderValue → SenderValue → Attempt → Type 0
HasTried body closes s t Refused = ReservesNone s.trail t.trail × ((cause : Cause) × IsRefused body closes s cause t)
HasTried body closes s t (Sent receipt) = HasReservedOne body closes s t × (receipt.sender ≡ s.number) × (next_number s.trail closes ≡ Some receipt.number)
HasTried body closes s t SentBare = HasReservedOne body closes s t × (next_number s.trail closes ≡ None)

-- A try of the worker's next batch went so.
abbrev pub HasTriedNext : WorkerValue → WorkerValue → Attempt → Type 0
HasTriedNext w v attempt = HasTried (body w.plan w.sender.number (suc w.sent)) (closes w.plan (suc w.sent)) w.sender v.sender attempt

-- A try of the worker's next batch led from `w` to `v`.
pub record IsTry (w v : WorkerValue) : Type 0 where
  pub attempt : Attempt
  pub same : assignment v ≡ assignment w
  pub sent : v.sent ≡ (if is_sent attempt then w.sent + 1 else w.sent)
  pub tried : HasTriedNext w v attempt

-- So many tries, one after another, and nothing else.
abbrev pub HasTriedTimes : ℕ → WorkerValue → WorkerValue → Type 0
HasTriedTimes zero w v = v ≡ w
HasTriedTimes (suc n) w v = (between : WorkerValue) × HasTriedTimes n w between × IsTry between v

-- It tried until the whole of its plan was sent, or as often as its plan has turns.
pub record HasWorked (w v : WorkerValue) : Type 0 where
  pub tries : ℕ
  pub tried : HasTriedTimes tries w v
  pub few : tries ≤ w.plan.turns
  pub enough : (v.sent ≡ v.plan.batches → ⊥) → tries ≡ w.plan.turns
