-- The newest event of a seat's trail, and what it found.
use Rattle.std.specs.Prelude.{◌≡◌, ◌≢◌, ℕ, ◌≤◌, Bool, List, ◌∷◌, ◌++◌, Some}
use Rattle.cmdcodec.specs.declared.raw.Raw.{Raw}
use Rattle.qindex.specs.declared.control.Control.{Control}
use Rattle.qindex.specs.Indexes.{IsGeometry}
use Rattle.qindex.specs.ControlWord.{IsControl}
use Rattle.ringcore.specs.declared.world.event.Who.{Who}
use Rattle.ringcore.specs.declared.world.event.Who.TheVariants.{Sender}
use Rattle.ringcore.specs.declared.world.event.Event.{Event}
use Rattle.ringcore.specs.declared.world.event.Event.TheVariants.{Look, Lost, Ask}
use Rattle.ringcore.specs.world.Trails.{Trail, Run, trail_of, looked}
use Rattle.ringcore.specs.world.World.{world}
use Rattle.ringcore.specs.world.Allowed.{Ring, Allowed, IsRun}
use Rattle.ringcore.specs.world.Laws.{OnlyOf}

-- A seat's own step is the newest event of its trail, and a step of another seat leaves the trail.
abbrev pub StepsGrowTheirTrail : Type 0
StepsGrowTheirTrail = (who : Who) (e : Event) (run : Run) → trail_of who ((who, e) ∷ run) ≡ e ∷ trail_of who run

abbrev pub OthersLeaveTheTrail : Type 0
OthersLeaveTheTrail = (who other : Who) (e : Event) (run : Run) → who ≢ other → trail_of who ((other, e) ∷ run) ≡ trail_of who run

-- The event was allowed after an earlier part of the run, in which the seat has the trail before the event.
pub record WasAllowed (ring : Ring) (run : Run) (who : Who) (e : Event) (before : Trail) : Type 0 where
  pub later : Run
  pub earlier : Run
  pub run_is : run ≡ later ++ (who, e) ∷ earlier
  pub is_run : IsRun ring earlier
  pub only : (senders : ℕ) → OnlyOf senders run → OnlyOf senders earlier
  pub trail_is : trail_of who earlier ≡ before
  pub allowed : Allowed ring (world earlier) before who e

-- The newest event of every trail was allowed.
abbrev pub NewestWasAllowed : Type 0
NewestWasAllowed =
    (ring : Ring) (run : Run) (who : Who) (e : Event) (before : Trail)
    → IsRun ring run → trail_of who run ≡ e ∷ before → WasAllowed ring run who e before

-- What a look found is a control of the ring, and so is what a seat looked at since its last exchange.
abbrev pub LooksFindControls : Type 0
LooksFindControls =
    (ring : Ring) (run : Run) (who : Who) (found : Control) (before : Trail)
    → IsGeometry ring.geometry → IsRun ring run → trail_of who run ≡ Look found ∷ before → IsControl ring.geometry found

abbrev pub LookedAreControls : Type 0
LookedAreControls =
    (ring : Ring) (run : Run) (who : Who) (found : Control)
    → IsGeometry ring.geometry → IsRun ring run → looked (trail_of who run) ≡ Some found → IsControl ring.geometry found

-- What a lost exchange found is a control of the ring, and not what the sender looked at.
pub record FoundAnother (ring : Ring) (before : Trail) (found : Control) : Type 0 where
  pub control : IsControl ring.geometry found
  pub other : (seen : Control) → looked before ≡ Some seen → found ≢ seen

abbrev pub LostFoundAnother : Type 0
LostFoundAnother =
    (ring : Ring) (run : Run) (s : ℕ) (body : List Raw) (closes : Bool) (found : Control) (before : Trail)
    → IsGeometry ring.geometry → IsRun ring run → trail_of (Sender s) run ≡ Lost body closes found ∷ before → FoundAnother ring before found

-- What an ask found is at most the number of batches that a sender may make.
abbrev pub AsksFindFew : Type 0
AsksFindFew =
    (ring : Ring) (run : Run) (s number : ℕ) (before : Trail)
    → IsRun ring run → trail_of (Sender s) run ≡ Ask number ∷ before → number ≤ ring.max_batches
