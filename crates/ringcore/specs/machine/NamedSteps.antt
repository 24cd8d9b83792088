-- The step of each event, and that every allowed event is taken by its step.
use Rattle.std.specs.Prelude.{◌≡◌, ℕ, ◌+◌, ◌∷◌, length, Some, None, is_some}
use Rattle.arrayvec.specs.ArrayVec.{ArrayVec}
use Rattle.cmdcodec.specs.declared.raw.Raw.{Raw}
use Rattle.qindex.specs.Positions.{place}
use Rattle.qindex.specs.Indexes.{IsGeometry}
use Rattle.ringcore.specs.Limits.{flags_a_word}
use Rattle.ringcore.specs.declared.world.event.Who.{Who}
use Rattle.ringcore.specs.declared.world.event.Who.TheVariants.{Consumer, Sender}
use Rattle.ringcore.specs.declared.world.event.Half.{Half}
use Rattle.ringcore.specs.declared.world.event.Half.TheVariants.{Lo, Hi}
use Rattle.ringcore.specs.declared.world.event.Event.{Event}
use Rattle.ringcore.specs.declared.world.event.Event.TheVariants as event
use Rattle.ringcore.specs.declared.machine.step.Step.{Step}
use Rattle.ringcore.specs.declared.machine.step.Step.TheVariants.{Look, Reserve, Write, Flip, Test, Read, Advance, Close, Acknowledge, Ask}
use Rattle.ringcore.specs.world.Trails.{Run}
use Rattle.ringcore.specs.world.World.{World, head, world}
use Rattle.ringcore.specs.world.Allowed.{Ring, IsRun}
use Rattle.ringcore.specs.world.Laws.{OnlyOf}
use Rattle.ringcore.specs.machine.Faults.{fault_of}
use Rattle.ringcore.specs.machine.StepAnswers.{event_of}

abbrev pub number_of_half : Half → ℕ
number_of_half Lo = 0
number_of_half Hi = 1

-- The step that requests an event: by the same seat, for the slot of the event's position. What the event
-- found isn't part of the request.
abbrev pub AsksFor : Ring → World → Step → Who → Event → Type 0
AsksFor ring w step Consumer (event.Look found) = step ≡ Look None
AsksFor ring w step (Sender s) (event.Look found) = step ≡ Look (Some s)
AsksFor ring w step (Sender s) (event.Won commands number) = (body : ArrayVec Raw) × (body.items ≡ commands) × (step ≡ Reserve s body (is_some number))
AsksFor ring w step (Sender s) (event.Lost commands closes found) = (body : ArrayVec Raw) × (body.items ≡ commands) × (step ≡ Reserve s body closes)
AsksFor ring w step (Sender s) (event.Write offset half) = step ≡ Write s (place ring.geometry (w.start s + offset)) (number_of_half half)
AsksFor ring w step (Sender s) (event.Flip offset count) = step ≡ Flip s (place ring.geometry (w.start s + offset)) count
AsksFor ring w step (Sender s) event.Close = step ≡ Close s
AsksFor ring w step (Sender s) (event.Ask found) = step ≡ Ask s
AsksFor ring w step Consumer (event.Test limit found) = step ≡ Test (place ring.geometry (head w)) limit
AsksFor ring w step Consumer (event.Read offset half word) = step ≡ Read (place ring.geometry (head w + offset)) (number_of_half half)
AsksFor ring w step Consumer (event.Advance raws) = step ≡ Advance (length raws)
AsksFor ring w step Consumer (event.Acknowledge sender number) = step ≡ Acknowledge sender number
AsksFor ring w step who e = ⊥

-- After the run the step has no fault and is this event.
pub record IsTakenAs (ring : Ring) (run : Run) (step : Step) (who : Who) (e : Event) : Type 0 where
  pub no_fault : fault_of ring run step ≡ None
  pub event_is : event_of ring run step ≡ (who, e)

-- For every event allowed to one of the ring's seats, the step that requests it has no fault and is this
-- event.
abbrev pub AllowedAreTaken : Type 0
AllowedAreTaken =
    (ring : Ring) (run : Run) (step : Step) (who : Who) (e : Event) → IsGeometry ring.geometry → ring.flags ≡ flags_a_word
    → OnlyOf ring.senders ((who, e) ∷ run) → IsRun ring ((who, e) ∷ run) → AsksFor ring (world run) step who e → IsTakenAs ring run step who e
