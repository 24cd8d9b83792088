-- A list of steps, played one after another from an empty ring, up to the first that has a fault.
use Rattle.std.specs.Prelude.{◌≡◌, ℕ, suc, List, [], ◌∷◌, Option, Some, None}
use Rattle.ringcore.specs.Limits.{flags_a_word}
use Rattle.ringcore.specs.declared.machine.step.Step.{Step}
use Rattle.ringcore.specs.declared.machine.step_fault.StepFault.{StepFault}
use Rattle.ringcore.specs.declared.machine.step.Seen.{Seen}
use Rattle.ringcore.specs.world.Trails.{Run}
use Rattle.ringcore.specs.world.World.{world}
use Rattle.qindex.specs.Indexes.{IsGeometry}
use Rattle.ringcore.specs.world.Allowed.{Ring, IsRun}
use Rattle.ringcore.specs.machine.Faults.{fault_of}
use Rattle.ringcore.specs.machine.StepAnswers.{event_of, seen_of}

-- the run that was played, its answers in order, and the step that was refused, by its place from 0, with its
-- fault
pub record Played : Type 0 where
  pub run : Run
  pub answers : List Seen
  pub refused : Option (ℕ × StepFault)

abbrev pub with_answer : Seen → Played → Played
with_answer seen played = record played { answers = seen ∷ played.answers }

abbrev pub unless_refused : Option StepFault → Run → ℕ → Played → Played
unless_refused None run place later = later
unless_refused (Some fault) run place later = record { run = run; answers = []; refused = Some (place, fault) }

-- the steps from this place on, after a run
abbrev pub played_from : Ring → Run → ℕ → List Step → Played
played_from ring run place [] = record { run = run; answers = []; refused = None }
played_from ring run place (step ∷ steps) =
    let event = event_of ring run step in
    unless_refused (fault_of ring run step) run place
    (with_answer (seen_of ring (world run) event.0 event.1) (played_from ring (event ∷ run) (suc place) steps))

abbrev pub played : Ring → List Step → Played
played ring steps = played_from ring [] 0 steps

-- ---- what is played is a run

-- A step without a fault is an allowed event, if flag words have 64 flags.
abbrev pub StepsAreAllowed : Type 0
StepsAreAllowed =
    (ring : Ring) (run : Run) (step : Step) → IsGeometry ring.geometry → ring.flags ≡ flags_a_word → IsRun ring run → fault_of ring run step ≡ None
    → IsRun ring (event_of ring run step ∷ run)

-- So whatever list of steps is played, what was played is a run.
abbrev pub PlayedAreRuns : Type 0
PlayedAreRuns = (ring : Ring) (steps : List Step) → IsGeometry ring.geometry → ring.flags ≡ flags_a_word → IsRun ring (played ring steps).run
