-- What a step of the unit does, and how a stop is acknowledged.
use Rattle.std.specs.Prelude.{ℕ, ◌==◌, Bool, true, false, not, ⊤, Result, Ok, Err, if◌then◌else◌}
use Rattle.ring.specs.Runs.{Raw, world}
use Rattle.cmdcodec.specs.declared.ill.Ill.{Ill}
use Rattle.cmdcodec.specs.declared.command.Command.{Command}
use Rattle.cmdcodec.specs.Words.{decoding}
use Rattle.ringcore.specs.Limits.{most_reserved}
use Rattle.caches.specs.Held.{Take}
use Rattle.engine.specs.declared.answer.StepAnswer.{StepAnswer}
use Rattle.engine.specs.declared.answer.StepAnswer.TheVariants.{Empty, Drained, Unwritten, Applied, Stopped, Replaced, StillStopped, Exhausted}
use Rattle.engine.specs.declared.stop.Mode.{Mode}
use Rattle.engine.specs.declared.stop.Mode.TheVariants as mode
use Rattle.engine.specs.declared.remedy.Remedy.{Remedy}
use Rattle.engine.specs.declared.remedy.AckFault.{AckFault}
use Rattle.engine.specs.declared.remedy.AckFault.TheVariants.{NoError, OtherBit}
use Rattle.engine.specs.Stops.{stopped_at, gone_on, acknowledged_by, command_queue_bit}
use Rattle.simulator.specs.queue.Heads as head
use Rattle.simulator.specs.queue.{Head, head_of, head_taken, completed}
use Rattle.simulator.specs.State.{State, Answered, entries, taken_so_far, removed_from}
use Rattle.simulator.specs.Fills.{with_item}

abbrev pub unchanged : StepAnswer → State → Answered StepAnswer
unchanged answer state = record { answer = answer; state = state }

-- ---- the command at the head

-- The command is taken, and consumption goes on.
abbrev pub completes : Raw → State → State
completes raw state = record state { run = completed raw state.run; stop = gone_on state.stop }

abbrev pub applied : Raw → Command → State → Answered StepAnswer
applied raw command state = record {
  answer = Applied command (removed_from command (entries state));
  state = with_item (Take command) (completes raw state);
}

-- An illegal command stops consumption and stays at the head; or it is replaced, if software said so.
abbrev pub illegal : Raw → Ill → Mode → State → Answered StepAnswer
illegal raw ill mode.Running state = record { answer = Stopped ill; state = record state { stop = stopped_at raw ill state.stop } }
illegal raw ill (mode.Stopped other) state = record { answer = Stopped ill; state = record state { stop = stopped_at raw ill state.stop } }
illegal raw ill mode.Replacing state = record { answer = Replaced ill; state = completes raw state }

abbrev pub judged : Raw → Result Command Ill → State → Answered StepAnswer
judged raw (Ok command) state = applied raw command state
judged raw (Err ill) state = illegal raw ill state.stop.mode state

abbrev pub found : Head → State → Answered StepAnswer
found head.Empty state = unchanged Empty state
found head.Drained state = unchanged Drained state
found head.Unwritten state = unchanged Unwritten state
found (head.Ready raw) state = judged raw (decoding raw) state

-- ---- a step

-- Once as many commands were taken as a ring ever has, no more are taken.
abbrev pub going : State → Answered StepAnswer
going state =
    if taken_so_far state == most_reserved then unchanged Exhausted state
    else found (head_of (world state.run)) (record state { run = head_taken state.ring.geometry state.run })

abbrev pub is_stopped : Mode → Bool
is_stopped mode.Running = false
is_stopped (mode.Stopped ill) = true
is_stopped mode.Replacing = false

unfoldable pub stepped : State → Answered StepAnswer
stepped state = if is_stopped state.stop.mode then unchanged StillStopped state else going state

-- ---- an acknowledgement

abbrev pub same_bit : Bool → Bool → Bool
same_bit true b = b
same_bit false b = not b

-- given whether it is stopped, and whether the bits agree
abbrev pub acknowledged_if : Bool → Bool → Remedy → State → Answered (Result ⊤ AckFault)
acknowledged_if false same remedy state = record { answer = Err NoError; state = state }
acknowledged_if true false remedy state = record { answer = Err OtherBit; state = state }
acknowledged_if true true remedy state = record { answer = Ok tt; state = record state { stop = acknowledged_by remedy state.stop } }

-- It is refused if no error is active, or if CMDQ_ERR of the word isn't that of SMMU_GERROR.
unfoldable pub acknowledged : ℕ → Remedy → State → Answered (Result ⊤ AckFault)
acknowledged gerrorn remedy state = acknowledged_if (is_stopped state.stop.mode) (same_bit (command_queue_bit gerrorn) state.stop.error) remedy state
