-- Why a line of a sender ends the run.
use Rattle.std.specs.Prelude.{ℕ, List, not, Option, Some, None, codes, if◌then◌else◌}
use Rattle.script.specs.Effects.{Effect, faults}
use Rattle.ringcore.specs.machine.Open.{is_open}
use Rattle.ringcore.specs.machine.Faults.{has_sender}
use Rattle.simulator.specs.State.{State, mine}
use Rattle.replay.specs.declared.sender_fault.SenderFault.{SenderFault}
use Rattle.replay.specs.declared.sender_fault.SenderFault.TheVariants.{NoSender, HasOpen, HasNoneOpen}

abbrev pub sender_label : SenderFault → List ℕ
sender_label NoSender = codes "no sender"
sender_label HasOpen = codes "sender open"
sender_label HasNoneOpen = codes "sender not open"

-- of a line that needs a sender without an open reservation
abbrev pub settled_fault : ℕ → State → Option SenderFault
settled_fault sender state =
    if not (has_sender state.ring sender) then Some NoSender else if is_open (mine sender state) then Some HasOpen else None

-- of a line that needs a sender with one
abbrev pub reserved_fault : ℕ → State → Option SenderFault
reserved_fault sender state =
    if not (has_sender state.ring sender) then Some NoSender else if is_open (mine sender state) then None else Some HasNoneOpen

-- the fault of the line of this number, or what the line does if it has none
abbrev pub unless_fault : ℕ → Option SenderFault → State → Effect State → Effect State
unless_fault number (Some fault) state effect = faults number (sender_label fault) (Some state)
unless_fault number None state effect = effect
