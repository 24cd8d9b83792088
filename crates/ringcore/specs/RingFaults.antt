-- Which numbers a ring can't be made with, and the labels of the faults.
use Rattle.std.specs.Prelude.{◌≡◌, ℕ, List, codes, nat_le, ◌==◌, ◌&&◌, not, Option, Some, None, if◌then◌else◌}
use Rattle.ringcore.specs.Limits.{most_senders}
use Rattle.ringcore.specs.declared.ring_fault.RingFault.{RingFault}
use Rattle.ringcore.specs.declared.ring_fault.RingFault.TheVariants.{Size, Senders, Batches, Memory}

abbrev pub fault_label : RingFault → List ℕ
fault_label Size = codes "N1"
fault_label Senders = codes "N2"
fault_label Batches = codes "N3"
fault_label (Memory error) = codes "N4"

-- the first of its numbers that is out of range
abbrev pub number_fault : ℕ → ℕ → ℕ → Option RingFault
number_fault log2 senders max_batches =
    if not (nat_le 1 log2 && nat_le log2 19) then Some Size
    else if not (nat_le 1 senders && nat_le senders most_senders) then Some Senders
    else if max_batches == 0 then Some Batches
    else None

-- Why it isn't made: that fault, or, if there is none, that memory ran out.
abbrev pub IsNotMade : Option RingFault → RingFault → Type 0
IsNotMade numbers (Memory error) = numbers ≡ None
IsNotMade numbers fault = numbers ≡ Some fault
