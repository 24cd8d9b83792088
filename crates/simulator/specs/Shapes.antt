-- The numbers of a ring and its caches.
use Rattle.std.specs.Prelude.{◌≡◌, ℕ, nat_le, List, ◌&&◌, not, Option, Some, None, codes, if◌then◌else◌}
use Rattle.ringcore.specs.declared.ring_fault.RingFault.{RingFault}
use Rattle.ringcore.specs.declared.ring_fault.RingFault.TheVariants.{Memory}
use Rattle.ringcore.specs.RingFaults.{fault_label, number_fault}
use Rattle.caches.specs.Limits.{most_entries}
use Rattle.simulator.specs.declared.shape.Shape.{Shape}
use Rattle.simulator.specs.declared.shape.ShapeFault.{ShapeFault}
use Rattle.simulator.specs.declared.shape.ShapeFault.TheVariants.{Ring, Capacity}

abbrev pub shape_label : ShapeFault → List ℕ
shape_label (Ring fault) = fault_label fault
shape_label Capacity = codes "C4"

-- the first of the ring's numbers that is out of range, or else the capacity of the caches
abbrev pub first_fault : Option RingFault → ℕ → Option ShapeFault
first_fault (Some fault) capacity = Some (Ring fault)
first_fault None capacity = if not (nat_le 1 capacity && nat_le capacity most_entries) then Some Capacity else None

abbrev pub shape_fault : Shape → Option ShapeFault
shape_fault shape = first_fault (number_fault shape.log2 shape.senders shape.max_batches) shape.capacity

-- Nothing is made for that fault, or, if there is none, because memory ran out.
abbrev pub IsNotMade : Option ShapeFault → ShapeFault → Type 0
IsNotMade numbers (Ring (Memory error)) = numbers ≡ None
IsNotMade numbers fault = numbers ≡ Some fault
