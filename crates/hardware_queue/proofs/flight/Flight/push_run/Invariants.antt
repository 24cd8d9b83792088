use Rattle.std.proofs.Common.{◌≡◌, ◌++◌, map}
use Rattle.std.specs.Prelude.{take}
use Rattle.circular_buffer.specs.Buffer.{buffer}
use Rattle.hardware_queue.specs.Kept.{in_flight}
use Rattle.hardware_queue.proofs.flight.Flight.push_run.Given as goal

abbrev pub invariant-loop-place : goal.invariant-loop-place
invariant-loop-place g l = l.self ≡ buffer (l.fn.self.items ++ map in_flight (take l.place l.consumer.raws)) l.fn.self.capacity
