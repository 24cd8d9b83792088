use Rattle.std.proofs.Common.{◌≡◌, length}
use Rattle.std.specs.Prelude.{take}
use Rattle.qindex.specs.Positions.{size}
use Rattle.hardware_queue.specs.Queues.{in_memory}
use Rattle.hardware_queue.specs.Owners.{without_memory}
use Rattle.hardware_queue.proofs.owner.slots.write_all.Given as goal

abbrev pub invariant-loop-offset : goal.invariant-loop-offset
invariant-loop-offset g l = record {
  kept : without_memory (g.Q.CommandQueue.queue l.queue) ≡ without_memory (g.Q.CommandQueue.queue l.fn.queue);
  long : length (g.Q.CommandQueue.queue l.queue).memory ≡ size (g.Q.CommandQueue.queue l.fn.queue).geometry;
  done : in_memory (g.Q.CommandQueue.queue l.fn.queue).geometry (g.Q.CommandQueue.queue l.queue).memory (length (g.Q.CommandQueue.queue l.fn.queue).shown) l.offset ≡ take l.offset l.raws;
}
