use Rattle.std.proofs.Common.{◌≡◌, ℕ, take, drop}
use Rattle.qindex.specs.Positions.{index_of}
use Rattle.hardware_queue.specs.Queues.{in_memory}
use Rattle.shadow_queue.proofs.newest.copy_from.Given as goal

abbrev pub invariant-loop-offset : goal.invariant-loop-offset
invariant-loop-offset l = record {
  written : (position : ℕ) → l.start ≡ index_of l.start.geometry position → take l.offset l.buffer ≡ in_memory l.start.geometry l.memory position l.offset;
  behind : drop l.offset l.buffer ≡ drop l.offset l.initial.buffer;
}
