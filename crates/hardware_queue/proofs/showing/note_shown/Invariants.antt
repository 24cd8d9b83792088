use Rattle.std.proofs.Common.{◌≡◌, ◌++◌, length}
use Rattle.hardware_queue.specs.Queues.{in_memory}
use Rattle.hardware_queue.proofs.showing.note_shown.Given as goal

abbrev pub invariant-loop-offset : goal.invariant-loop-offset
invariant-loop-offset l = l.shown ≡ l.fn.shown ++ in_memory l.prod.geometry l.memory (length l.fn.shown) l.offset
