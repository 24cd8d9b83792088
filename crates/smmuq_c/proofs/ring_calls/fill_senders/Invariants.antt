use Rattle.std.proofs.Common.{◌≡◌, ◌+◌, ◌++◌, length, map, take, Some}
use Rattle.smmuq_c.specs.MakingRings.{boxed, objects_in}
use Rattle.smmuq_c.proofs.ring_calls.fill_senders.Given as goal

abbrev pub invariant-loop-handle : goal.invariant-loop-handle
invariant-loop-handle l = record {
  many : length l.seats.items + l.handle-index ≡ length l.handles;
  done : objects_in (take l.handle-index l.handles) ++ map Some (boxed l.seats.items) ≡ map Some (boxed l.initial.seats.items);
}
