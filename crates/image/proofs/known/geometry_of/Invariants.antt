use Rattle.std.proofs.Common.{◌≡◌, ◌-◌}
use Rattle.std.specs.List.{find, range_with_len}
use Rattle.image.specs.Queues.{has_length, log2_of}
use Rattle.image.proofs.known.geometry_of.Given as goal

-- It is the first of those that are left.
abbrev pub invariant-sizes : goal.invariant-sizes
invariant-sizes l = log2_of l.bytes ≡ find (has_length l.bytes) (range_with_len l.log2 (20 - l.log2))
