use Rattle.std.proofs.Common.{◌≡◌, take, true}
use Rattle.std.specs.List.{list_all}
use Rattle.image.specs.Hints.{is_zero}
use Rattle.image.proofs.hint.are_zeros.Given as goal

abbrev pub invariant-bytes : goal.invariant-bytes
invariant-bytes l = list_all is_zero (take l.byte-index l.image) ≡ true
