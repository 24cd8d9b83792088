use Rattle.std.proofs.Common.{◌≡◌, take, true}
use Rattle.std.specs.List.{list_all}
use Rattle.image.specs.Hints.{is_swapped_at}
use Rattle.image.proofs.HintLemmas.{waiting}
use Rattle.image.proofs.hint.are_swapped.Given as goal

abbrev pub invariant-steps : goal.invariant-steps
invariant-steps l = list_all (is_swapped_at l.width l.image l.queue) (take l.steps (waiting l.queue)) ≡ true
