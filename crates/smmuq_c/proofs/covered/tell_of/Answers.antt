use Rattle.std.proofs.Common.{arith, refl}
use Rattle.std.specs.FinMap as finite
use Rattle.std.proofs.lemmas.List.Sorted.{length_permutation}
use Rattle.caches.specs.Told.{only_covered}
use Rattle.smmuq_c.proofs.covered.tell_of.Goals as goal

pub returns-in_default-clause-covered : goal.returns-in_default-clause-covered
returns-in_default-clause-covered c =
    let told = c.covered-many.ensures.told in
    let many = length_permutation (finite.values (only_covered c.args.command.now c.args.unit.now.caches.entries)) told.list told.all in
    (omega (arith, told.counted, many, c.if-buffer-many.false), refl)
