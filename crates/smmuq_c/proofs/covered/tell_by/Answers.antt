use Rattle.std.proofs.Common.{refl}
use Rattle.smmuq_c.proofs.Objects.{read_unit}
use Rattle.smmuq_c.proofs.covered.tell_by.Goals as goal

pub returns-in-Some-clause-called : goal.returns-in-Some-clause-called
returns-in-Some-clause-called c =
    let it = c.in-Some in
    read_unit _ c.args.object.now it.unit.now it.ensures.unit it.ensures.settled (record { covered_are = c.tell_of.ensures.covered; new_is = refl })
