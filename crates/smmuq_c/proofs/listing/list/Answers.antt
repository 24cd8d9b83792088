use Rattle.std.proofs.Common.{refl}
use Rattle.smmuq_c.proofs.Objects.{read_unit}
use Rattle.smmuq_c.proofs.listing.list.Goals as goal

pub returns-clause-called : goal.returns-clause-called
returns-clause-called c =
    let it = c.in-Some in
    read_unit _ c.args.object.now it.unit.now it.ensures.unit it.ensures.settled (record { listed_are = c.list_of.ensures.listed; new_is = refl })
