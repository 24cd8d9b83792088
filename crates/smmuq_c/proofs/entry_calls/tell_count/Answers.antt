use Rattle.std.proofs.Common.{refl}
use Rattle.smmuq_c.proofs.Objects.{read_unit}
use Rattle.smmuq_c.proofs.entry_calls.tell_count.Goals as goal

pub returns-clause-called : goal.returns-clause-called
returns-clause-called c =
    let it = c.in-Some in read_unit _ c.args.object.now it.unit.now it.ensures.unit it.ensures.settled (record { told_is = c.len.ensures; new_is = refl; status_is = refl })
