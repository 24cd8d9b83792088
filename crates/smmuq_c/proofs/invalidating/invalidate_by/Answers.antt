use Rattle.std.proofs.Common.{refl}
use Rattle.smmuq_c.proofs.Objects.{evicts_unit, evicts_engine}
use Rattle.smmuq_c.proofs.Unchanged.{lost_none}
use Rattle.smmuq_c.proofs.invalidating.invalidate_by.Goals as goal

pub returns-in-Unit-clause-called : goal.returns-in-Unit-clause-called
returns-in-Unit-clause-called c = let e = c.invalidate.ensures in evicts_unit _ c.in-Unit.is e.rest (lost_none _ c.invalidate.result c.in-Unit.unit c.invalidate.new.self e.lost e.tracked) e.walks (record { lost = e.lost; status_is = refl })

pub returns-in-Engine-clause-called : goal.returns-in-Engine-clause-called
returns-in-Engine-clause-called c =
    let e = c.invalidate-in-Engine.ensures in evicts_engine _ c.in-Engine.is e.consumer e.settled (record { lost = e.lost; status_is = refl })
