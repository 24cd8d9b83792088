use Rattle.std.proofs.Common.{refl}
use Rattle.smmuq_c.proofs.Objects.{evicts_unit, evicts_engine}
use Rattle.smmuq_c.proofs.Unchanged.{lost_older_none}
use Rattle.smmuq_c.proofs.evicting.evict_older.Goals as goal

pub returns-in-Unit-clause-called : goal.returns-in-Unit-clause-called
returns-in-Unit-clause-called c = let e = c.evict_older.ensures in evicts_unit _ c.in-Unit.is e.rest (lost_older_none c.args.born c.evict_older.result c.in-Unit.unit c.evict_older.new.self e.lost e.tracked) e.walks (record { lost = e.lost; status_is = refl })

pub returns-in-Engine-clause-called : goal.returns-in-Engine-clause-called
returns-in-Engine-clause-called c =
    let e = c.evict_older-in-Engine.ensures in evicts_engine _ c.in-Engine.is e.consumer e.settled (record { lost = e.lost; status_is = refl })
