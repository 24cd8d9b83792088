-- The label of each fault.
use Rattle.std.specs.Prelude.{ℕ, List, codes}
use Rattle.batch.specs.declared.fault.BatchFault.{BatchFault}
use Rattle.batch.specs.declared.fault.BatchFault.TheVariants.{Full, SyncInside, NoPages, PastEnd, Empty}

abbrev pub label_of : BatchFault → List ℕ
label_of Full = codes "B1"
label_of SyncInside = codes "B2"
label_of NoPages = codes "B3"
label_of PastEnd = codes "B4"
label_of Empty = codes "B5"
