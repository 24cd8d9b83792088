-- The label of each fault.
use Rattle.std.specs.Prelude.{ℕ, List, codes}
use Rattle.caches.specs.declared.fault.CacheFault.{CacheFault}
use Rattle.caches.specs.declared.fault.CacheFault.TheVariants.{Full, BadBlock, NoMemory, BadCapacity}

abbrev pub label_of : CacheFault → List ℕ
label_of Full = codes "C1"
label_of BadBlock = codes "C2"
label_of NoMemory = codes "C3"
label_of BadCapacity = codes "C4"
