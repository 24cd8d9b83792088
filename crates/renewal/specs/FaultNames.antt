-- The label of each refusal.
use Rattle.std.specs.Prelude.{ℕ, List, codes}
use Rattle.ringcore.specs.RingFaults.{fault_label}
use Rattle.caches.specs.Faults as caches
use Rattle.renewal.specs.declared.fault.RenewalFault.{RenewalFault}
use Rattle.renewal.specs.declared.fault.RenewalFault.TheVariants.{Waiting, Ring, Caches}

abbrev pub label_of : RenewalFault → List ℕ
label_of Waiting = codes "Q6"
label_of (Ring fault) = fault_label fault
label_of (Caches fault) = caches.label_of fault
