-- The label of each fault.
use Rattle.std.specs.Prelude.{ℕ, List, codes}
use Rattle.guest_commands.specs.declared.fault.AttachFault.{AttachFault}
use Rattle.guest_commands.specs.declared.fault.AttachFault.TheVariants.{OutOfRange, Used, Full, NoMemory}

abbrev pub label_of : AttachFault → List ℕ
label_of OutOfRange = codes "V1"
label_of Used = codes "V2"
label_of Full = codes "V3"
label_of NoMemory = codes "V4"
