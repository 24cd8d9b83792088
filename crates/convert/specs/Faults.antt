-- The line of each fault.
use Rattle.std.specs.Prelude.{ℕ, List, codes}
use Rattle.guest_commands.specs.declared.fault.AttachFault.{AttachFault}
use Rattle.guest_commands.specs.declared.fault.AttachFault.TheVariants as attach
use Rattle.convert.specs.declared.fault.GuestFault.{GuestFault}
use Rattle.convert.specs.declared.fault.GuestFault.TheVariants.{BadVmid, BadStream, Refused, NoMemory}

abbrev pub attach_fault_line : AttachFault → List ℕ
attach_fault_line attach.OutOfRange = codes "refused V1\n"
attach_fault_line attach.Used = codes "refused V2\n"
attach_fault_line attach.Full = codes "refused V3\n"
attach_fault_line attach.NoMemory = codes "no memory\n"

abbrev pub fault_line : GuestFault → List ℕ
fault_line BadVmid = codes "bad vmid\n"
fault_line BadStream = codes "bad stream\n"
fault_line (Refused fault) = attach_fault_line fault
fault_line NoMemory = codes "no memory\n"
