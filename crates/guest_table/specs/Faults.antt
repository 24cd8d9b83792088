-- When a call on a table is refused.
use Rattle.std.specs.Prelude.{ℕ, ◌==◌, length, Option, Some, None, Result, Ok, Err, if◌then◌else◌}
use Rattle.std.specs.Option.{option_map}
use Rattle.guest_commands.specs.declared.fault.AttachFault.{AttachFault}
use Rattle.guest_commands.specs.declared.fault.AttachFault.TheVariants as guests
use Rattle.guest_commands.specs.Mappings as mappings
use Rattle.guest_commands.specs.Mappings.{Mapping}
use Rattle.guest_table.specs.declared.fault.TableFault.{TableFault}
use Rattle.guest_table.specs.declared.fault.TableFault.TheVariants.{NoGuest, NoVmid, HasStreams, Leaving, Used, OutOfRange, Full, NoMemory}
use Rattle.guest_table.specs.Tables.{Table, guest_of, is_leaving, is_used_in, NoneIsFree, IsLeastFree}

-- what a table says for what a guest says
abbrev pub fault_of : AttachFault → TableFault
fault_of guests.OutOfRange = OutOfRange
fault_of guests.Used = Used
fault_of guests.Full = Full
fault_of guests.NoMemory = NoMemory

abbrev pub answer_of : Result (Unit {0}) AttachFault → Result (Unit {0}) TableFault
answer_of (Ok done) = Ok done
answer_of (Err fault) = Err (fault_of fault)

abbrev pub refusal_of : Table → Option Mapping → ℕ → ℕ → Option TableFault
refusal_of table None sid host = Some NoGuest
refusal_of table (Some guest) sid host =
    if is_leaving table host then Some Leaving
    else if is_used_in table host then Some Used
    else option_map fault_of (mappings.refusal guest sid host)

-- why this stream of the host can't be attached to this one of the guest with this VMID, if so
abbrev pub refusal : Table → ℕ → ℕ → ℕ → Option TableFault
refusal table vmid sid host = refusal_of table (guest_of table vmid) sid host

abbrev pub removal_of : Option Mapping → Option TableFault
removal_of None = Some NoGuest
removal_of (Some guest) = if length guest.streams == 0 then None else Some HasStreams

-- why the guest with this VMID can't be removed, if so
abbrev pub removal : Table → ℕ → Option TableFault
removal table vmid = removal_of (guest_of table vmid)

-- Why no guest can be added: no VMID is free, or there is one, and no memory.
abbrev pub IsAddFault : Table → TableFault → Type 0
IsAddFault table NoVmid = NoneIsFree table
IsAddFault table NoMemory = (vmid : ℕ) × IsLeastFree table vmid
IsAddFault table fault = ⊥
