-- The conversion of a guest's commands, as the command line asks for it.
use Rattle.std.specs.Prelude.{◌≡◌, ◌≢◌, ◌⊎◌, ℕ, List, map, not, Option, Result, Ok, Err}
use Rattle.std.specs.Io.KnownBytes.{Keeps}
use Rattle.command_line.specs.declared.convert_arguments.ConvertArguments.{ConvertArguments}
use Rattle.convert.specs.declared.fault.GuestFault.{GuestFault}
use Rattle.convert.specs.declared.fault.GuestFault.TheVariants.{NoMemory as NoMemoryForGuest}
use Rattle.convert.specs.Faults.{fault_line}
use Rattle.convert.specs.Guests.{Mapping, guest_of, smmu_with}
use Rattle.convert.specs.Tellings.{TellsOfGuest}
use Rattle.script.specs.Writing.{no_memory_line}
use Rattle.script.specs.declared.status.Status.{Status}
use Rattle.script.specs.declared.status.Status.TheVariants.{Good, Refused, NoMemory, ReadFailed, WriteFailed, Endless}
use Rattle.script.specs.Statuses.{exit_status}
use Rattle.program.specs.Watching.{HasFailed, Seen, Tells}

-- the guest that the command line gives, or why there is none
abbrev pub guest_asked_of : ConvertArguments → Result Mapping GuestFault
guest_asked_of arguments =
    guest_of (smmu_with (not arguments.no_range) (not arguments.no_ats) (not arguments.short_ids) arguments.substream_bits)
    arguments.vmid.now (map (λ text. text.now) arguments.streams.items)

-- There is no guest for this fault, and the status says what was told of that: its line, or that memory ran out; or a
-- call of the writer failed.
abbrev pub EndsUnread : GuestFault → Status → Seen → Seen → Type 0
EndsUnread fault Refused before after = (fault ≢ NoMemoryForGuest) × Tells before after (fault_line fault)
EndsUnread fault NoMemory before after = (fault ≡ NoMemoryForGuest) × Tells before after no_memory_line
EndsUnread fault WriteFailed before after = HasFailed after
EndsUnread fault Good before after = ⊥
EndsUnread fault ReadFailed before after = ⊥
EndsUnread fault Endless before after = ⊥

-- It ended without a guest, for the fault that there is or for lack of memory, and read nothing.
pub record IsWithoutGuest (asked : Result Mapping GuestFault) (status : Status) (input rest : Option (List ℕ)) (before after : Seen) : Type 0 where
  pub fault : GuestFault
  pub fault_is : (asked ≡ Err fault) ⊎ (fault ≡ NoMemoryForGuest)
  pub told : EndsUnread fault status before after
  pub unread : Keeps input rest

-- The commands of the guest were converted, line by line.
pub record IsWithGuest (asked : Result Mapping GuestFault) (status : Status) (input rest : Option (List ℕ)) (before after : Seen) : Type 0 where
  pub guest : Mapping
  pub guest_is : asked ≡ Ok guest
  pub told : TellsOfGuest guest status input rest before.bytes after.bytes

-- It ended with the exit status of that.
abbrev pub ExitsAsConvert : Result Mapping GuestFault → ℕ → Option (List ℕ) → Option (List ℕ) → Seen → Seen → Type 0
ExitsAsConvert asked exit input rest before after =
    (status : Status) × (exit ≡ exit_status status)
    × (IsWithGuest asked status input rest before after ⊎ IsWithoutGuest asked status input rest before after)
