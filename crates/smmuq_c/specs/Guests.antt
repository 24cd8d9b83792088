-- A guest of a hypervisor, and its commands as they are converted, for C.
use Rattle.std.specs.Prelude.{◌≡◌, ◌<◌, ◌≤◌, ◌^◌, ℕ, ◌++◌, Bool, true, List, length, take, drop, All, Option, None, Some, map, Result, Ok, Err}
use Rattle.cmdcodec.specs.declared.raw.Raw.{Raw}
use Rattle.cmdcodec.specs.declared.ill.Ill.{Ill}
use Rattle.cmdcodec.specs.declared.command.Command.{Command}
use Rattle.cmdcodec.specs.Fields.{bit}
use Rattle.smmu_features.specs.declared.smmu.Smmu.{Smmu}
use Rattle.smmu_features.specs.Commands.{IsLegalFor}
use Rattle.guest_commands.specs.declared.ended.Ended.{Ended}
use Rattle.guest_commands.specs.declared.ended.Ended.TheVariants as ended
use Rattle.guest_commands.specs.declared.ended.Stop.TheVariants as stop
use Rattle.guest_commands.specs.declared.fault.AttachFault.TheVariants.{NoMemory as OutOfMemory}
use Rattle.guest_commands.specs.declared.streams.Attachment.{Attachment}
use Rattle.guest_commands.specs.Configurations.{concerned}
use Rattle.guest_commands.specs.Conversions.{Conversion, IsConverted}
use Rattle.guest_commands.specs.Limits.{has_vmid}
use Rattle.guest_commands.specs.Mappings.{Mapping, attached, detached, refusal, without_streams}
use Rattle.guest_commands.specs.Theorems.{IsIsolated, IsReachedBy}
use Rattle.smmuq_c.specs.Batches.{IsGiven}
use Rattle.smmuq_c.specs.Statuses.{ill_number}
use Rattle.smmuq_c.specs.declared.guest_words.Converted.{Converted as ConvertedWords}
use Rattle.smmuq_c.specs.declared.guest_words.StreamWords.{StreamWords}
use Rattle.smmuq_c.specs.declared.object.Object.{Object}
use Rattle.smmuq_c.specs.declared.object.Object.TheVariants.{Guest as GuestOf}
use Rattle.smmuq_c.specs.declared.status.Status.{Status}
use Rattle.smmuq_c.specs.declared.status.Status.TheVariants.{Done, Illegal, BadField, NoMemory, ShortBuffer, WrongHandle, Attachment as NotAttached}

-- A guest is changed, and an object of another kind refused.
abbrev pub OfGuest : (Mapping → Mapping → Status → Type 0) → Object → Object → Status → Type 0
OfGuest does (GuestOf old) new status = (after : Mapping) × (new ≡ GuestOf after) × does old after status
OfGuest does other new status = (new ≡ other) × (status ≡ WrongHandle)

-- ---- its VMID and its streams

-- The SMMU has the VMID, and it isn't the host's own, 0.
abbrev pub IsHad : ℕ → Smmu → Type 0
IsHad vmid smmu = (0 < vmid) × (vmid < 2 ^ 16) × (has_vmid smmu vmid ≡ true)

-- A guest without streams is held, or what was held before.
abbrev pub HasMadeGuest : ℕ → Smmu → Option Object → Option Object → Status → Type 0
HasMadeGuest vmid smmu old new Done = IsHad vmid smmu × (new ≡ Some (GuestOf (without_streams vmid smmu)))
HasMadeGuest vmid smmu old new NoMemory = IsHad vmid smmu × (new ≡ old)
HasMadeGuest vmid smmu old new BadField = ¬ IsHad vmid smmu × (new ≡ old)
HasMadeGuest vmid smmu old new other = ⊥

-- It says whether an endpoint caches translations: 1 or 0.
abbrev pub IsFlag : ℕ → Type 0
IsFlag ats = (has : Bool) × (ats ≡ bit has)

-- The stream of the host is one of those that this stream of the guest is; or it is refused, and nothing changed.
abbrev pub HasAttached : ℕ → ℕ → ℕ → Mapping → Mapping → Status → Type 0
HasAttached sid host ats old new Done =
    (refusal old sid host ≡ None) × ((has : Bool) × (ats ≡ bit has) × (new ≡ attached old sid (record { sid = host; ats = has })))
HasAttached sid host ats old new BadField = ¬ IsFlag ats × (new ≡ old)
HasAttached sid host ats old new (NotAttached OutOfMemory) = IsFlag ats × (refusal old sid host ≡ None) × (new ≡ old)
HasAttached sid host ats old new (NotAttached fault) = IsFlag ats × (refusal old sid host ≡ Some fault) × (new ≡ old)
HasAttached sid host ats old new other = ⊥

-- It has none of the streams of the host that this one was.
abbrev pub HasDetached : ℕ → Mapping → Mapping → Status → Type 0
HasDetached sid old new status = (new ≡ detached old sid) × (status ≡ Done)

-- ---- its commands

-- why no more of them were taken, by number
abbrev pub end_number : Ended → ℕ
end_number ended.End = 0
end_number ended.Full = 1
end_number (ended.At stop.Sync) = 2
end_number (ended.At (stop.Configure command)) = 3
end_number (ended.At (stop.Illegal ill)) = 4
end_number (ended.At stop.Refused) = 5

-- the label of an illegal one, and 0 of any other
abbrev pub ill_at : Ended → ℕ
ill_at (ended.At (stop.Illegal ill)) = ill_number ill
ill_at other = 0

abbrev pub conversion_words : Conversion → ConvertedWords
conversion_words c = record { taken = c.taken; made = length c.commands; ended = end_number c.ended; ill = ill_at c.ended }

-- The host's commands for a beginning of these come first in the buffer, and it is told how many they are for and why no
-- more were taken. Each is legal for the host's SMMU and covers nothing that
-- isn't the guest's, and together they cover all that those which were taken do.
pub record HasConvertedTo (commands old_buffer new_buffer : List Raw) (told : ConvertedWords) (mapping : Mapping) : Type 0 where
  pub conversion : Conversion
  pub converted : IsConverted mapping commands conversion
  pub given : new_buffer ≡ conversion.commands ++ drop (length conversion.commands) old_buffer
  pub told_is : told ≡ conversion_words conversion
  pub legal : All (IsLegalFor mapping.smmu) conversion.commands
  pub isolated : All (IsIsolated mapping) conversion.commands
  pub complete : All (IsReachedBy mapping conversion.commands) (take conversion.taken commands)

-- The first 63 are converted, and the buffer has room for 63; or it hasn't.
abbrev pub HasConverted : List Raw → List Raw → List Raw → ConvertedWords → Mapping → Mapping → Status → Type 0
HasConverted commands old_buffer new_buffer told old new Done =
    (63 ≤ length old_buffer) × HasConvertedTo (take 63 commands) old_buffer new_buffer told old × (new ≡ old)
HasConverted commands old_buffer new_buffer told old new ShortBuffer = (length old_buffer < 63) × (new ≡ old)
HasConverted commands old_buffer new_buffer told old new other = ⊥

-- ---- the streams that it configures

abbrev pub stream_words : Attachment → StreamWords
stream_words stream = record { sid = stream.sid; host = stream.host.sid; ats = bit stream.host.ats }

-- They come first in the buffer, and what is after them stays.
abbrev pub HasWritten : List StreamWords → List StreamWords → List StreamWords → Type 0
HasWritten streams old new = new ≡ streams ++ drop (length streams) old

-- Those whose stream table entries legal words are for are told, and nothing changed.
abbrev pub HasToldFor : Result Command Ill → List StreamWords → List StreamWords → ℕ → Mapping → Mapping → Status → Type 0
HasToldFor (Ok command) old_buffer new_buffer told old new status =
    (new ≡ old) × IsGiven (map stream_words (concerned command old.streams)) old_buffer new_buffer told status
HasToldFor (Err ill) old_buffer new_buffer told old new status = (new ≡ old) × (status ≡ Illegal ill)

abbrev pub TellsConcerned : Result Command Ill → List StreamWords → List StreamWords → ℕ → Object → Object → Status → Type 0
TellsConcerned decoded old_buffer new_buffer told = OfGuest (HasToldFor decoded old_buffer new_buffer told)
