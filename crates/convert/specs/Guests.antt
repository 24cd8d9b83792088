-- The guest that a command line means.
use Rattle.std.specs.Prelude.{◌≡◌, ◌⊎◌, ℕ, ◌^◌, ◌==◌, ◌&&◌, nat_le, nat_lt, List, [], ◌∷◌, length, map, Bool, true, false, Option, Some, None, Result, Ok, Err, codes, if◌then◌else◌}
use Rattle.std.specs.List.{before_first, after_first, position_or_len}
use Rattle.std.specs.Str.{bytes_eq}
use Rattle.script.specs.Words.{number_of}
use Rattle.script.specs.Fields.{◌>>=◌, guard}
use Rattle.smmu_features.specs.declared.smmu.Smmu.{Smmu}
use Rattle.guest_commands.specs.declared.fault.AttachFault.{AttachFault}
use Rattle.guest_commands.specs.declared.streams.Attachment.{Attachment}
use Rattle.guest_commands.specs.Limits.{has_vmid}
pub use Rattle.guest_commands.specs.Mappings.{Mapping}
use Rattle.guest_commands.specs.Mappings.{attached, refusal, without_streams}
use Rattle.convert.specs.declared.asked.Asked.{Asked}
use Rattle.convert.specs.declared.fault.GuestFault.{GuestFault}
use Rattle.convert.specs.declared.fault.GuestFault.TheVariants.{BadVmid, BadStream, Refused, NoMemory}

-- ---- The host's SMMU.

-- SMMU_IDR1.SSIDSIZE
abbrev pub substream_bits_of : Option ℕ → ℕ
substream_bits_of None = 20
substream_bits_of (Some bits) = bits

-- with or without range invalidation, ATS, and VMIDs and ASIDs of 16 bits; it has all else
abbrev pub smmu_with : (range_invalidation ats wide_ids : Bool) → Option ℕ → Smmu
smmu_with range_invalidation ats wide_ids substream_bits = record {
  range_invalidation = range_invalidation;
  stage_1 = true;
  stage_2 = true;
  ats = ats;
  pri = true;
  hypervisor = true;
  stalls = true;
  wide_asids = wide_ids;
  wide_vmids = wide_ids;
  substream_bits = substream_bits_of substream_bits;
  stream_bits = 32;
  granules = record { kib4 = true; kib16 = true; kib64 = true };
}

abbrev pub smmu_of : Asked → Smmu
smmu_of asked = smmu_with asked.range_invalidation asked.ats asked.wide_ids asked.substream_bits

-- ---- Numbers.

-- two decimal digits and more, of which the first is 0: they may be meant as hexadecimal ones
abbrev pub is_zero_led : List ℕ → Bool
is_zero_led [] = false
is_zero_led (a ∷ []) = false
is_zero_led (a ∷ b ∷ digits) = a == 48 && (nat_le 48 b && nat_le b 57)

-- decimal without a leading 0, or 0x and hexadecimal
abbrev pub clear_number : List ℕ → Option ℕ
clear_number text = if is_zero_led text then None else number_of text

-- ---- A stream.

-- the parts of a text before the first such byte and behind it, if there is one
abbrev pub parted_at : ℕ → List ℕ → Option (List ℕ × List ℕ)
parted_at byte text =
    if nat_lt (position_or_len (λ b. b == byte) text) (length text)
    then Some (before_first (λ b. b == byte) text, after_first (λ b. b == byte) text) else None

-- the number of a stream, 32 bits
abbrev pub sid_named : List ℕ → Option ℕ
sid_named text = do
  number ← clear_number text
  guard (nat_lt number (2 ^ 32)) number

abbrev pub attachment_with : Option ℕ → Option ℕ → Bool → Option Attachment
attachment_with None host ats = None
attachment_with (Some sid) None ats = None
attachment_with (Some sid) (Some host) ats = Some (record { sid = sid; host = record { sid = host; ats = ats } })

-- the host's stream, and behind a comma that it has ATS
abbrev pub attachment_of : Option ℕ → List ℕ → Option (List ℕ × List ℕ) → Option Attachment
attachment_of sid host None = attachment_with sid (sid_named host) false
attachment_of sid host (Some (stream, ats)) = if bytes_eq ats (codes "ats") then attachment_with sid (sid_named stream) true else None

abbrev pub attachment_in : Option (List ℕ × List ℕ) → Option Attachment
attachment_in None = None
attachment_in (Some (sid, host)) = attachment_of (sid_named sid) host (parted_at 44 host)

-- the guest's stream, `=`, and the host's
unfoldable pub attachment_named : List ℕ → Option Attachment
attachment_named text = attachment_in (parted_at 61 text)

-- ---- The guest.

abbrev pub attached_or : Mapping → Attachment → Option AttachFault → Result Mapping GuestFault
attached_or mapping stream (Some fault) = Err (Refused fault)
attached_or mapping stream None = Ok (attached mapping stream.sid stream.host)

abbrev pub with_attachment : Mapping → Option Attachment → Result Mapping GuestFault
with_attachment mapping None = Err BadStream
with_attachment mapping (Some stream) = attached_or mapping stream (refusal mapping stream.sid stream.host.sid)

-- with the stream that a text names
abbrev pub with_stream : Mapping → List ℕ → Result Mapping GuestFault
with_stream mapping text = with_attachment mapping (attachment_named text)

-- With the streams that texts name, one after another. The first that can't be attached is told.
unfoldable pub with_streams : Result Mapping GuestFault → List (List ℕ) → Result Mapping GuestFault
with_streams (Err fault) texts = Err fault
with_streams (Ok mapping) [] = Ok mapping
with_streams (Ok mapping) (text ∷ texts) = with_streams (with_stream mapping text) texts

-- a VMID of 16 bits that the SMMU has
abbrev pub vmid_named : Smmu → List ℕ → Option ℕ
vmid_named smmu text = do
  number ← clear_number text
  vmid ← guard (nat_lt number (2 ^ 16)) number
  guard (has_vmid smmu vmid) vmid

abbrev pub without_attachments : Smmu → Option ℕ → Result Mapping GuestFault
without_attachments smmu None = Err BadVmid
without_attachments smmu (Some vmid) = Ok (without_streams vmid smmu)

abbrev pub streams_of : Asked → List (List ℕ)
streams_of asked = map (λ text. text.now) asked.streams.now

-- the guest of an SMMU with this VMID and these streams, as texts, or why there is none
abbrev pub guest_of : Smmu → List ℕ → List (List ℕ) → Result Mapping GuestFault
guest_of smmu vmid streams = with_streams (without_attachments smmu (vmid_named smmu vmid)) streams

abbrev pub guest_asked : Asked → Result Mapping GuestFault
guest_asked asked = guest_of (smmu_of asked) asked.vmid.now (streams_of asked)

-- It is that guest, or that fault; or memory ran out.
abbrev pub IsOrNoMemory : Result Mapping GuestFault → Result Mapping GuestFault → Type 0
IsOrNoMemory wanted result = (result ≡ wanted) ⊎ (result ≡ Err NoMemory)
