-- A beginning of a guest's commands, converted.
use Rattle.std.specs.Prelude.{◌≡◌, ◌<◌, ◌≤◌, ℕ, ◌+◌, ◌==◌, ◌||◌, Bool, List, [], length, take, slice_get, Option, Some, None, Result, Ok, Err, All, if◌then◌else◌}
use Rattle.std.specs.List.{flat_map}
use Rattle.cmdcodec.specs.declared.raw.Raw.{Raw}
use Rattle.cmdcodec.specs.declared.ill.Ill.{Ill}
use Rattle.cmdcodec.specs.declared.command.Command.{Command}
use Rattle.cmdcodec.specs.declared.command.Command.TheVariants.{CfgiSte, CfgiSteRange, CfgiCd, CfgiCdAll, TlbiNhAll, TlbiNhAsid, TlbiNhVa, TlbiNhVaa, TlbiNsnhAll, AtcInv, Kept, CmdSync}
use Rattle.cmdcodec.specs.Fields.{field}
use Rattle.cmdcodec.specs.Opcodes.{opcode_of}
use Rattle.cmdcodec.specs.Words.{decoding}
use Rattle.range_hints.specs.declared.ttl.Ttl.{Ttl}
use Rattle.range_hints.specs.declared.ttl.Ttl.TheVariants.{AnyLevel}
use Rattle.range_hints.specs.Hints.{has_ttl, ttl_named}
use Rattle.guest_commands.specs.declared.ended.Ended.{Ended}
use Rattle.guest_commands.specs.declared.ended.Ended.TheVariants.{End, Full, At}
use Rattle.guest_commands.specs.declared.ended.Stop.{Stop}
use Rattle.guest_commands.specs.declared.ended.Stop.TheVariants.{Sync, Configure, Illegal, Refused}
use Rattle.guest_commands.specs.Mappings.{Mapping}
use Rattle.guest_commands.specs.HostCommands.{host_words}

-- ---- One command.

-- CMD_PREFETCH_CONFIG and CMD_PREFETCH_ADDR
abbrev pub is_prefetch : ℕ → Bool
is_prefetch opcode = opcode == 0x01 || opcode == 0x02

-- why a guest's command isn't taken, if so
abbrev pub stop_of : Command → Option Stop
stop_of (CfgiSte sid leaf) = Some (Configure (CfgiSte sid leaf))
stop_of (CfgiSteRange sid range) = Some (Configure (CfgiSteRange sid range))
stop_of (CmdSync cs msh attr «data» address) = Some Sync
stop_of (Kept words) = if is_prefetch (opcode_of words) then None else Some Refused
stop_of (CfgiCd sid ssid leaf) = None
stop_of (CfgiCdAll sid) = None
stop_of (TlbiNhAll vmid) = None
stop_of (TlbiNhAsid vmid asid) = None
stop_of (TlbiNhVa vmid asid leaf page reach) = None
stop_of (TlbiNhVaa vmid leaf page reach) = None
stop_of TlbiNsnhAll = None
stop_of (AtcInv sid ssv ssid global size page) = None
stop_of other = Some Refused

abbrev pub stop_in : Result Command Ill → Option Stop
stop_in (Err ill) = Some (Illegal ill)
stop_in (Ok command) = stop_of command

-- why these words of the guest aren't taken, if so
abbrev pub stop_for : Raw → Option Stop
stop_for raw = stop_in (decoding raw)

-- TTL in hi
abbrev pub ttl_in : Command → ℕ → Ttl
ttl_in command hi = if has_ttl command then ttl_named (field hi 9 8) else AnyLevel

abbrev pub words_in : Mapping → ℕ → Result Command Ill → List Raw
words_in mapping hi (Err ill) = []
words_in mapping hi (Ok command) = host_words mapping command (ttl_in command hi)

-- the words of the host's commands for these words of the guest
abbrev pub words_for : Mapping → Raw → List Raw
words_for mapping raw = words_in mapping raw.hi (decoding raw)

-- ---- A batch.

-- The host's commands for the first `taken` of the guest's, and why no more were taken.
pub record Conversion : Type 0 where
  pub guest : Mapping
  pub commands : List Raw
  pub taken : ℕ
  pub ended : Ended

-- the commands of a batch, which has at least one
abbrev pub batch_of : List Raw → Option (List Raw)
batch_of [] = None
batch_of commands = Some commands

-- Words of the guest behind which there are `count` commands of the host aren't taken for this reason: the host's commands for
-- them don't fit behind these, or they are never taken.
abbrev pub IsStopped : Mapping → ℕ → Raw → Ended → Type 0
IsStopped mapping count next End = ⊥
IsStopped mapping count next Full = (stop_for next ≡ None) × (1 ≤ count) × (63 < count + length (words_for mapping next))
IsStopped mapping count next (At stop) = stop_for next ≡ Some stop

-- All commands are taken, or the next one isn't for this reason.
abbrev pub IsEnd : Mapping → List Raw → ℕ → ℕ → Ended → Type 0
IsEnd mapping raws taken count End = taken ≡ length raws
IsEnd mapping raws taken count ended = (next : Raw) × (slice_get raws taken ≡ Some next) × IsStopped mapping count next ended

-- Exactly the first `taken` commands are converted, in order, and the next one can't be.
pub record IsConverted (mapping : Mapping) (raws : List Raw) (conversion : Conversion) : Type 0 where
  pub guest : conversion.guest ≡ mapping
  pub some : conversion.taken ≤ length raws
  pub none_stops : All (λ raw. stop_for raw ≡ None) (take conversion.taken raws)
  pub commands : conversion.commands ≡ flat_map (words_for mapping) (take conversion.taken raws)
  pub few : length conversion.commands ≤ 63
  pub ended : IsEnd mapping raws conversion.taken (length conversion.commands) conversion.ended
