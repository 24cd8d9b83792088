-- How the host's commands are appended one by one.
use Rattle.std.specs.Prelude.{◌≡◌, ◌<◌, ◌≤◌, ◌+◌, Bool, true, false, List, ◌++◌, length, All, Any, Option, Some, None}
use Rattle.std.specs.List.{filter_map}
use Rattle.cmdcodec.specs.declared.raw.Raw.{Raw}
use Rattle.cmdcodec.specs.declared.command.Command.{Command}
use Rattle.caches.specs.declared.tag.Tag.{Tag}
use Rattle.caches.specs.Covers.{covers}
use Rattle.range_hints.specs.declared.ttl.Ttl.{Ttl}
use Rattle.range_hints.specs.declared.ttl.Ttl.TheVariants.{AnyLevel}
use Rattle.range_hints.specs.Hints.{SpellsWithHint}
use Rattle.range_hints.specs.HintedWords.{hinted_words}
use Rattle.smmu_features.specs.declared.smmu.Smmu.{Smmu}
use Rattle.smmu_features.specs.Commands.{IsLegalFor}
use Rattle.guest_commands.specs.declared.ended.Ended.{Ended}
use Rattle.guest_commands.specs.declared.streams.Attachment.{Attachment}
use Rattle.guest_commands.specs.Mappings.{Mapping}
use Rattle.guest_commands.specs.HostCommands.{stream_command, stream_words, host_words}
use Rattle.guest_commands.specs.Entries.{IsImage}
use Rattle.guest_commands.specs.Theorems.{IsIsolated, IsSupported, Reaches, IsReachedBy}
use Rattle.guest_commands.specs.Conversions.{stop_of, stop_for, words_for, IsStopped}

-- The words of the host's command for a stream spell it, if there is one.
abbrev pub IsSpelledFor : Smmu → Command → Attachment → Type 0
IsSpelledFor smmu command stream = (host : Command) → stream_command smmu command stream ≡ Some host → SpellsWithHint (hinted_words host AnyLevel) host AnyLevel

-- The words of the host's commands for these streams were appended.
pub record AreAppended (smmu : Smmu) (command : Command) (streams : List Attachment) (old new : List Raw) : Type 0 where
  pub all : new ≡ old ++ filter_map (stream_words smmu command) streams
  pub few : length new ≤ 63
  pub spelled : All (IsSpelledFor smmu command) streams

-- There was no room for them, and nothing was appended.
pub record DoNotFit (words old new : List Raw) : Type 0 where
  pub same : new ≡ old
  pub many : 63 < length old + length words

abbrev pub AreTried : Smmu → Command → List Attachment → List Raw → List Raw → Bool → Type 0
AreTried smmu command streams old new true = AreAppended smmu command streams old new
AreTried smmu command streams old new false = DoNotFit (filter_map (stream_words smmu command) streams) old new

-- Each of the words may be sent.
pub record AreHostCommands (mapping : Mapping) (words : List Raw) : Type 0 where
  pub legal : All (IsLegalFor mapping.smmu) words
  pub isolated : All (IsIsolated mapping) words
  pub supported : All (IsSupported mapping.smmu) words

-- Some of these commands covers whatever the guest's command covers, as it is on the host.
abbrev pub AreReached : Mapping → Command → Ttl → List Raw → Type 0
AreReached mapping command ttl commands =
    (tag image : Tag) → covers command tag ≡ true → IsImage mapping tag image → Any (Reaches command ttl image) commands

-- The words of the host's commands for a command of the guest were appended.
pub record IsAppended (mapping : Mapping) (command : Command) (ttl : Ttl) (old new : List Raw) : Type 0 where
  pub all : new ≡ old ++ host_words mapping command ttl
  pub few : length new ≤ 63
  pub own : AreHostCommands mapping (host_words mapping command ttl)
  pub reached : stop_of command ≡ None → AreReached mapping command ttl (host_words mapping command ttl)

-- There was no room for the words of the host's commands for a command of the guest behind those that there are.
pub record DoesNotFit (mapping : Mapping) (command : Command) (ttl : Ttl) (old new : List Raw) : Type 0 where
  pub rest : DoNotFit (host_words mapping command ttl) old new
  pub some : 1 ≤ length old

abbrev pub IsTried : Mapping → Command → Ttl → List Raw → List Raw → Bool → Type 0
IsTried mapping command ttl old new true = IsAppended mapping command ttl old new
IsTried mapping command ttl old new false = DoesNotFit mapping command ttl old new

-- Words of the guest were taken, and the words of the host's commands for them appended.
pub record IsPut (mapping : Mapping) (raw : Raw) (old new : List Raw) : Type 0 where
  pub none_stops : stop_for raw ≡ None
  pub all : new ≡ old ++ words_for mapping raw
  pub few : length new ≤ 63
  pub own : AreHostCommands mapping (words_for mapping raw)
  pub reached : IsReachedBy mapping (words_for mapping raw) raw

-- They were taken, or aren't for a reason, and nothing was appended.
abbrev pub IsPutOr : Mapping → Raw → List Raw → List Raw → Option Ended → Type 0
IsPutOr mapping raw old new None = IsPut mapping raw old new
IsPutOr mapping raw old new (Some ended) = (new ≡ old) × IsStopped mapping (length old) raw ended
