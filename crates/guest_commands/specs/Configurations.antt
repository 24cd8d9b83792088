-- The streams whose stream table entries a guest's command is for.
use Rattle.std.specs.Prelude.{◌≡◌, false, true, List, [], ◌∷◌, Any, Option, Some, None, filter}
use Rattle.cmdcodec.specs.declared.command.Command.{Command}
use Rattle.cmdcodec.specs.declared.command.Command.TheVariants.{CfgiSte}
use Rattle.caches.specs.declared.tag.Tag.{Tag}
use Rattle.caches.specs.declared.tag.Tag.TheVariants.{Ste}
use Rattle.caches.specs.Covers.{covers}
use Rattle.guest_commands.specs.declared.ended.Stop.TheVariants.{Configure}
use Rattle.guest_commands.specs.declared.streams.Attachment.{Attachment}
use Rattle.guest_commands.specs.Mappings.{Mapping}
use Rattle.guest_commands.specs.Entries.{IsImage, IsOfGuest}
use Rattle.guest_commands.specs.Conversions.{stop_of}

-- those of the streams whose entries the command covers
abbrev pub concerned : Command → List Attachment → List Attachment
concerned command streams = filter (λ stream. covers command (Ste stream.sid)) streams

-- The stream is the first of those, and this is the rest.
abbrev pub IsFirst : Command → List Attachment → Attachment → List Attachment → Type 0
IsFirst command streams stream rest = concerned command streams ≡ stream ∷ concerned command rest

-- The next stream was taken, or none is left.
abbrev pub IsNext : List Attachment → Option Attachment → List Attachment → Type 0
IsNext old None new = (old ≡ []) × (new ≡ [])
IsNext old (Some stream) new = old ≡ stream ∷ new

-- CMD_CFGI_STE of the host's stream, Leaf 0
abbrev pub cfgi_ste : Attachment → Command
cfgi_ste stream = CfgiSte stream.host.sid false

-- Whatever it covers is the guest's.
abbrev pub IsOwnEntry : Mapping → Attachment → Type 0
IsOwnEntry mapping stream = (tag : Tag) → covers (cfgi_ste stream) tag ≡ true → IsOfGuest mapping tag

-- Whatever the guest's CMD_CFGI_STE or CMD_CFGI_STE_RANGE covers, as it is on the host, the CMD_CFGI_STE of one of these
-- streams covers.
abbrev pub AreConfigured : Mapping → Command → List Attachment → Type 0
AreConfigured mapping command streams =
    stop_of command ≡ Some (Configure command) → (tag image : Tag) → covers command tag ≡ true → IsImage mapping tag image
    → Any (λ stream. covers (cfgi_ste stream) image ≡ true) streams
