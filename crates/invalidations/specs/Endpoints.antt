-- The block of pages that an endpoint drops from its cache.
use Rattle.std.specs.Prelude.{◌≡◌, ◌<◌, ◌≤◌, ℕ, ◌+◌, ◌-◌, ◌*◌, ◌/◌, ◌%◌, ◌^◌, Bool, true, false, ◌==◌, ◌&&◌, not, nat_lt, Option, Some, None, if◌then◌else◌}
use Rattle.cmdcodec.specs.declared.command.Command.{Command}
use Rattle.cmdcodec.specs.declared.command.Command.TheVariants.{AtcInv}
use Rattle.caches.specs.declared.tag.Tag.{Tag}
use Rattle.caches.specs.Blocks.{aligned, holds}
use Rattle.caches.specs.Covers.{covers, endpoints}
use Rattle.smmu_features.specs.declared.smmu.Smmu.{Smmu}
use Rattle.smmu_features.specs.Commands.{has_accesses}
use Rattle.invalidations.specs.declared.endpoint.Endpoint.{Endpoint}
use Rattle.invalidations.specs.declared.endpoint.Substreams.{Substreams}
use Rattle.invalidations.specs.declared.endpoint.Substreams.TheVariants.{All, One, Each}
use Rattle.invalidations.specs.declared.invalidation.Bytes.{Bytes}
use Rattle.invalidations.specs.declared.invalidation.Bytes.TheVariants.{Everything, Range}
use Rattle.invalidations.specs.declared.fault.InvalidationFault.{InvalidationFault}
use Rattle.invalidations.specs.declared.fault.InvalidationFault.TheVariants.{Unsupported, PastEnd}

-- The accesses are among these.
abbrev pub is_of : Substreams → Option ℕ → Bool
is_of All other = true
is_of (One ssid) None = false
is_of (One ssid) (Some other) = other == ssid
is_of Each None = false
is_of Each (Some other) = true

-- The tag is of a translation that the endpoint caches, and whose block holds the page.
abbrev pub is_cached : Endpoint → ℕ → Tag → Bool
is_cached endpoint page = endpoints (λ sid substream pages. sid == endpoint.sid && (is_of endpoint.substreams substream && holds pages page))

-- CMD_ATC_INV for these accesses
abbrev pub of_substreams : ℕ → Substreams → ℕ → ℕ → Command
of_substreams sid All size page = AtcInv sid false 0 false size page
of_substreams sid (One ssid) size page = AtcInv sid true ssid false size page
of_substreams sid Each size page = AtcInv sid true 0 true size page

abbrev pub endpoint_command : Endpoint → ℕ → ℕ → Command
endpoint_command endpoint size page = of_substreams endpoint.sid endpoint.substreams size page

-- where the aligned block of 2^power pages begins that holds the page
abbrev pub block_page : ℕ → ℕ → ℕ
block_page page power = page / 2 ^ power * 2 ^ power

-- Both numbers are in one aligned block of 2^power numbers, and in none of a lower power.
pub record IsLeastPower (first last power : ℕ) : Type 0 where
  pub shared : first / 2 ^ power ≡ last / 2 ^ power
  pub least : (other : ℕ) → first / 2 ^ other ≡ last / 2 ^ other → power ≤ other

-- The aligned block of 2^size pages from this one on holds both pages, and each aligned block that does is at least as long.
pub record IsLeastBlock (first last page size : ℕ) : Type 0 where
  pub small : size ≤ 52
  pub begins : page % 2 ^ size ≡ 0
  pub from : page ≤ first
  pub to : last < page + 2 ^ size
  pub least : (number power : ℕ) → holds (aligned number (2 ^ power)) first ≡ true → holds (aligned number (2 ^ power)) last ≡ true → size ≤ power

-- The command reaches the least block that holds the pages from the first to the last, and so covers what the
-- endpoint caches of each of them.
pub record ReachesEndpoint (endpoint : Endpoint) (first last : ℕ) (command : Command) : Type 0 where
  pub size : ℕ
  pub page : ℕ
  pub is : command ≡ endpoint_command endpoint size page
  pub block : IsLeastBlock first last page size
  pub covered : (other : ℕ) → first ≤ other → other ≤ last → (tag : Tag) → is_cached endpoint other tag ≡ true → covers command tag ≡ true

-- The SMMU has such accesses.
abbrev pub has_substreams_of : Smmu → Substreams → Bool
has_substreams_of smmu All = has_accesses smmu false 0 false
has_substreams_of smmu (One ssid) = has_accesses smmu true ssid false
has_substreams_of smmu Each = has_accesses smmu true 0 true

abbrev pub is_past_end : Bytes → Bool
is_past_end Everything = false
is_past_end (Range bytes) = not (bytes.length == 0) && nat_lt (2 ^ 64) (bytes.first + bytes.length)

abbrev pub endpoint_refusal : Endpoint → Bytes → Smmu → Option InvalidationFault
endpoint_refusal endpoint bytes smmu =
    if not (smmu.ats && has_substreams_of smmu endpoint.substreams) then Some Unsupported
    else if is_past_end bytes then Some PastEnd
    else None

-- The command is for these bytes, and there is one if there is a byte.
abbrev pub IsForBytes : Endpoint → Bytes → Option Command → Type 0
IsForBytes endpoint Everything None = ⊥
IsForBytes endpoint Everything (Some command) = ReachesEndpoint endpoint 0 (2 ^ 52 - 1) command
IsForBytes endpoint (Range bytes) None = bytes.length ≡ 0
IsForBytes endpoint (Range bytes) (Some command) =
    (0 < bytes.length) × ReachesEndpoint endpoint (bytes.first / 4096) ((bytes.first + bytes.length - 1) / 4096) command
