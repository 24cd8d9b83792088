-- Which tags a region holds.
use Rattle.std.specs.Prelude.{◌≡◌, ◌<◌, ◌≤◌, ◌^◌, ℕ, ◌==◌, ◌&&◌, nat_le, Bool, true, false, Option, Some, None}
use Rattle.cmdcodec.specs.declared.command.Command.{Command}
use Rattle.cmdcodec.specs.declared.reach.PageRun.{PageRun}
use Rattle.cmdcodec.specs.PageRuns.{IsIn}
use Rattle.caches.specs.declared.tag.Scope.{Scope}
use Rattle.caches.specs.declared.tag.Scope.TheVariants as scope
use Rattle.caches.specs.declared.tag.Tag.{Tag}
use Rattle.caches.specs.Blocks.{meets}
use Rattle.caches.specs.Covers.{covers, of_streams, descriptors, of_machines, stage1, stage2, el2, endpoints}
use Rattle.caches.specs.Laws.{IsInRange}
use Rattle.regions.specs.declared.accesses.Accesses.{Accesses}
use Rattle.regions.specs.declared.accesses.Accesses.TheVariants as accesses
use Rattle.regions.specs.declared.address_spaces.AddressSpaces.{AddressSpaces}
use Rattle.regions.specs.declared.address_spaces.AddressSpaces.TheVariants as spaces
use Rattle.regions.specs.declared.pages.Addresses.{Addresses}
use Rattle.regions.specs.declared.pages.Pages.{Pages}
use Rattle.regions.specs.declared.pages.Pages.TheVariants as pages
use Rattle.regions.specs.declared.space.Space.{Space}
use Rattle.regions.specs.declared.space.Space.TheVariants.{Stage1, Stage2, El2}
use Rattle.regions.specs.declared.substreams.Substreams.{Substreams}
use Rattle.regions.specs.declared.substreams.Substreams.TheVariants as substreams
use Rattle.regions.specs.declared.region.Region.{Region}
use Rattle.regions.specs.declared.region.Region.TheVariants.{Nothing, Streams, Descriptors, Translations, Machine, EveryMachine, Endpoint}

-- ---- Parts of a region.

-- the context descriptor of a substream is among these
abbrev pub has_substream : Substreams → ℕ → Bool
has_substream substreams.Every ssid = true
has_substream (substreams.One own) ssid = ssid == own

-- A global translation is for all address spaces.
abbrev pub has_scope : AddressSpaces → Scope → Bool
has_scope spaces.Every any = true
has_scope (spaces.OneAndGlobal own) scope.Global = true
has_scope (spaces.OneAndGlobal own) (scope.Of asid) = asid == own
has_scope (spaces.One own) scope.Global = false
has_scope (spaces.One own) (scope.Of asid) = asid == own

-- accesses with a SubstreamID, or without, are among these
abbrev pub has_access : Accesses → Option ℕ → Bool
has_access accesses.Every substream = true
has_access accesses.WithSubstream None = false
has_access accesses.WithSubstream (Some ssid) = true
has_access (accesses.OfSubstream own) None = false
has_access (accesses.OfSubstream own) (Some ssid) = ssid == own

-- a page of the block is among these
abbrev pub has_pages_of : Pages → PageRun → Bool
has_pages_of pages.Every block = true
has_pages_of (pages.Run run) block = meets block run

-- translations of this space whose block passes a test
abbrev pub in_space : Space → (PageRun → Bool) → Tag → Bool
in_space (Stage1 vmid spaces) test = stage1 (λ v scope block. v == vmid && (has_scope spaces scope && test block))
in_space (Stage2 vmid) test = stage2 (λ v block. v == vmid && test block)
in_space (El2 spaces) test = el2 (λ scope block. has_scope spaces scope && test block)

-- ---- The region holds the tag.
abbrev pub holds_tag : Region → Tag → Bool
holds_tag Nothing = λ tag. false
holds_tag (Streams first last) = of_streams (λ sid. nat_le first sid && nat_le sid last)
holds_tag (Descriptors sid substreams) = descriptors (λ s ssid. s == sid && has_substream substreams ssid)
holds_tag (Translations space pages) = in_space space (has_pages_of pages)
holds_tag (Machine vmid) = of_machines (λ v. v == vmid)
holds_tag EveryMachine = of_machines (λ v. true)
holds_tag (Endpoint sid accesses pages) =
    endpoints (λ s substream block. s == sid && (has_access accesses substream && has_pages_of pages block))

-- ---- What is said of a command's region.

-- The command covers a tag exactly if the region holds it.
abbrev pub HoldsWhatIsCovered : Command → Region → Type 0
HoldsWhatIsCovered command region = (tag : Tag) → IsInRange tag → covers command tag ≡ holds_tag region tag

-- A run of pages has a page, and ends where the address space does or before.
abbrev pub HasPages : Pages → Type 0
HasPages pages.Every = Unit {0}
HasPages (pages.Run run) = (run.first < run.end) × (run.end ≤ 2 ^ 52)

-- The page is among these.
abbrev pub HasPage : Pages → ℕ → Type 0
HasPage pages.Every page = Unit {0}
HasPage (pages.Run run) page = IsIn page run

-- The address is among these.
abbrev pub IsAmong : ℕ → Addresses → Type 0
IsAmong address addresses = (addresses.first ≤ address) × (address ≤ addresses.last)

-- A run of streams or pages isn't empty.
abbrev pub IsNotEmpty : Region → Type 0
IsNotEmpty (Streams first last) = first ≤ last
IsNotEmpty (Translations space pages) = HasPages pages
IsNotEmpty (Endpoint sid accesses pages) = HasPages pages
IsNotEmpty other = Unit {0}
