-- The key of each tag, and the owner, page and span of a key.
use Rattle.std.specs.Prelude.{◌≡◌, ◌<◌, ◌≤◌, ◌^◌, ℕ, Bool, Option, Some, None}
use Rattle.cmdcodec.specs.declared.command.Command.{Command}
use Rattle.cmdcodec.specs.declared.reach.PageRun.{PageRun}
use Rattle.caches.specs.declared.tag.Scope.{Scope}
use Rattle.caches.specs.declared.tag.Scope.TheVariants.{Global, Of}
use Rattle.caches.specs.declared.tag.Tag.{Tag}
use Rattle.caches.specs.declared.tag.Tag.TheVariants.{Ste, Cd, S1, S2, El2, Atc}
use Rattle.caches.specs.declared.tag.Entry.{Entry}
use Rattle.caches.specs.declared.key.Stage.TheVariants.{Two, One}
use Rattle.caches.specs.declared.key.Key.{Key}
use Rattle.caches.specs.declared.key.Key.TheVariants.{Configuration, Machine, Hypervisor, Endpoint}
use Rattle.caches.specs.declared.key.Owner.{Owner}
use Rattle.caches.specs.declared.key.Owner.TheVariants.{Guest, Host, Device}
use Rattle.caches.specs.Blocks.{IsBlock}
use Rattle.caches.specs.Covers.{covers}

abbrev pub asid_of : Scope → Option ℕ
asid_of Global = None
asid_of (Of asid) = Some asid

abbrev pub scope_of : Option ℕ → Scope
scope_of None = Global
scope_of (Some asid) = Of asid

abbrev pub key_of : Tag → Key
key_of (Ste sid) = Configuration sid None
key_of (Cd sid ssid) = Configuration sid (Some ssid)
key_of (S1 vmid scope page span) = Machine vmid page span (One (asid_of scope))
key_of (S2 vmid page span) = Machine vmid page span Two
key_of (El2 scope page span) = Hypervisor page span (asid_of scope)
key_of (Atc sid ssid page span) = Endpoint sid page span ssid

abbrev pub tag_of : Key → Tag
tag_of (Configuration sid None) = Ste sid
tag_of (Configuration sid (Some ssid)) = Cd sid ssid
tag_of (Machine vmid page span Two) = S2 vmid page span
tag_of (Machine vmid page span (One asid)) = S1 vmid (scope_of asid) page span
tag_of (Hypervisor page span asid) = El2 (scope_of asid) page span
tag_of (Endpoint sid page span ssid) = Atc sid ssid page span

-- the owner of a translation, its page and its span
abbrev pub owner_of : Key → Option Owner
owner_of (Configuration sid ssid) = None
owner_of (Machine vmid page span stage) = Some (Guest vmid)
owner_of (Hypervisor page span asid) = Some Host
owner_of (Endpoint sid page span ssid) = Some (Device sid)

abbrev pub page_of : Key → ℕ
page_of (Configuration sid ssid) = 0
page_of (Machine vmid page span stage) = page
page_of (Hypervisor page span asid) = page
page_of (Endpoint sid page span ssid) = page

abbrev pub span_of : Key → ℕ
span_of (Configuration sid ssid) = 0
span_of (Machine vmid page span stage) = span
span_of (Hypervisor page span asid) = span
span_of (Endpoint sid page span ssid) = span

-- the least key with this owner, page and span
abbrev pub least : Owner → ℕ → ℕ → Key
least (Guest vmid) page span = Machine vmid page span Two
least Host page span = Hypervisor page span None
least (Device sid) page span = Endpoint sid page span None

-- the key is of a stream from first up to end
abbrev pub IsOfStreams : PageRun → Key → Type 0
IsOfStreams run (Configuration sid ssid) = (run.first ≤ sid) × (sid < run.end)
IsOfStreams run other = ⊥

-- the key is of a translation of a virtual machine
abbrev pub IsOfMachines : Key → Type 0
IsOfMachines (Machine vmid page span stage) = Unit {0}
IsOfMachines other = ⊥

abbrev pub passes_key : (Tag → Bool) → Key → Bool
passes_key passes key = passes (tag_of key)

abbrev pub covers_key : Command → Key → Bool
covers_key command key = passes_key (covers command) key

-- an entry that may be held under the tag
pub record IsKept (tag : Tag) (entry : Entry) : Type 0 where
  pub own : entry.tag ≡ tag
  pub well_formed : IsBlock tag
  pub in_space : page_of (key_of tag) < 2 ^ 52
