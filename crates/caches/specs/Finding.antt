-- Look-up by address: which entry of an address space holds a page.
use Rattle.std.specs.Prelude.{◌≡◌, ◌<◌, ◌*◌, ◌/◌, ◌^◌, ◌⊎◌, ℕ, Option, None, Some, IfSome}
use Rattle.std.specs.FinMap as finite
use Rattle.caches.specs.declared.address_space.AddressSpace.{AddressSpace}
use Rattle.caches.specs.declared.address_space.AddressSpace.TheVariants.{S1, S2, El2, Atc}
use Rattle.caches.specs.declared.tag.Tag.{Tag}
use Rattle.caches.specs.declared.tag.Tag.TheVariants as tag
use Rattle.caches.specs.declared.tag.Scope.TheVariants.{Global, Of}
use Rattle.caches.specs.declared.tag.Entry.{Entry}
use Rattle.caches.specs.Blocks.{HasSpan}
use Rattle.caches.specs.Held.{Entries}

-- ---- the tags that hold a page

-- the first page of the block of 2^span pages that has this page
abbrev pub block_at : ℕ → ℕ → ℕ
block_at page span = page / 2 ^ span * 2 ^ span

-- the space's own
abbrev pub own_tag : AddressSpace → ℕ → ℕ → Tag
own_tag (S1 vmid asid) page span = tag.S1 vmid (Of asid) (block_at page span) span
own_tag (S2 vmid) page span = tag.S2 vmid (block_at page span) span
own_tag (El2 asid) page span = tag.El2 (Of asid) (block_at page span) span
own_tag (Atc sid ssid) page span = tag.Atc sid ssid (block_at page span) span

-- the global one; for stage 2 and for an endpoint's space there is only its own
abbrev pub shared_tag : AddressSpace → ℕ → ℕ → Tag
shared_tag (S1 vmid asid) page span = tag.S1 vmid Global (block_at page span) span
shared_tag (S2 vmid) page span = tag.S2 vmid (block_at page span) span
shared_tag (El2 asid) page span = tag.El2 Global (block_at page span) span
shared_tag (Atc sid ssid) page span = tag.Atc sid ssid (block_at page span) span

-- ---- what is found

-- No block of this span that has the page is held.
abbrev pub NoneAt : Entries → AddressSpace → ℕ → ℕ → Type 0
NoneAt entries space page span =
    (finite.get entries (own_tag space page span) ≡ None) × (finite.get entries (shared_tag space page span) ≡ None)

-- It is held, the space's own before the other.
abbrev pub IsHeldAt : Entries → AddressSpace → ℕ → ℕ → Entry → Type 0
IsHeldAt entries space page span entry =
    (finite.get entries (own_tag space page span) ≡ Some entry)
    ⊎ ((finite.get entries (own_tag space page span) ≡ None) × (finite.get entries (shared_tag space page span) ≡ Some entry))

-- It is that of the greatest span of the mask at which one is held.
pub record IsGreatest (entries : Entries) (space : AddressSpace) (page spans : ℕ) (entry : Entry) : Type 0 where
  pub span : ℕ
  pub asked : HasSpan spans span
  pub held : IsHeldAt entries space page span entry
  pub greater : (s : ℕ) → span < s → HasSpan spans s → NoneAt entries space page s

-- the entry at the greatest span of the mask that has one, or none if no span of it has
abbrev pub IsFound : Entries → AddressSpace → ℕ → ℕ → Option Entry → Type 0
IsFound entries space page spans None = (s : ℕ) → HasSpan spans s → NoneAt entries space page s
IsFound entries space page spans (Some entry) = IsGreatest entries space page spans entry

-- what is found is held under its own tag
abbrev pub IsHeldIn : Entries → Option Entry → Type 0
IsHeldIn entries found = IfSome found (λ entry. finite.get entries entry.tag ≡ Some entry)

-- ---- in between

-- the tag of the global block, or none where only its own is for the space
abbrev pub IsShared : AddressSpace → ℕ → ℕ → Option Tag → Type 0
IsShared space page span None = shared_tag space page span ≡ own_tag space page span
IsShared space page span (Some tag) = tag ≡ shared_tag space page span

-- the entry at one span, or none
abbrev pub IsFoundAt : Entries → AddressSpace → ℕ → ℕ → Option Entry → Type 0
IsFoundAt entries space page span None = NoneAt entries space page span
IsFoundAt entries space page span (Some entry) = IsHeldAt entries space page span entry
