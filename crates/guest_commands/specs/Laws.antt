-- Laws of the definitions.
use Rattle.std.specs.Prelude.{◌≡◌, ◌≢◌, ◌<◌, ◌^◌, ℕ, Bool, true, false}
use Rattle.cmdcodec.specs.declared.command.Command.TheVariants.{TlbiNhAsid, TlbiNhVa}
use Rattle.cmdcodec.specs.declared.reach.Reach.{Reach}
use Rattle.caches.specs.declared.tag.Scope.TheVariants.{Global}
use Rattle.caches.specs.declared.tag.Tag.{Tag}
use Rattle.caches.specs.declared.tag.Tag.TheVariants.{S1}
use Rattle.caches.specs.Covers.{covers}
use Rattle.guest_commands.specs.Mappings.{Mapping}
use Rattle.guest_commands.specs.Entries.{IsOfGuest, IsOwnStream}

-- Whatever a TLBI_NH_VA reaches, it covers a global entry of its page, and the TLBI_NH_ASID of its address space doesn't.
abbrev pub AnAddressSpaceIsTooLittle : Type 0
AnAddressSpaceIsTooLittle =
    (vmid asid page : ℕ) (leaf : Bool) (reach : Reach) → page < 2 ^ 52
    → (covers (TlbiNhVa vmid asid leaf page reach) (S1 vmid Global page 0) ≡ true) × (covers (TlbiNhAsid vmid asid) (S1 vmid Global page 0) ≡ false)

-- Two guests have different VMIDs on the host and no stream of it in common.
pub record AreSeparate (one other : Mapping) : Type 0 where
  pub machines : one.vmid ≢ other.vmid
  pub streams : (sid : ℕ) → IsOwnStream one sid → IsOwnStream other sid → ⊥

-- No entry is of two such guests.
abbrev pub EntriesAreOfOneGuest : Type 0
EntriesAreOfOneGuest = (one other : Mapping) (tag : Tag) → AreSeparate one other → IsOfGuest one tag → IsOfGuest other tag → ⊥
