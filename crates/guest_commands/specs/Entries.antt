-- Which entries of the host are the guest's.
use Rattle.std.specs.Prelude.{◌≡◌, ℕ, true}
use Rattle.caches.specs.declared.tag.Tag.{Tag}
use Rattle.caches.specs.declared.tag.Tag.TheVariants.{Ste, Cd, S1, S2, El2, Atc}
use Rattle.guest_commands.specs.declared.streams.HostStream.{HostStream}
use Rattle.guest_commands.specs.Limits.{has_descriptor, has_accesses}
use Rattle.guest_commands.specs.Mappings.{Mapping, IsAttached}

-- The entry `image` of the host is what the entry `tag` of the guest is there. The guest has no stage 2 and no EL2, and all
-- its VMIDs are one. What the host's SMMU doesn't have is nothing there: a stage 1, a substream, an endpoint's cache.
abbrev pub IsImage : Mapping → Tag → Tag → Type 0
IsImage mapping (Ste sid) image = (host : HostStream) × IsAttached mapping sid host × (image ≡ Ste host.sid)
IsImage mapping (Cd sid ssid) image =
    (host : HostStream) × IsAttached mapping sid host × (has_descriptor mapping.smmu ssid ≡ true) × (image ≡ Cd host.sid ssid)
IsImage mapping (S1 vmid scope page span) image = (mapping.smmu.stage_1 ≡ true) × (image ≡ S1 mapping.vmid scope page span)
IsImage mapping (S2 vmid page span) image = ⊥
IsImage mapping (El2 scope page span) image = ⊥
IsImage mapping (Atc sid ssid page span) image =
    (host : HostStream) × IsAttached mapping sid host × (host.ats ≡ true) × (mapping.smmu.ats ≡ true) × (has_accesses mapping.smmu ssid ≡ true)
    × (image ≡ Atc host.sid ssid page span)

-- a stream of the host that is one of the guest's
abbrev pub IsOwnStream : Mapping → ℕ → Type 0
IsOwnStream mapping sid = (guest : ℕ) × (host : HostStream) × IsAttached mapping guest host × (sid ≡ host.sid)

-- one whose endpoint caches translations
abbrev pub IsOwnEndpoint : Mapping → ℕ → Type 0
IsOwnEndpoint mapping sid = (guest : ℕ) × (host : HostStream) × IsAttached mapping guest host × (sid ≡ host.sid) × (host.ats ≡ true)

-- an entry of the host that is the guest's: a translation of its stage 1, or what is cached for one of its streams
abbrev pub IsOfGuest : Mapping → Tag → Type 0
IsOfGuest mapping (Ste sid) = IsOwnStream mapping sid
IsOfGuest mapping (Cd sid ssid) = IsOwnStream mapping sid
IsOfGuest mapping (S1 vmid scope page span) = vmid ≡ mapping.vmid
IsOfGuest mapping (S2 vmid page span) = ⊥
IsOfGuest mapping (El2 scope page span) = ⊥
IsOfGuest mapping (Atc sid ssid page span) = IsOwnEndpoint mapping sid
