-- The host's commands for a command of the guest.
use Rattle.std.specs.Prelude.{ℕ, ◌==◌, ◌&&◌, Bool, true, false, List, [], ◌∷◌, Option, Some, None, if◌then◌else◌}
use Rattle.std.specs.List.{filter_map}
use Rattle.std.specs.Option.{option_map}
use Rattle.cmdcodec.specs.declared.raw.Raw.{Raw}
use Rattle.cmdcodec.specs.declared.command.Command.{Command}
use Rattle.cmdcodec.specs.declared.command.Command.TheVariants.{CfgiCd, CfgiCdAll, TlbiNhAll, TlbiNhAsid, TlbiNhVa, TlbiNhVaa, TlbiNsnhAll, AtcInv}
use Rattle.cmdcodec.specs.declared.reach.Granule.{Granule}
use Rattle.cmdcodec.specs.declared.reach.Granule.TheVariants.{Kib4, Kib16}
use Rattle.cmdcodec.specs.declared.reach.Reach.{Reach}
use Rattle.cmdcodec.specs.declared.reach.Reach.TheVariants.{Page, Range}
use Rattle.range_hints.specs.declared.ttl.Ttl.{Ttl}
use Rattle.range_hints.specs.declared.ttl.Ttl.TheVariants.{AnyLevel, Level1}
use Rattle.range_hints.specs.HintedWords.{hinted_words}
use Rattle.smmu_features.specs.declared.smmu.Smmu.{Smmu}
use Rattle.invalidations.specs.ByAddress.{single}
use Rattle.invalidations.specs.Plans.{has_granule}
use Rattle.guest_commands.specs.declared.streams.Attachment.{Attachment}
use Rattle.guest_commands.specs.Limits.{has_asid, has_descriptor, has_substreams, has_accesses}
use Rattle.guest_commands.specs.Mappings.{Mapping}

-- ---- How far a TLB invalidation by address reaches.

-- A TTL that is reserved beside its TG is none: level 1 of 16 KiB granules has no leaves.
abbrev pub known_ttl : Granule → Ttl → Ttl
known_ttl Kib16 Level1 = AnyLevel
known_ttl tg ttl = ttl

abbrev pub is_any : Ttl → Bool
is_any AnyLevel = true
is_any other = false

-- NUM and SCALE of one granule
abbrev pub is_one : ℕ → ℕ → Bool
is_one num scale = num == 0 && scale == 0

-- by range. NUM, SCALE and TTL that are all 0 are reserved beside a TG.
abbrev pub by_range : Granule → ℕ → ℕ → Ttl → Reach × Ttl
by_range tg num scale ttl = if is_one num scale && is_any ttl then (single tg, AnyLevel) else (Range tg num scale, ttl)

-- without ranges: the page, if that is all
abbrev pub by_page : Granule → ℕ → ℕ → Option (Reach × Ttl)
by_page Kib4 num scale = if is_one num scale then Some (Page, AnyLevel) else None
by_page tg num scale = None

-- with TTL. None: by no address.
abbrev pub host_reach : Smmu → Reach → Ttl → Option (Reach × Ttl)
host_reach smmu Page ttl = Some (Page, AnyLevel)
host_reach smmu (Range tg num scale) ttl =
    if smmu.range_invalidation && has_granule smmu tg then Some (by_range tg num scale (known_ttl tg ttl)) else by_page tg num scale

-- ---- TLB invalidations.

abbrev pub all_of : Mapping → Command × Ttl
all_of mapping = (TlbiNhAll mapping.vmid, AnyLevel)

abbrev pub by_asid : Mapping → ℕ → Command
by_asid mapping asid = if has_asid mapping.smmu asid then TlbiNhAsid mapping.vmid asid else TlbiNhAll mapping.vmid

-- by address in an address space, or in all if the SMMU doesn't have that one
abbrev pub by_va : Mapping → ℕ → Bool → ℕ → Option (Reach × Ttl) → Command × Ttl
by_va mapping asid leaf page None = all_of mapping
by_va mapping asid leaf page (Some (reach, ttl)) =
    if has_asid mapping.smmu asid then (TlbiNhVa mapping.vmid asid leaf page reach, ttl) else (TlbiNhVaa mapping.vmid leaf page reach, ttl)

abbrev pub by_vaa : Mapping → Bool → ℕ → Option (Reach × Ttl) → Command × Ttl
by_vaa mapping leaf page None = all_of mapping
by_vaa mapping leaf page (Some (reach, ttl)) = (TlbiNhVaa mapping.vmid leaf page reach, ttl)

abbrev pub own_tlb_command : Mapping → Command → Ttl → Option (Command × Ttl)
own_tlb_command mapping (TlbiNhAll vmid) ttl = Some (all_of mapping)
own_tlb_command mapping TlbiNsnhAll ttl = Some (all_of mapping)
own_tlb_command mapping (TlbiNhAsid vmid asid) ttl = Some (by_asid mapping asid, AnyLevel)
own_tlb_command mapping (TlbiNhVa vmid asid leaf page reach) ttl = Some (by_va mapping asid leaf page (host_reach mapping.smmu reach ttl))
own_tlb_command mapping (TlbiNhVaa vmid leaf page reach) ttl = Some (by_vaa mapping leaf page (host_reach mapping.smmu reach ttl))
own_tlb_command mapping other ttl = None

-- the host's TLB invalidation for one of the guest, if the host has stage 1
abbrev pub tlb_command : Mapping → Command → Ttl → Option (Command × Ttl)
tlb_command mapping command ttl = if mapping.smmu.stage_1 then own_tlb_command mapping command ttl else None

-- ---- Commands of a stream.

-- SubstreamID and Global of CMD_ATC_INV with this SSV. None: of accesses that the SMMU doesn't have.
abbrev pub accesses : Smmu → Bool → ℕ → Bool → Option (ℕ × Bool)
accesses smmu false ssid global = Some (0, false)
accesses smmu true ssid true = if has_substreams smmu then Some (0, true) else None
accesses smmu true ssid false = if has_accesses smmu (Some ssid) then Some (ssid, false) else None

abbrev pub atc_inv : ℕ → Bool → ℕ → ℕ → Option (ℕ × Bool) → Option Command
atc_inv host ssv size page None = None
atc_inv host ssv size page (Some (ssid, global)) = Some (AtcInv host ssv ssid global size page)

-- the host's command for one stream of the host, if the guest's command is of it
abbrev pub stream_command : Smmu → Command → Attachment → Option Command
stream_command smmu (CfgiCd sid ssid leaf) stream =
    if stream.sid == sid && has_descriptor smmu ssid then Some (CfgiCd stream.host.sid ssid leaf) else None
stream_command smmu (CfgiCdAll sid) stream = if stream.sid == sid && smmu.stage_1 then Some (CfgiCdAll stream.host.sid) else None
stream_command smmu (AtcInv sid ssv ssid global size page) stream =
    if stream.sid == sid && (stream.host.ats && smmu.ats) then atc_inv stream.host.sid ssv size page (accesses smmu ssv ssid global) else None
stream_command smmu other stream = None

-- ---- Words.

abbrev pub stream_words : Smmu → Command → Attachment → Option Raw
stream_words smmu command stream = option_map (λ host. hinted_words host AnyLevel) (stream_command smmu command stream)

abbrev pub words_or : Option (Command × Ttl) → List Raw → List Raw
words_or None others = others
words_or (Some (host, ttl)) others = hinted_words host ttl ∷ []

-- the words of the host's commands for a command of the guest with this level hint
unfoldable pub host_words : Mapping → Command → Ttl → List Raw
host_words mapping command ttl = words_or (tlb_command mapping command ttl) (filter_map (stream_words mapping.smmu command) mapping.streams)
