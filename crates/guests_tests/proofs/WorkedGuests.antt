-- What the definitions say of a guest and its commands.
use Rattle.std.proofs.Common.{◌≡◌, ◌≢◌, ℕ, zero, suc, ◌+◌, ◌<◌, ◌≤◌, Bool, true, false, inl, inr, List, [], ◌∷◌, length, take, All, AllPairs, Some, None, refl, ◌∙◌, ap, arith}
use Rattle.std.specs.List.{flat_map}
use Rattle.cmdcodec.specs.declared.raw.Raw.{Raw}
use Rattle.cmdcodec.specs.declared.command.Command.{Command}
use Rattle.cmdcodec.specs.declared.command.Command.TheVariants.{CfgiSte, CfgiCd, CfgiCdAll, TlbiNhAll, TlbiNhAsid, TlbiNhVa, TlbiNhVaa, TlbiEl2All, AtcInv, CmdSync}
use Rattle.cmdcodec.specs.declared.reach.Granule.TheVariants.{Kib4, Kib16, Kib64}
use Rattle.cmdcodec.specs.declared.reach.Reach.TheVariants.{Page, Range}
use Rattle.caches.specs.declared.tag.Scope.TheVariants.{Global}
use Rattle.caches.specs.declared.tag.Tag.{Tag}
use Rattle.caches.specs.declared.tag.Tag.TheVariants.{Ste, Cd, S1, S2, El2, Atc}
use Rattle.caches.specs.Covers.{covers}
use Rattle.range_hints.specs.declared.ttl.Ttl.{Ttl}
use Rattle.range_hints.specs.declared.ttl.Ttl.TheVariants.{AnyLevel, Level1, Level2, Level3}
use Rattle.smmu_features.specs.declared.smmu.Smmu.{Smmu}
use Rattle.smmu_features.specs.IdRegisters.{smmu_of}
use Rattle.guest_commands.specs.declared.ended.Ended.TheVariants.{End, Full}
use Rattle.guest_commands.specs.declared.ended.Stop.TheVariants.{Sync, Configure, Refused}
use Rattle.guest_commands.specs.declared.fault.AttachFault.TheVariants as fault
use Rattle.guest_commands.specs.declared.streams.Attachment.{Attachment}
use Rattle.guest_commands.specs.Limits.{has_asid, has_vmid, has_stream, has_substream, has_descriptor, has_accesses}
use Rattle.guest_commands.specs.Mappings.{Mapping, IsMapping, AreApart, attached_to, refusal}
use Rattle.guest_commands.specs.HostCommands.{known_ttl, host_reach, by_va, stream_command}
use Rattle.guest_commands.specs.Entries.{IsImage, IsOfGuest, IsOwnStream}
use Rattle.guest_commands.specs.Theorems.{IsIsolated, Has, HasReach, IsSupported, IsNarrowedAlike, Reaches}
use Rattle.guest_commands.specs.Conversions.{Conversion, batch_of, stop_of, stop_for, words_for, IsStopped, IsEnd, IsConverted}
use Rattle.guest_commands.specs.Configurations.{concerned, cfgi_ste, IsNext}
use Rattle.guest_commands.specs.Laws.{AreSeparate}

-- ---- A host and a guest on it.

-- SMMU_IDR0 with S1P, S2P, ATS, ASID16 and VMID16; streams of 16 bits and substreams of 8; RIL; all granules
abbrev pub smmu : Smmu
smmu = smmu_of 0x41403 0x210 0x400 0x70

-- without ASID16 and VMID16, without substreams, without RIL, with granules of 4 KiB alone
abbrev pub poor : Smmu
poor = smmu_of 0x403 0x10 0 0x10

abbrev pub of_host : ℕ → ℕ → Bool → Attachment
of_host sid host ats = record { sid = sid; host = record { sid = host; ats = ats } }

abbrev pub streams : List Attachment
streams = of_host 3 0x103 true ∷ of_host 4 0x104 true ∷ of_host 4 0x105 false ∷ []

abbrev pub guest : Mapping
guest = record { vmid = 33; smmu = smmu; streams = streams }

abbrev pub on_poor : Mapping
on_poor = record { vmid = 33; smmu = poor; streams = streams }

-- ---- Limits.

pub asid_256_has_9_bits : has_asid poor 256 ≡ false
asid_256_has_9_bits = refl

pub vmid_256_has_9_bits : has_vmid poor 256 ≡ false
vmid_256_has_9_bits = refl

pub stream_has_17_bits : has_stream smmu 0x10000 ≡ false
stream_has_17_bits = refl

pub substream_has_9_bits : has_substream smmu 256 ≡ false
substream_has_9_bits = refl

-- with stage 2 and ATS alone
abbrev pub without_stage_1 : Smmu
without_stage_1 = smmu_of 0x401 0x210 0 0x10

pub no_descriptor_without_stage_1 : has_descriptor without_stage_1 0 ≡ false
no_descriptor_without_stage_1 = refl

pub no_access_with_a_substream : has_accesses poor (Some 0) ≡ false
no_access_with_a_substream = refl

-- ---- Mappings.

pub one_of_three : length (attached_to streams 3) ≡ 1
one_of_three = refl

pub used_twice_is_not_apart : AreApart (of_host 3 0x103 true) (of_host 4 0x103 false) → ⊥
used_twice_is_not_apart apart = apart refl

pub mapping_is_apart : (mapping : Mapping) → IsMapping mapping → AllPairs AreApart mapping.streams
mapping_is_apart mapping is = is.apart

pub mapping_has_few : (mapping : Mapping) (sid : ℕ) → IsMapping mapping → length (attached_to mapping.streams sid) ≤ 63
mapping_has_few mapping sid is = is.few sid

pub mapping_has_a_vmid : (mapping : Mapping) → IsMapping mapping → has_vmid mapping.smmu mapping.vmid ≡ true
mapping_has_a_vmid mapping is = is.machine

pub mapping_has_streams : (mapping : Mapping) → IsMapping mapping → All (λ stream. has_stream mapping.smmu stream.host.sid ≡ true) mapping.streams
mapping_has_streams mapping is = is.had

pub used_is_refused : refusal guest 5 0x103 ≡ Some fault.Used
used_is_refused = refl

pub out_of_range_is_refused : refusal guest 5 0x10000 ≡ Some fault.OutOfRange
out_of_range_is_refused = refl

-- ---- Entries.

pub own_translation : IsImage guest (S1 7 Global 0 0) (S1 33 Global 0 0)
own_translation = (refl, refl)

pub second_stream : IsImage guest (Cd 4 0) (Cd 0x105 0)
second_stream = (record { sid = 0x105; ats = false }, (2, omega arith, refl), refl, refl)

pub own_endpoint : IsImage guest (Atc 4 (Some 1) 0 0) (Atc 0x104 (Some 1) 0 0)
own_endpoint = (record { sid = 0x104; ats = true }, (1, omega arith, refl), refl, refl, refl, refl)

pub own_entry : IsImage guest (Ste 3) (Ste 0x103)
own_entry = (record { sid = 0x103; ats = true }, (0, omega arith, refl), refl)

pub another_machine : IsOfGuest guest (S1 7 Global 0 0) → ⊥
another_machine own = let same : 7 ≡ 33 = own in omega (arith, same)

pub no_stage_2 : IsOfGuest guest (S2 33 0 0) → ⊥
no_stage_2 own = own

pub no_hypervisor : IsOfGuest guest (El2 Global 0 0) → ⊥
no_hypervisor own = own

abbrev without_streams : Mapping
without_streams = record { vmid = 33; smmu = smmu; streams = [] }

pub another_descriptor : IsOfGuest without_streams (Cd 3 0) → ⊥
another_descriptor (sid, host, (k, small, at), same) = omega (arith, small)

pub another_entry : IsOfGuest without_streams (Ste 3) → ⊥
another_entry (sid, host, (k, small, at), same) = omega (arith, small)

abbrev without_ats : Mapping
without_ats = record { vmid = 33; smmu = smmu; streams = of_host 4 0x105 false ∷ [] }

pub endpoint_without_ats : IsOfGuest without_ats (Atc 0x105 None 0 0) → ⊥
endpoint_without_ats (sid, host, (zero, small, at), same, ats) =
    let no : false ≡ true = ap (λ (stream : Attachment). stream.host.ats) at ∙ ats in cc
endpoint_without_ats (sid, host, (suc k, small, at), same, ats) = omega (arith, small)

-- ---- Theorems.

pub isolated_covers_its_own : (mapping : Mapping) (raw : Raw) (isolated : IsIsolated mapping raw) (tag : Tag) → covers isolated.host tag ≡ true → IsOfGuest mapping tag
isolated_covers_its_own mapping raw isolated tag e = isolated.own tag e

pub supported_is_had : (supported : Smmu) (raw : Raw) (is : IsSupported supported raw) → Has supported is.ttl is.host
supported_is_had supported raw is = is.had

pub no_sync_is_sent : Has smmu AnyLevel (CmdSync 1 0 0 0 0) → ⊥
no_sync_is_sent had = had

pub no_entry_is_sent : Has smmu AnyLevel (CfgiSte 0x103 false) → ⊥
no_entry_is_sent had = had

pub asid_of_16_bits_is_not_had : Has poor AnyLevel (TlbiNhAsid 33 256) → ⊥
asid_of_16_bits_is_not_had (stage, machine, space) = cc

pub vmid_of_16_bits_is_not_had : Has poor AnyLevel (TlbiNhAll 256) → ⊥
vmid_of_16_bits_is_not_had (stage, machine) = cc

pub descriptors_are_not_had : Has without_stage_1 AnyLevel (CfgiCdAll 0x103) → ⊥
descriptors_are_not_had had = let wrong : false ≡ true = had.1 in cc

pub substream_is_not_had : Has smmu AnyLevel (CfgiCd 0x103 256 false) → ⊥
substream_is_not_had (stream, substream) = cc

pub substream_of_endpoint_is_not_had : Has poor AnyLevel (AtcInv 0x103 true 0 true 0 0) → ⊥
substream_of_endpoint_is_not_had (ats, stream, (none, substreams)) = cc

pub substream_means_nothing : Has smmu AnyLevel (AtcInv 0x103 false 2 false 0 0) → ⊥
substream_means_nothing (ats, stream, (none, global)) = let no : 2 ≡ 0 = none in omega (arith, no)

pub range_is_not_had : HasReach poor Level3 (Range Kib4 1 0) → ⊥
range_is_not_had (ranged, granule, level, some) = cc

pub granule_is_not_had : HasReach (smmu_of 0x403 0x10 0x400 0x10) Level3 (Range Kib16 1 0) → ⊥
granule_is_not_had (ranged, granule, level, some) = cc

pub level_is_reserved : HasReach smmu Level1 (Range Kib16 1 0) → ⊥
level_is_reserved (ranged, granule, level, some) = level

pub form_is_reserved : HasReach smmu AnyLevel (Range Kib4 0 0) → ⊥
form_is_reserved (ranged, granule, level, some) = omega (arith, some)

pub page_has_no_level : HasReach smmu Level3 Page → ⊥
page_has_no_level none = cc

pub leaves_are_not_tables : IsNarrowedAlike (TlbiNhVa 7 5 false 0 Page) AnyLevel (TlbiNhVa 33 5 true 0 Page) AnyLevel → ⊥
leaves_are_not_tables narrowed = elim narrowed.leaf [ inl same ↦ let no : Some true ≡ Some false = same in cc | inr none ↦ let no : Some true ≡ None = none in cc ]

pub level_is_not_another : IsNarrowedAlike (TlbiNhVaa 7 false 0 (Range Kib4 1 0)) Level2 (TlbiNhVaa 33 false 0 (Range Kib4 1 0)) Level3 → ⊥
level_is_not_another narrowed = elim narrowed.level [ inl none ↦ cc | inr (same, granule) ↦ cc ]

pub level_is_of_a_granule : IsNarrowedAlike (TlbiNhVaa 7 false 0 (Range Kib4 1 0)) Level3 (TlbiNhVaa 33 false 0 (Range Kib64 1 0)) Level3 → ⊥
level_is_of_a_granule narrowed = elim narrowed.level [ inl none ↦ cc | inr (same, granule) ↦ let no : Some Kib64 ≡ Some Kib4 = granule in cc ]

pub reached_is_covered : (command : Command) (ttl : Ttl) (image : Tag) (raw : Raw) (reaches : Reaches command ttl image raw) → covers reaches.host image ≡ true
reached_is_covered command ttl image raw reaches = reaches.covered

pub reached_is_narrowed_alike : (command : Command) (ttl : Ttl) (image : Tag) (raw : Raw) (reaches : Reaches command ttl image raw) → IsNarrowedAlike command ttl reaches.host reaches.host_ttl
reached_is_narrowed_alike command ttl image raw reaches = reaches.narrowed

-- ---- Conversions.

pub sync_stops : stop_of (CmdSync 1 0 0 0 0) ≡ Some Sync
sync_stops = refl

pub entry_is_configured : stop_of (CfgiSte 3 true) ≡ Some (Configure (CfgiSte 3 true))
entry_is_configured = refl

pub hypervisor_is_refused : stop_of TlbiEl2All ≡ Some Refused
hypervisor_is_refused = refl

abbrev any_raw : Raw
any_raw = record { lo = 0x10; hi = 0 }

pub empty_is_not_full : (next : Raw) → IsStopped guest 0 next Full → ⊥
empty_is_not_full next (none, some, many) = omega (arith, some)

pub full_does_not_fit : (next : Raw) → IsStopped guest 1 next Full → 63 < 1 + length (words_for guest next)
full_does_not_fit next (none, some, many) = many

pub end_takes_all : IsEnd guest (any_raw ∷ []) 0 0 End → ⊥
end_takes_all all = let no : 0 ≡ 1 = all in omega (arith, no)

pub converted_in_order : (mapping : Mapping) (raws : List Raw) (conversion : Conversion) → IsConverted mapping raws conversion → conversion.commands ≡ flat_map (words_for mapping) (take conversion.taken raws)
converted_in_order mapping raws conversion is = is.commands

pub none_of_them_stops : (mapping : Mapping) (raws : List Raw) (conversion : Conversion) → IsConverted mapping raws conversion → All (λ raw. stop_for raw ≡ None) (take conversion.taken raws)
none_of_them_stops mapping raws conversion is = is.none_stops

pub converted_is_few : (mapping : Mapping) (raws : List Raw) (conversion : Conversion) → IsConverted mapping raws conversion → length conversion.commands ≤ 63
converted_is_few mapping raws conversion is = is.few

pub converted_ends : (mapping : Mapping) (raws : List Raw) (conversion : Conversion) → IsConverted mapping raws conversion
    → IsEnd mapping raws conversion.taken (length conversion.commands) conversion.ended
converted_ends mapping raws conversion is = is.ended

pub of_its_guest : (mapping : Mapping) (raws : List Raw) (conversion : Conversion) → IsConverted mapping raws conversion → conversion.guest ≡ mapping
of_its_guest mapping raws conversion is = is.guest

pub commands_are_a_batch : batch_of (any_raw ∷ []) ≡ Some (any_raw ∷ [])
commands_are_a_batch = refl

pub nothing_is_no_batch : batch_of [] ≡ None
nothing_is_no_batch = refl

-- ---- The host's commands.

pub level_1_of_16_kib : known_ttl Kib16 Level1 ≡ AnyLevel
level_1_of_16_kib = refl

pub one_granule_of_16_kib : host_reach smmu (Range Kib16 0 0) AnyLevel ≡ Some (Range Kib16 0 1, AnyLevel)
one_granule_of_16_kib = refl

pub range_without_ranges : host_reach poor (Range Kib4 3 0) Level3 ≡ None
range_without_ranges = refl

pub asid_that_the_host_lacks : by_va on_poor 256 true 5 (Some (Page, AnyLevel)) ≡ (TlbiNhVaa 33 true 5 Page, AnyLevel)
asid_that_the_host_lacks = refl

pub second_stream_has_a_command : stream_command smmu (CfgiCd 4 2 true) (of_host 4 0x105 false) ≡ Some (CfgiCd 0x105 2 true)
second_stream_has_a_command = refl

pub endpoint_without_ats_has_none : stream_command smmu (AtcInv 4 false 0 false 52 0) (of_host 4 0x105 false) ≡ None
endpoint_without_ats_has_none = refl

-- ---- Configurations.

pub both_streams_of_4 : concerned (CfgiSte 4 true) streams ≡ of_host 4 0x104 true ∷ of_host 4 0x105 false ∷ []
both_streams_of_4 = refl

pub not_all_are_taken : IsNext streams None [] → ⊥
not_all_are_taken (old, new) = cc

pub entry_of_the_host : cfgi_ste (of_host 4 0x104 true) ≡ CfgiSte 0x104 false
entry_of_the_host = refl

-- ---- Laws.

pub machines_are_separate : (one other : Mapping) → AreSeparate one other → one.vmid ≢ other.vmid
machines_are_separate one other are = are.machines

pub streams_are_separate : (one other : Mapping) → AreSeparate one other → (sid : ℕ) → IsOwnStream one sid → IsOwnStream other sid → ⊥
streams_are_separate one other are = are.streams
