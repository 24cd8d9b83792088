-- What the theorems of a guest's commands may not allow: for each part a case in which it is false, or one that it has.
use Rattle.std.proofs.Common.{◌≡◌, ℕ, ◌≤◌, true, false, inl, inr, List, [], ◌∷◌, length, Some, None, refl, sym, ap, ◌∙◌, arith}
use Rattle.cmdcodec.specs.declared.raw.Raw.{Raw}
use Rattle.cmdcodec.specs.declared.command.Command.TheVariants.{CfgiSte, CfgiCd, CfgiCdAll, TlbiNhAll, TlbiNhAsid, TlbiNhVa, TlbiNhVaa, AtcInv}
use Rattle.cmdcodec.specs.declared.reach.Granule.TheVariants.{Kib4, Kib64}
use Rattle.cmdcodec.specs.declared.reach.Reach.TheVariants.{Page, Range}
use Rattle.cmdcodec.specs.Spelling.{Spells}
use Rattle.caches.specs.declared.tag.Scope.TheVariants.{Global}
use Rattle.caches.specs.declared.tag.Tag.{Tag}
use Rattle.caches.specs.declared.tag.Tag.TheVariants.{Ste, Cd, S1, Atc}
use Rattle.range_hints.specs.declared.ttl.Ttl.TheVariants.{AnyLevel, Level3}
use Rattle.range_hints.specs.Hints.{SpellsWithHint}
use Rattle.guest_commands.specs.declared.ended.Ended.TheVariants.{End, Full, At}
use Rattle.guest_commands.specs.declared.ended.Stop.TheVariants.{Sync, Refused}
use Rattle.guest_commands.specs.declared.streams.Attachment.{Attachment}
use Rattle.guest_commands.specs.Limits.{has_accesses}
use Rattle.guest_commands.specs.Mappings.{Mapping}
use Rattle.guest_commands.specs.Entries.{IsImage, IsOfGuest}
use Rattle.guest_commands.specs.Theorems.{IsIsolated, Has, IsSupported, IsNarrowedAlike, Reaches, IsReachedBy}
use Rattle.guest_commands.specs.Conversions.{Conversion, stop_for, IsStopped, IsConverted}
use Rattle.guest_commands.specs.Configurations.{IsFirst, IsNext, IsOwnEntry, AreConfigured}
use Rattle.guest_commands.specs.Laws.{AreSeparate, EntriesAreOfOneGuest}
use Rattle.guests_tests.proofs.WorkedGuests.{smmu, poor, without_stage_1, of_host, streams}

abbrev guest : Mapping
guest = record { vmid = 33; smmu = smmu; streams = streams }

abbrev on_poor : Mapping
on_poor = record { vmid = 33; smmu = poor; streams = streams }

-- without ATS, and without stage 1
abbrev of_stage_1 : Mapping
of_stage_1 = record { vmid = 33; smmu = record smmu { ats = false }; streams = of_host 3 0x103 true ∷ [] }

abbrev of_stage_2 : Mapping
of_stage_2 = record { vmid = 33; smmu = without_stage_1; streams = of_host 3 0x103 true ∷ [] }

-- ---- What the entries of the guest are on the host.

pub accesses_without_a_substream_are_had : has_accesses poor None ≡ true
accesses_without_a_substream_are_had = refl

pub an_endpoint_caches_without_a_substream : IsImage on_poor (Atc 3 None 0 0) (Atc 0x103 None 0 0)
an_endpoint_caches_without_a_substream = (record { sid = 0x103; ats = true }, (0, omega arith, refl), refl, refl, refl, refl)

pub no_substream_without_substreams : ¬ IsImage on_poor (Atc 3 (Some 1) 0 0) (Atc 0x103 (Some 1) 0 0)
no_substream_without_substreams (host, attached, ats, had, accesses, is) = let no : false ≡ true = accesses in absurd (cc)

pub no_endpoint_caches_where_the_host_has_no_ats : ¬ IsImage of_stage_1 (Atc 3 None 0 0) (Atc 0x103 None 0 0)
no_endpoint_caches_where_the_host_has_no_ats (host, attached, ats, had, accesses, is) = let no : false ≡ true = had in absurd (cc)

pub no_translation_without_stage_1 : ¬ IsImage of_stage_2 (S1 7 Global 0 0) (S1 33 Global 0 0)
no_translation_without_stage_1 (had, is) = let no : false ≡ true = had in absurd (cc)

pub no_descriptor_without_stage_1 : ¬ IsImage of_stage_2 (Cd 3 0) (Cd 0x103 0)
no_descriptor_without_stage_1 (host, attached, had, is) = let no : false ≡ true = had in absurd (cc)

-- ---- What the host's SMMU has.

pub descriptors_of_a_stream_that_is_not_there : ¬ Has smmu AnyLevel (CfgiCdAll 0x10000)
descriptors_of_a_stream_that_is_not_there had = let no : false ≡ true = had.0 in absurd (cc)

pub a_descriptor_of_a_stream_that_is_not_there : ¬ Has smmu AnyLevel (CfgiCd 0x10000 0 false)
a_descriptor_of_a_stream_that_is_not_there had = let no : false ≡ true = had.0 in absurd (cc)

pub an_endpoint_that_is_not_there : ¬ Has smmu AnyLevel (AtcInv 0x10000 false 0 false 0 0)
an_endpoint_that_is_not_there had = let no : false ≡ true = had.1 in absurd (cc)

pub no_endpoint_without_ats : ¬ Has of_stage_1.smmu AnyLevel (AtcInv 0x103 false 0 false 0 0)
no_endpoint_without_ats had = let no : false ≡ true = had.0 in absurd (cc)

pub a_substream_beside_global_means_nothing : ¬ Has smmu AnyLevel (AtcInv 0x103 true 2 true 0 0)
a_substream_beside_global_means_nothing had = let no : 2 ≡ 0 = had.2.0 in omega (arith, no)

pub global_without_a_substream_means_nothing : ¬ Has smmu AnyLevel (AtcInv 0x103 false 0 true 0 0)
global_without_a_substream_means_nothing had = let no : true ≡ false = had.2.1 in absurd (cc)

pub a_substream_of_9_bits_is_not_had : ¬ Has smmu AnyLevel (AtcInv 0x103 true 256 false 0 0)
a_substream_of_9_bits_is_not_had had = let no : false ≡ true = had.2.1 in absurd (cc)

pub a_page_of_a_vmid_of_9_bits : ¬ Has poor AnyLevel (TlbiNhVa 256 5 true 0 Page)
a_page_of_a_vmid_of_9_bits had = let no : false ≡ true = had.1 in absurd (cc)

pub a_page_of_an_asid_of_9_bits : ¬ Has poor AnyLevel (TlbiNhVa 33 256 true 0 Page)
a_page_of_an_asid_of_9_bits had = let no : false ≡ true = had.2 in absurd (cc)

pub a_page_of_each_asid_of_a_vmid_of_9_bits : ¬ Has poor AnyLevel (TlbiNhVaa 256 true 0 Page)
a_page_of_each_asid_of_a_vmid_of_9_bits had = let no : false ≡ true = had.1 in absurd (cc)

pub an_asid_of_a_vmid_of_9_bits : ¬ Has poor AnyLevel (TlbiNhAsid 256 5)
an_asid_of_a_vmid_of_9_bits had = let no : false ≡ true = had.1 in absurd (cc)

pub no_page_without_stage_1 : ¬ Has without_stage_1 AnyLevel (TlbiNhVa 33 5 true 0 Page)
no_page_without_stage_1 had = let no : false ≡ true = had.0 in absurd (cc)

pub supported_words_spell : (raw : Raw) (is : IsSupported smmu raw) → SpellsWithHint raw is.host is.ttl
supported_words_spell raw is = is.spelled

pub isolated_words_spell : (raw : Raw) (is : IsIsolated guest raw) → Spells raw is.host
isolated_words_spell raw is = is.spelled

-- ---- What is reached.

pub a_leaf_is_not_a_descriptor_with_its_tables : ¬ IsNarrowedAlike (CfgiCd 3 0 false) AnyLevel (CfgiCd 0x103 0 true) AnyLevel
a_leaf_is_not_a_descriptor_with_its_tables narrowed =
    elim narrowed.leaf [
      | inl same ↦ let no : Some true ≡ Some false = same in absurd (cc)
      | inr none ↦ let no : Some true ≡ None = none in absurd (cc)
    ]

pub a_level_of_4_kib_is_not_of_64 : ¬ IsNarrowedAlike (TlbiNhVa 7 5 false 0 (Range Kib4 1 0)) Level3 (TlbiNhVa 33 5 false 0 (Range Kib64 1 0)) Level3
a_level_of_4_kib_is_not_of_64 narrowed =
    elim narrowed.level [
      | inl none ↦ absurd (cc)
      | inr (same, granule) ↦ let no : Some Kib64 ≡ Some Kib4 = granule in absurd (cc)
    ]

pub words_that_reach_spell : (image : Tag) (raw : Raw) (reaches : Reaches (TlbiNhAll 7) AnyLevel image raw) → SpellsWithHint raw reaches.host reaches.host_ttl
words_that_reach_spell image raw reaches = reaches.spelled

-- TLBI_NH_ALL of VMID 7
abbrev nh_all : Raw
nh_all = record { lo = 0x700000010; hi = 0 }

pub no_command_reaches_nothing : ¬ IsReachedBy guest [] nh_all
no_command_reaches_nothing reached =
    let spells : SpellsWithHint nh_all (TlbiNhAll 7) AnyLevel = record { spelled = ((refl, refl), tt); hint = refl } in
    let none = reached (TlbiNhAll 7) AnyLevel (S1 7 Global 0 0) (S1 33 Global 0 0) spells refl (refl, refl) in
    omega (arith, none.2)

-- ---- Entries of streams.

pub no_stream_is_not_configured : ¬ AreConfigured guest (CfgiSte 3 true) []
no_stream_is_not_configured are =
    let entry : IsImage guest (Ste 3) (Ste 0x103) = (record { sid = 0x103; ats = true }, (0, omega arith, refl), refl) in
    let none = are refl (Ste 3) (Ste 0x103) refl entry in omega (arith, none.2)

pub an_entry_of_the_host_is_not_its_own : ¬ IsOwnEntry (record guest { streams = [] }) (of_host 3 0x103 true)
an_entry_of_the_host_is_not_its_own own = let (sid, host, (k, small, at), same) = own (Ste 0x103) refl in omega (arith, small)

host_of_first : List Attachment → ℕ
host_of_first [] = 0
host_of_first (stream ∷ rest) = stream.host.sid

pub the_second_is_not_first : ¬ IsFirst (CfgiSte 4 true) streams (of_host 4 0x105 false) []
unfolding host_of_first
the_second_is_not_first first = let no : 0x104 ≡ 0x105 = ap host_of_first first in omega (arith, no)

pub the_next_is_the_first : ¬ IsNext (of_host 4 0x104 true ∷ []) (Some (of_host 4 0x105 true)) []
unfolding host_of_first
the_next_is_the_first next = let no : 0x104 ≡ 0x105 = ap host_of_first next in omega (arith, no)

-- ---- Conversions.

pub what_is_taken_was_given : (raws : List Raw) (conversion : Conversion) → IsConverted guest raws conversion → conversion.taken ≤ length raws
what_is_taken_was_given raws conversion is = is.some

pub an_end_stops_at_nothing : (next : Raw) → ¬ IsStopped guest 1 next End
an_end_stops_at_nothing next is = is

pub what_stops_is_not_full : (next : Raw) → stop_for next ≡ Some Sync → ¬ IsStopped guest 1 next Full
what_stops_is_not_full next stops full = let no : Some Sync ≡ None = sym stops ∙ full.0 in absurd (cc)

pub another_stop_is_not_told : (next : Raw) → stop_for next ≡ Some Refused → ¬ IsStopped guest 1 next (At Sync)
another_stop_is_not_told next stops at = let no : Some Refused ≡ Some Sync = sym stops ∙ at in absurd (cc)

-- ---- Two guests.

pub no_entry_is_of_two_guests : EntriesAreOfOneGuest → (one other : Mapping) → AreSeparate one other → IsOfGuest one (Ste 5) → ¬ IsOfGuest other (Ste 5)
no_entry_is_of_two_guests law one other separate = law one other (Ste 5) separate
