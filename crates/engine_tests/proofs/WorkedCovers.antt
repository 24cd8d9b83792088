-- Which tags single commands cover: each example is one that a single part of the definition decides.
use Rattle.std.proofs.Common.{◌≡◌, ℕ, ◌+◌, ◌^◌, Bool, true, false, Some, None, refl}
use Rattle.cmdcodec.specs.declared.command.Command.TheVariants.{AtcInv, CfgiCd, CfgiCdAll, CfgiSte, CfgiSteRange, CmdSync, TlbiEl2All, TlbiEl2Asid, TlbiEl2Va, TlbiEl2Vaa, TlbiNhAll, TlbiNhAsid, TlbiNhVa, TlbiNhVaa, TlbiNsnhAll, TlbiS12Vmall, TlbiS2Ipa}
use Rattle.cmdcodec.specs.declared.reach.Granule.TheVariants.{Kib4}
use Rattle.cmdcodec.specs.declared.reach.PageRun.{PageRun}
use Rattle.cmdcodec.specs.declared.reach.Reach.TheVariants.{Page, Range}
use Rattle.caches.specs.declared.tag.Scope.TheVariants.{Global, Of}
use Rattle.caches.specs.declared.tag.Tag.TheVariants.{Ste, Cd, S1, S2, El2, Atc}
use Rattle.caches.specs.Blocks.{block, aligned, holds, meets}
use Rattle.caches.specs.Covers.{of_streams, descriptors, of_machines, stage1, stage2, el2, endpoints, is_of, reaches, is_for, covers}

-- ---- Blocks. A block of 2^9 pages is one of 2 MiB.

abbrev run : ℕ → ℕ → PageRun
run first end = record { first = first; end = end }

pub a_block_has_two_to_its_span : block 512 9 ≡ run 512 1024
a_block_has_two_to_its_span = refl

pub an_aligned_block_begins_at_a_multiple : aligned 37 32 ≡ run 32 64
an_aligned_block_begins_at_a_multiple = refl

pub a_block_holds_its_first : holds (run 32 64) 32 ≡ true
a_block_holds_its_first = refl

pub a_block_holds_its_last : holds (run 32 64) 63 ≡ true
a_block_holds_its_last = refl

pub a_block_holds_nothing_ahead : holds (run 32 64) 31 ≡ false
a_block_holds_nothing_ahead = refl

pub a_block_holds_nothing_behind : holds (run 32 64) 64 ≡ false
a_block_holds_nothing_behind = refl

pub the_last_page_is_met : meets (run 512 1024) (run 1023 1024) ≡ true
the_last_page_is_met = refl

pub the_first_page_is_met : meets (run 512 1024) (run 512 513) ≡ true
the_first_page_is_met = refl

pub the_page_behind_is_not_met : meets (run 512 1024) (run 1024 1025) ≡ false
the_page_behind_is_not_met = refl

pub the_page_ahead_is_not_met : meets (run 512 1024) (run 511 512) ≡ false
the_page_ahead_is_not_met = refl

-- ---- Address spaces and substreams.

pub a_global_entry_is_of_no_space : is_of 7 Global ≡ false
a_global_entry_is_of_no_space = refl

pub an_entry_of_a_space_is_of_it : is_of 7 (Of 7) ≡ true
an_entry_of_a_space_is_of_it = refl

pub an_entry_of_another_space_is_not : is_of 7 (Of 8) ≡ false
an_entry_of_another_space_is_not = refl

pub a_global_entry_is_reached_from_each_space : reaches 7 Global ≡ true
a_global_entry_is_reached_from_each_space = refl

pub a_space_is_reached : reaches 7 (Of 7) ≡ true
a_space_is_reached = refl

pub another_space_is_not_reached : reaches 7 (Of 8) ≡ false
another_space_is_not_reached = refl

-- Without SSV an ATC forgets what it holds for substreams too.
pub without_ssv_any_substream_is_meant : is_for false 0 false (Some 9) ≡ true
without_ssv_any_substream_is_meant = refl

pub without_ssv_none_is_meant_too : is_for false 0 false None ≡ true
without_ssv_none_is_meant_too = refl

pub a_substream_is_meant : is_for true 9 false (Some 9) ≡ true
a_substream_is_meant = refl

pub another_substream_is_not_meant : is_for true 9 false (Some 8) ≡ false
another_substream_is_not_meant = refl

pub by_a_substream_none_is_not_meant : is_for true 0 false None ≡ false
by_a_substream_none_is_not_meant = refl

pub global_means_any_substream : is_for true 0 true (Some 8) ≡ true
global_means_any_substream = refl

-- ---- Kinds. Each test passes everything: what is left is the kind.

module _ (sid ssid vmid page span : ℕ) where
  pub a_stream_has_its_entry : of_streams (λ s. true) (Ste sid) ≡ true
  a_stream_has_its_entry = refl

  pub a_stream_has_its_descriptors : of_streams (λ s. true) (Cd sid ssid) ≡ true
  a_stream_has_its_descriptors = refl

  pub a_stream_has_no_translations : of_streams (λ s. true) (S1 vmid Global page span) ≡ false
  a_stream_has_no_translations = refl

  pub a_descriptor_is_one : descriptors (λ s ss. true) (Cd sid ssid) ≡ true
  a_descriptor_is_one = refl

  pub a_stream_table_entry_is_no_descriptor : descriptors (λ s ss. true) (Ste sid) ≡ false
  a_stream_table_entry_is_no_descriptor = refl

  pub a_machine_has_stage_1 : of_machines (λ v. true) (S1 vmid Global page span) ≡ true
  a_machine_has_stage_1 = refl

  pub a_machine_has_stage_2 : of_machines (λ v. true) (S2 vmid page span) ≡ true
  a_machine_has_stage_2 = refl

  pub a_machine_has_nothing_of_the_hypervisor :
      of_machines (λ v. true) (El2 Global page span) ≡ false
  a_machine_has_nothing_of_the_hypervisor = refl

  pub stage_1_is_stage_1 : stage1 (λ v scope pages. true) (S1 vmid Global page span) ≡ true
  stage_1_is_stage_1 = refl

  pub stage_2_is_not_stage_1 : stage1 (λ v scope pages. true) (S2 vmid page span) ≡ false
  stage_2_is_not_stage_1 = refl

  pub stage_2_is_stage_2 : stage2 (λ v pages. true) (S2 vmid page span) ≡ true
  stage_2_is_stage_2 = refl

  pub stage_1_is_not_stage_2 : stage2 (λ v pages. true) (S1 vmid Global page span) ≡ false
  stage_1_is_not_stage_2 = refl

  pub the_hypervisor_has_its_own : el2 (λ scope pages. true) (El2 Global page span) ≡ true
  the_hypervisor_has_its_own = refl

  pub stage_1_is_not_the_hypervisors : el2 (λ scope pages. true) (S1 vmid Global page span) ≡ false
  stage_1_is_not_the_hypervisors = refl

  pub an_endpoint_has_its_own : endpoints (λ s ss pages. true) (Atc sid None page span) ≡ true
  an_endpoint_has_its_own = refl

  pub stage_1_is_no_endpoints : endpoints (λ s ss pages. true) (S1 vmid Global page span) ≡ false
  stage_1_is_no_endpoints = refl

-- Page 1023 is the last of the block of 2^9 pages at page 512.
abbrev has_last : PageRun → Bool
has_last pages = holds pages 1023

pub a_whole_block_of_stage_1_counts :
    stage1 (λ v scope pages. has_last pages) (S1 5 (Of 7) 512 9) ≡ true
a_whole_block_of_stage_1_counts = refl

pub a_whole_block_of_stage_2_counts : stage2 (λ v pages. has_last pages) (S2 5 512 9) ≡ true
a_whole_block_of_stage_2_counts = refl

pub a_whole_block_of_the_hypervisor_counts :
    el2 (λ scope pages. has_last pages) (El2 (Of 7) 512 9) ≡ true
a_whole_block_of_the_hypervisor_counts = refl

pub a_whole_block_of_an_endpoint_counts :
    endpoints (λ s ss pages. has_last pages) (Atc 5 None 512 9) ≡ true
a_whole_block_of_an_endpoint_counts = refl

-- ---- CFGI_STE, CFGI_STE_RANGE, CFGI_CD and CFGI_CD_ALL of stream 5

pub a_configuration_covers_its_entry : covers (CfgiSte 5 true) (Ste 5) ≡ true
a_configuration_covers_its_entry = refl

pub another_stream_keeps_its_entry : covers (CfgiSte 5 true) (Ste 6) ≡ false
another_stream_keeps_its_entry = refl

-- Leaf narrows nothing.
pub a_configuration_covers_the_descriptors : covers (CfgiSte 5 true) (Cd 5 9) ≡ true
a_configuration_covers_the_descriptors = refl

-- Range 4 is of 2^5 streams.
pub the_last_stream_of_a_range_is_covered : covers (CfgiSteRange 37 4) (Ste 63) ≡ true
the_last_stream_of_a_range_is_covered = refl

pub the_first_stream_of_a_range_is_covered : covers (CfgiSteRange 37 4) (Ste 32) ≡ true
the_first_stream_of_a_range_is_covered = refl

pub the_stream_ahead_of_a_range_is_not : covers (CfgiSteRange 37 4) (Ste 31) ≡ false
the_stream_ahead_of_a_range_is_not = refl

pub the_stream_behind_a_range_is_not : covers (CfgiSteRange 37 4) (Ste 64) ≡ false
the_stream_behind_a_range_is_not = refl

-- Range 31 is CMD_CFGI_ALL.
pub the_greatest_range_is_of_all_streams : covers (CfgiSteRange 0 31) (Ste 0xffffffff) ≡ true
the_greatest_range_is_of_all_streams = refl

pub a_descriptor_is_covered : covers (CfgiCd 5 9 true) (Cd 5 9) ≡ true
a_descriptor_is_covered = refl

pub the_descriptor_of_another_substream_is_not : covers (CfgiCd 5 9 true) (Cd 5 8) ≡ false
the_descriptor_of_another_substream_is_not = refl

pub the_descriptor_of_another_stream_is_not : covers (CfgiCd 5 9 true) (Cd 6 9) ≡ false
the_descriptor_of_another_stream_is_not = refl

pub all_descriptors_are_covered : covers (CfgiCdAll 5) (Cd 5 9) ≡ true
all_descriptors_are_covered = refl

pub all_descriptors_are_of_one_stream : covers (CfgiCdAll 5) (Cd 6 9) ≡ false
all_descriptors_are_of_one_stream = refl

pub by_descriptors_the_stream_table_entry_is_not : covers (CfgiCdAll 5) (Ste 5) ≡ false
by_descriptors_the_stream_table_entry_is_not = refl

-- ---- Stage 1 of the virtual machine 5

pub all_of_stage_1_covers_global_entries : covers (TlbiNhAll 5) (S1 5 Global 3 0) ≡ true
all_of_stage_1_covers_global_entries = refl

pub all_of_stage_1_spares_stage_2 : covers (TlbiNhAll 5) (S2 5 3 0) ≡ false
all_of_stage_1_spares_stage_2 = refl

pub all_of_stage_1_spares_another_machine : covers (TlbiNhAll 5) (S1 6 (Of 7) 3 0) ≡ false
all_of_stage_1_spares_another_machine = refl

pub by_asid_a_space_is_covered : covers (TlbiNhAsid 5 7) (S1 5 (Of 7) 3 0) ≡ true
by_asid_a_space_is_covered = refl

pub by_asid_global_entries_are_spared : covers (TlbiNhAsid 5 7) (S1 5 Global 3 0) ≡ false
by_asid_global_entries_are_spared = refl

pub by_asid_another_space_is_spared : covers (TlbiNhAsid 5 7) (S1 5 (Of 8) 3 0) ≡ false
by_asid_another_space_is_spared = refl

pub by_asid_another_machine_is_spared : covers (TlbiNhAsid 5 7) (S1 6 (Of 7) 3 0) ≡ false
by_asid_another_machine_is_spared = refl

pub by_address_a_page_is_covered : covers (TlbiNhVa 5 7 true 3 Page) (S1 5 (Of 7) 3 0) ≡ true
by_address_a_page_is_covered = refl

pub by_address_a_global_entry_is_covered :
    covers (TlbiNhVa 5 7 true 3 Page) (S1 5 Global 3 0) ≡ true
by_address_a_global_entry_is_covered = refl

pub by_address_the_block_is_covered :
    covers (TlbiNhVa 5 7 true 1023 Page) (S1 5 (Of 7) 512 9) ≡ true
by_address_the_block_is_covered = refl

pub by_address_another_page_is_spared : covers (TlbiNhVa 5 7 true 3 Page) (S1 5 (Of 7) 4 0) ≡ false
by_address_another_page_is_spared = refl

pub by_address_another_space_is_spared : covers (TlbiNhVa 5 7 true 3 Page) (S1 5 (Of 8) 3 0) ≡ false
by_address_another_space_is_spared = refl

pub by_address_another_machine_is_spared :
    covers (TlbiNhVa 5 7 true 3 Page) (S1 6 Global 3 0) ≡ false
by_address_another_machine_is_spared = refl

-- Two pages from page 2^40 on: virtual addresses have more pages than intermediate ones.
pub by_address_a_range_goes_on :
    covers (TlbiNhVa 5 7 true (2 ^ 40) (Range Kib4 1 0)) (S1 5 (Of 7) (2 ^ 40 + 1) 0) ≡ true
by_address_a_range_goes_on = refl

pub in_any_space_each_space_is_covered : covers (TlbiNhVaa 5 true 3 Page) (S1 5 (Of 8) 3 0) ≡ true
in_any_space_each_space_is_covered = refl

pub in_any_space_another_page_is_spared : covers (TlbiNhVaa 5 true 3 Page) (S1 5 (Of 7) 4 0) ≡ false
in_any_space_another_page_is_spared = refl

pub in_any_space_another_machine_is_spared :
    covers (TlbiNhVaa 5 true 3 Page) (S1 6 (Of 7) 3 0) ≡ false
in_any_space_another_machine_is_spared = refl

-- ---- The hypervisor

pub the_hypervisors_all_are_covered : covers TlbiEl2All (El2 Global 3 0) ≡ true
the_hypervisors_all_are_covered = refl

pub the_hypervisors_all_spare_a_machine : covers TlbiEl2All (S1 0 Global 3 0) ≡ false
the_hypervisors_all_spare_a_machine = refl

pub the_hypervisors_space_is_covered : covers (TlbiEl2Asid 7) (El2 (Of 7) 3 0) ≡ true
the_hypervisors_space_is_covered = refl

pub the_hypervisors_global_entries_are_spared : covers (TlbiEl2Asid 7) (El2 Global 3 0) ≡ false
the_hypervisors_global_entries_are_spared = refl

pub the_hypervisors_global_page_is_covered :
    covers (TlbiEl2Va 7 true 3 Page) (El2 Global 3 0) ≡ true
the_hypervisors_global_page_is_covered = refl

pub the_hypervisors_other_space_is_spared :
    covers (TlbiEl2Va 7 true 3 Page) (El2 (Of 8) 3 0) ≡ false
the_hypervisors_other_space_is_spared = refl

pub the_hypervisors_other_page_is_spared : covers (TlbiEl2Va 7 true 3 Page) (El2 (Of 7) 4 0) ≡ false
the_hypervisors_other_page_is_spared = refl

pub the_hypervisors_page_of_any_space_is_covered :
    covers (TlbiEl2Vaa true 3 Page) (El2 (Of 8) 3 0) ≡ true
the_hypervisors_page_of_any_space_is_covered = refl

pub the_hypervisors_other_page_of_any_space_is_spared :
    covers (TlbiEl2Vaa true 3 Page) (El2 (Of 8) 4 0) ≡ false
the_hypervisors_other_page_of_any_space_is_spared = refl

-- ---- Both stages, and stage 2

pub all_of_a_machine_covers_stage_1 : covers (TlbiS12Vmall 5) (S1 5 (Of 7) 3 0) ≡ true
all_of_a_machine_covers_stage_1 = refl

pub all_of_a_machine_covers_stage_2 : covers (TlbiS12Vmall 5) (S2 5 3 0) ≡ true
all_of_a_machine_covers_stage_2 = refl

pub all_of_a_machine_spares_another : covers (TlbiS12Vmall 5) (S2 6 3 0) ≡ false
all_of_a_machine_spares_another = refl

pub an_intermediate_page_is_covered : covers (TlbiS2Ipa 5 true 3 Page) (S2 5 3 0) ≡ true
an_intermediate_page_is_covered = refl

pub an_intermediate_page_spares_stage_1 : covers (TlbiS2Ipa 5 true 3 Page) (S1 5 (Of 7) 3 0) ≡ false
an_intermediate_page_spares_stage_1 = refl

pub an_intermediate_page_of_another_machine_is_spared :
    covers (TlbiS2Ipa 5 true 3 Page) (S2 6 3 0) ≡ false
an_intermediate_page_of_another_machine_is_spared = refl

pub another_intermediate_page_is_spared : covers (TlbiS2Ipa 5 true 3 Page) (S2 5 4 0) ≡ false
another_intermediate_page_is_spared = refl

pub all_machines_are_covered : covers TlbiNsnhAll (S2 6 3 0) ≡ true
all_machines_are_covered = refl

pub all_machines_spare_the_hypervisor : covers TlbiNsnhAll (El2 Global 3 0) ≡ false
all_machines_spare_the_hypervisor = refl

-- ---- ATC_INV of stream 5

pub an_endpoints_pages_are_covered : covers (AtcInv 5 true 9 false 3 8) (Atc 5 (Some 9) 15 0) ≡ true
an_endpoints_pages_are_covered = refl

pub an_endpoints_pages_begin_at_a_multiple :
    covers (AtcInv 5 true 9 false 3 13) (Atc 5 (Some 9) 8 0) ≡ true
an_endpoints_pages_begin_at_a_multiple = refl

pub an_endpoints_other_pages_are_spared :
    covers (AtcInv 5 true 9 false 3 8) (Atc 5 (Some 9) 16 0) ≡ false
an_endpoints_other_pages_are_spared = refl

pub an_endpoints_other_substream_is_spared :
    covers (AtcInv 5 true 9 false 3 8) (Atc 5 (Some 8) 8 0) ≡ false
an_endpoints_other_substream_is_spared = refl

pub another_endpoint_is_spared : covers (AtcInv 5 true 9 false 3 8) (Atc 6 (Some 9) 8 0) ≡ false
another_endpoint_is_spared = refl

pub an_endpoint_alone_is_covered : covers (AtcInv 5 false 0 false 52 0) (Ste 5) ≡ false
an_endpoint_alone_is_covered = refl

-- ---- CMD_SYNC

pub a_sync_covers_nothing : covers (CmdSync 1 0 0 7 0x10000003) (Ste 5) ≡ false
a_sync_covers_nothing = refl
