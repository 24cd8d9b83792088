-- What the two words of single commands say: the numbers and the bits are those of the standard's
-- chapter on commands.
use Rattle.std.proofs.Common.{◌≡◌, ℕ, ◌+◌, ◌-◌, ◌*◌, ◌^◌, true, false, List, [], ◌∷◌, length, Some, None, map, refl, arith}
use Rattle.cmdcodec.specs.declared.command.Command.TheVariants.{AtcInv, CfgiCd, CfgiCdAll, CfgiSte, CfgiSteRange, CmdSync, Kept, TlbiEl2All, TlbiEl2Asid, TlbiEl2Va, TlbiEl2Vaa, TlbiNhAll, TlbiNhAsid, TlbiNhVa, TlbiNhVaa, TlbiNsnhAll, TlbiS12Vmall, TlbiS2Ipa}
use Rattle.cmdcodec.specs.declared.ill.Ill.TheVariants.{UnknownOpcode, SecureStream, ReservedSignal, OversizedSpan}
use Rattle.cmdcodec.specs.declared.opcode.Opcode.{Opcode}
use Rattle.cmdcodec.specs.declared.opcode.Opcode.TheVariants as op
use Rattle.cmdcodec.specs.declared.raw.Raw.{Raw}
use Rattle.cmdcodec.specs.declared.reach.Granule.TheVariants.{Kib4, Kib16, Kib64}
use Rattle.cmdcodec.specs.declared.reach.PageRun.{PageRun}
use Rattle.cmdcodec.specs.declared.reach.Reach.TheVariants.{Page, Range}
use Rattle.cmdcodec.specs.Bodies.{IsBody}
use Rattle.cmdcodec.specs.ClosingSync.{closing_sync}
use Rattle.cmdcodec.specs.Fields.{field, bit}
use Rattle.cmdcodec.specs.Legality.{has_secure_bit, first_ill, IsKept}
use Rattle.cmdcodec.specs.Opcodes.{opcode_of, number_of, opcode_named, is_sync, is_kept}
use Rattle.cmdcodec.specs.PageRuns.{granule_pages, least, run_from}
use Rattle.cmdcodec.specs.Spelling.{Spells, granule_number}
use Rattle.cmdcodec.specs.Words.{encoding, steps_word, granule_word}

abbrev words : ℕ → ℕ → Raw
words lo hi = record { lo = lo; hi = hi }

-- ---- Fields.

pub a_field_has_its_highest_bit : field 0xff 7 0 ≡ 0xff
a_field_has_its_highest_bit = refl

pub a_field_ends_at_its_highest_bit : field 0x1ff 7 0 ≡ 0xff
a_field_ends_at_its_highest_bit = refl

pub a_field_begins_at_its_lowest_bit : field 0x3046 13 12 ≡ 3
a_field_begins_at_its_lowest_bit = refl

pub a_set_flag_is_1 : bit true ≡ 1
a_set_flag_is_1 = refl

pub a_clear_flag_is_0 : bit false ≡ 0
a_clear_flag_is_0 = refl

-- ---- Opcodes.

-- CMD_SYNC with CS 2: neither that nor the other word is of the opcode.
pub an_opcode_is_eight_bits_of_lo : opcode_of (words 0x2046 0x11) ≡ 0x46
an_opcode_is_eight_bits_of_lo = refl

pub an_opcode_has_bit_7 : opcode_of (words 0xc6 0) ≡ 0xc6
an_opcode_has_bit_7 = refl

abbrev opcodes : List Opcode
opcodes =
    op.PrefetchConfig ∷ op.PrefetchAddr ∷ op.CfgiSte ∷ op.CfgiSteRange ∷ op.CfgiCd ∷ op.CfgiCdAll
    ∷ op.TlbiNhAll ∷ op.TlbiNhAsid ∷ op.TlbiNhVa ∷ op.TlbiNhVaa
    ∷ op.TlbiEl2All ∷ op.TlbiEl2Asid ∷ op.TlbiEl2Va ∷ op.TlbiEl2Vaa
    ∷ op.TlbiS12Vmall ∷ op.TlbiS2Ipa ∷ op.TlbiNsnhAll
    ∷ op.AtcInv ∷ op.PriResp ∷ op.Resume ∷ op.StallTerm ∷ op.CmdSync ∷ []

abbrev numbers : List ℕ
numbers =
    0x01 ∷ 0x02 ∷ 0x03 ∷ 0x04 ∷ 0x05 ∷ 0x06 ∷ 0x10 ∷ 0x11 ∷ 0x12 ∷ 0x13 ∷ 0x20 ∷ 0x21 ∷ 0x22 ∷ 0x23
    ∷ 0x28 ∷ 0x2a ∷ 0x30 ∷ 0x40 ∷ 0x41 ∷ 0x44 ∷ 0x45 ∷ 0x46 ∷ []

pub opcodes_have_their_numbers : map number_of opcodes ≡ numbers
opcodes_have_their_numbers = refl

pub numbers_name_their_opcodes : map opcode_named numbers ≡ map Some opcodes
unfolding opcode_named
numbers_name_their_opcodes = refl

-- among them those of CMD_CFGI_VMS_PIDM and CMD_TLBI_EL3_ALL, which the profile lacks
pub other_numbers_name_none :
    map opcode_named (0x00 ∷ 0x07 ∷ 0x18 ∷ 0x29 ∷ 0x47 ∷ []) ≡ None ∷ None ∷ None ∷ None ∷ None ∷ []
unfolding opcode_named
other_numbers_name_none = refl

-- CS, MSIATTR and MSIDATA say nothing of what command it is.
pub a_sync_with_any_fields_is_a_sync : is_sync (words (0xf001046 + 7 * 2 ^ 32) 0x40000000) ≡ true
a_sync_with_any_fields_is_a_sync = refl

pub an_invalidation_is_no_sync : is_sync (words 0x11 0) ≡ false
an_invalidation_is_no_sync = refl

pub another_word_of_a_sync_is_no_sync : is_sync (words 0x30 0x46) ≡ false
another_word_of_a_sync_is_no_sync = refl

-- the prefetches, PRI_RESP, RESUME and STALL_TERM
pub five_commands_are_kept :
    map is_kept (0x01 ∷ 0x02 ∷ 0x41 ∷ 0x44 ∷ 0x45 ∷ []) ≡ true ∷ true ∷ true ∷ true ∷ true ∷ []
five_commands_are_kept = refl

-- CFGI_STE, TLBI_NH_ASID, TLBI_S2_IPA, ATC_INV and CMD_SYNC
pub no_invalidation_is_kept :
    map is_kept (0x03 ∷ 0x11 ∷ 0x2a ∷ 0x40 ∷ 0x46 ∷ []) ≡ false ∷ false ∷ false ∷ false ∷ false ∷ []
no_invalidation_is_kept = refl

-- ---- What is illegal.

pub an_unknown_opcode_is_illegal : first_ill (words 0x07 0) ≡ Some UnknownOpcode
unfolding opcode_named
an_unknown_opcode_is_illegal = refl

-- CMD_CFGI_STE with SSec
pub a_secure_stream_is_illegal : first_ill (words 0x403 1) ≡ Some SecureStream
unfolding opcode_named
a_secure_stream_is_illegal = refl

-- CMD_SYNC with CS 3
pub a_reserved_signal_is_illegal : first_ill (words 0x3046 0) ≡ Some ReservedSignal
unfolding opcode_named
a_reserved_signal_is_illegal = refl

-- with CS 2, for an event
pub a_signal_by_an_event_is_legal : first_ill (words 0x2046 0) ≡ None
unfolding opcode_named
a_signal_by_an_event_is_legal = refl

-- CMD_ATC_INV of 2^53 pages
pub a_span_above_52_is_illegal : first_ill (words 0x40 53) ≡ Some OversizedSpan
unfolding opcode_named
a_span_above_52_is_illegal = refl

pub a_span_of_all_pages_is_legal : first_ill (words 0x40 52) ≡ None
unfolding opcode_named
a_span_of_all_pages_is_legal = refl

-- In CMD_TLBI_NH_ALL bits 10, 13 and 12 are in no field.
pub bits_in_no_field_are_legal : first_ill (words 0x3410 53) ≡ None
unfolding opcode_named
bits_in_no_field_are_legal = refl

pub prefetches_configurations_and_endpoints_have_ssec : map has_secure_bit numbers ≡
    true ∷ true ∷ true ∷ true ∷ true ∷ true ∷ false ∷ false ∷ false ∷ false
    ∷ false ∷ false ∷ false ∷ false ∷ false ∷ false ∷ false
    ∷ true ∷ false ∷ false ∷ false ∷ false ∷ []
prefetches_configurations_and_endpoints_have_ssec = refl

pub a_sync_is_not_kept : ¬ IsKept (words 0x46 0)
a_sync_is_not_kept is = let no : false ≡ true = is.0 in absurd (cc)

-- CMD_PREFETCH_CONFIG with SSec
pub an_illegal_prefetch_is_not_kept : ¬ IsKept (words 0x401 0)
unfolding opcode_named
an_illegal_prefetch_is_not_kept is = let no : Some SecureStream ≡ None = is.1 in absurd (cc)

-- ---- Encodings.

pub configurations_are_encoded_so :
    map encoding (CfgiSte 5 true ∷ CfgiSteRange 32 4 ∷ CfgiCd 5 9 true ∷ CfgiCdAll 5 ∷ [])
    ≡ words (0x03 + 5 * 2 ^ 32) 1 ∷ words (0x04 + 32 * 2 ^ 32) 4
    ∷ words (0x9005 + 5 * 2 ^ 32) 1 ∷ words (0x06 + 5 * 2 ^ 32) 0 ∷ []
unfolding encoding
configurations_are_encoded_so = refl

pub whole_invalidations_are_encoded_so :
    map encoding
    (TlbiNhAll 5 ∷ TlbiNhAsid 5 7 ∷ TlbiEl2All ∷ TlbiEl2Asid 7 ∷ TlbiS12Vmall 5
    ∷ TlbiNsnhAll ∷ [])
    ≡ words (0x10 + 5 * 2 ^ 32) 0 ∷ words (0x11 + 5 * 2 ^ 32 + 7 * 2 ^ 48) 0
    ∷ words 0x20 0 ∷ words (0x21 + 7 * 2 ^ 48) 0
    ∷ words (0x28 + 5 * 2 ^ 32) 0 ∷ words 0x30 0 ∷ []
unfolding encoding
whole_invalidations_are_encoded_so = refl

-- of the page at 0x3000, leaf alone
pub invalidations_of_a_page_are_encoded_so :
    map encoding
    (TlbiNhVa 5 7 true 3 Page ∷ TlbiNhVaa 5 true 3 Page ∷ TlbiEl2Va 7 true 3 Page
    ∷ TlbiEl2Vaa true 3 Page ∷ TlbiS2Ipa 5 true 3 Page ∷ [])
    ≡ words (0x12 + 5 * 2 ^ 32 + 7 * 2 ^ 48) 0x3001 ∷ words (0x13 + 5 * 2 ^ 32) 0x3001
    ∷ words (0x22 + 7 * 2 ^ 48) 0x3001 ∷ words 0x23 0x3001 ∷ words (0x2a + 5 * 2 ^ 32) 0x3001 ∷ []
unfolding encoding
invalidations_of_a_page_are_encoded_so = refl

-- of 2 * 2^3 granules of 16 KiB from 0x4000 on: NUM is 1 and SCALE 3
pub invalidations_of_a_range_are_encoded_so :
    map encoding
    (TlbiNhVa 5 7 false 4 (Range Kib16 1 3) ∷ TlbiS2Ipa 5 false 4 (Range Kib16 1 3) ∷ [])
    ≡ words (0x301012 + 5 * 2 ^ 32 + 7 * 2 ^ 48) 0x4800 ∷ words (0x30102a + 5 * 2 ^ 32) 0x4800 ∷ []
unfolding encoding
invalidations_of_a_range_are_encoded_so = refl

pub a_page_has_no_steps : steps_word Page ≡ 0
a_page_has_no_steps = refl

pub steps_are_num_and_scale : steps_word (Range Kib4 31 2) ≡ 0x21f000
steps_are_num_and_scale = refl

pub a_page_has_no_granule : granule_word Page ≡ 0
a_page_has_no_granule = refl

pub a_granule_is_in_bits_11_and_10 : granule_word (Range Kib64 0 0) ≡ 0xc00
a_granule_is_in_bits_11_and_10 = refl

pub granules_are_numbered_by_size : map granule_number (Kib4 ∷ Kib16 ∷ Kib64 ∷ []) ≡ 1 ∷ 2 ∷ 3 ∷ []
granules_are_numbered_by_size = refl

-- of 2^3 pages at 0x8000 of an endpoint: for substream 9, for each substream, and with no SSV for all
pub endpoints_are_encoded_so :
    map encoding
    (AtcInv 5 true 9 false 3 8 ∷ AtcInv 5 true 0 true 3 8 ∷ AtcInv 5 false 0 false 3 8 ∷ [])
    ≡ words (0x9840 + 5 * 2 ^ 32) 0x8003 ∷ words (0xa40 + 5 * 2 ^ 32) 0x8003
    ∷ words (0x40 + 5 * 2 ^ 32) 0x8003 ∷ []
unfolding encoding
endpoints_are_encoded_so = refl

-- MSIDATA 7 to 0x4000000c, Outer Shareable, Normal memory written back
pub syncs_are_encoded_so :
    encoding (CmdSync 1 2 15 7 0x10000003) ≡ words (0xf801046 + 7 * 2 ^ 32) 0x4000000c
unfolding encoding
syncs_are_encoded_so = refl

pub kept_words_are_encoded_so : encoding (Kept (words 0x44 5)) ≡ words 0x44 5
unfolding encoding
kept_words_are_encoded_so = refl

-- Sender 3 awaits number 7 in its cell, at 0x4000000c.
pub a_closing_sync_writes_its_number :
    encoding (closing_sync 3 7) ≡ words (0x1046 + 7 * 2 ^ 32) 0x4000000c
unfolding encoding
a_closing_sync_writes_its_number = refl

-- ---- Spelling: words that spell a command, and such as don't spell another.

abbrev by_asid : Raw
by_asid = words (0x11 + 5 * 2 ^ 32 + 7 * 2 ^ 48) 0

pub words_spell_their_command : Spells by_asid (TlbiNhAsid 5 7)
words_spell_their_command = ((refl, refl, refl), tt)

pub another_machine_is_not_spelled : ¬ Spells by_asid (TlbiNhAsid 6 7)
another_machine_is_not_spelled spells =
    let same : 5 ≡ 6 = spells.0.1 in
    absurd (omega (arith, same))

pub another_asid_is_not_spelled : ¬ Spells by_asid (TlbiNhAsid 5 8)
another_asid_is_not_spelled spells = let same : 7 ≡ 8 = spells.0.2 in absurd (omega (arith, same))

pub another_opcode_is_not_spelled : ¬ Spells by_asid (TlbiNhAll 5)
another_opcode_is_not_spelled spells =
    let same : 0x11 ≡ 0x10 = spells.0.0 in
    absurd (omega (arith, same))

pub another_leaf_is_not_spelled : ¬ Spells (words (0x03 + 5 * 2 ^ 32) 0) (CfgiSte 5 true)
another_leaf_is_not_spelled spells = let same : 0 ≡ 1 = spells.1 in absurd (omega (arith, same))

pub another_stream_is_not_spelled : ¬ Spells (words (0x03 + 6 * 2 ^ 32) 1) (CfgiSte 5 true)
another_stream_is_not_spelled spells = let same : 6 ≡ 5 = spells.0.2 in absurd (omega (arith, same))

pub another_range_of_streams_is_not_spelled : ¬ Spells (words 0x04 31) (CfgiSteRange 0 4)
another_range_of_streams_is_not_spelled spells =
    let same : 31 ≡ 4 = spells.1 in
    absurd (omega (arith, same))

pub another_substream_is_not_spelled : ¬ Spells (words (0x9005 + 5 * 2 ^ 32) 1) (CfgiCd 5 8 true)
another_substream_is_not_spelled spells =
    let same : 9 ≡ 8 = spells.0.2 in
    absurd (omega (arith, same))

pub another_page_is_not_spelled : ¬ Spells (words 0x12 0x3000) (TlbiNhVa 0 0 false 4 Page)
another_page_is_not_spelled spells = let same : 3 ≡ 4 = spells.1.2 in absurd (omega (arith, same))

-- the page at 0x3000 of the virtual machine 5 and the address space 7
abbrev by_page : Raw
by_page = words (0x12 + 5 * 2 ^ 32 + 7 * 2 ^ 48) 0x3000

pub a_page_is_spelled : Spells by_page (TlbiNhVa 5 7 false 3 Page)
a_page_is_spelled = ((refl, refl, refl, tt), (refl, refl, refl))

pub a_page_of_another_machine_is_not_spelled : ¬ Spells by_page (TlbiNhVa 6 7 false 3 Page)
a_page_of_another_machine_is_not_spelled spells =
    let same : 5 ≡ 6 = spells.0.1 in
    absurd (omega (arith, same))

pub a_page_of_another_asid_is_not_spelled : ¬ Spells by_page (TlbiNhVa 5 8 false 3 Page)
a_page_of_another_asid_is_not_spelled spells =
    let same : 7 ≡ 8 = spells.0.2 in
    absurd (omega (arith, same))

pub all_of_another_machine_is_not_spelled : ¬ Spells (words (0x28 + 5 * 2 ^ 32) 0) (TlbiS12Vmall 6)
all_of_another_machine_is_not_spelled spells =
    let same : 5 ≡ 6 = spells.0.1 in
    absurd (omega (arith, same))

abbrev by_intermediate_page : Raw
by_intermediate_page = words (0x2a + 5 * 2 ^ 32) 0x3000

pub an_intermediate_page_of_another_machine_is_not_spelled :
    ¬ Spells by_intermediate_page (TlbiS2Ipa 6 false 3 Page)
an_intermediate_page_of_another_machine_is_not_spelled spells =
    let same : 5 ≡ 6 = spells.0.1 in
    absurd (omega (arith, same))

pub another_intermediate_page_is_not_spelled :
    ¬ Spells by_intermediate_page (TlbiS2Ipa 5 false 4 Page)
another_intermediate_page_is_not_spelled spells =
    let same : 3 ≡ 4 = spells.1.2 in
    absurd (omega (arith, same))

-- Intermediate addresses have 52 bits.
pub bits_above_an_intermediate_address_are_free :
    Spells (words 0x2a (0x3000 + 2 ^ 52)) (TlbiS2Ipa 0 false 3 Page)
bits_above_an_intermediate_address_are_free = ((refl, refl, tt), (refl, refl, refl))

pub another_global_is_not_spelled : ¬ Spells (words 0x840 0) (AtcInv 0 true 0 true 0 0)
another_global_is_not_spelled spells = let same : 0 ≡ 1 = spells.0.2 in absurd (omega (arith, same))

pub another_ssv_is_not_spelled : ¬ Spells (words 0x40 0) (AtcInv 0 true 0 false 0 0)
another_ssv_is_not_spelled spells = let same : 0 ≡ 1 = spells.0.3 in absurd (omega (arith, same))

-- 2^3 pages at 0x8000 of stream 5 and substream 9
abbrev of_endpoint : Raw
of_endpoint = words (0x9840 + 5 * 2 ^ 32) 0x8003

pub pages_of_an_endpoint_are_spelled : Spells of_endpoint (AtcInv 5 true 9 false 3 8)
pages_of_an_endpoint_are_spelled = ((refl, refl, refl, refl, refl, refl), (refl, omega arith, refl))

pub pages_of_another_endpoint_are_not_spelled : ¬ Spells of_endpoint (AtcInv 6 true 9 false 3 8)
pages_of_another_endpoint_are_not_spelled spells =
    let same : 5 ≡ 6 = spells.0.5 in
    absurd (omega (arith, same))

pub pages_of_another_substream_are_not_spelled : ¬ Spells of_endpoint (AtcInv 5 true 8 false 3 8)
pages_of_another_substream_are_not_spelled spells =
    let same : 9 ≡ 8 = spells.0.4 in
    absurd (omega (arith, same))

pub more_pages_of_an_endpoint_are_not_spelled : ¬ Spells of_endpoint (AtcInv 5 true 9 false 4 8)
more_pages_of_an_endpoint_are_not_spelled spells =
    let same : 3 ≡ 4 = spells.1.0 in
    absurd (omega (arith, same))

pub another_number_is_not_spelled :
    ¬ Spells (words (0x1046 + 7 * 2 ^ 32) 0x4000000c) (CmdSync 1 0 0 8 0x10000003)
another_number_is_not_spelled spells = let same : 7 ≡ 8 = spells.0.5 in absurd (omega (arith, same))

pub another_cell_is_not_spelled :
    ¬ Spells (words (0x1046 + 7 * 2 ^ 32) 0x4000000c) (CmdSync 1 0 0 7 0x10000002)
another_cell_is_not_spelled spells =
    let same : 0x10000003 ≡ 0x10000002 = spells.1 in
    absurd (omega (arith, same))

pub kept_words_are_those_of_a_kept_command : ¬ Spells (words 0x46 0) (Kept (words 0x46 0))
kept_words_are_those_of_a_kept_command spells = a_sync_is_not_kept spells.0.1

-- ---- Pages.

pub granules_have_pages : map granule_pages (Kib4 ∷ Kib16 ∷ Kib64 ∷ []) ≡ 1 ∷ 4 ∷ 16 ∷ []
granules_have_pages = refl

pub the_first_may_be_the_least : least 3 5 ≡ 3
the_first_may_be_the_least = refl

pub the_second_may_be_the_least : least 5 3 ≡ 3
the_second_may_be_the_least = refl

abbrev run : ℕ → ℕ → PageRun
run first end = record { first = first; end = end }

pub a_page_is_a_run_of_one : run_from 100 Page (2 ^ 52) ≡ run 100 101
a_page_is_a_run_of_one = refl

-- It begins where the granule of 64 KiB does that has the page, and has (1 + 1) * 2^2 of these.
pub a_range_is_a_run_of_granules : run_from 100 (Range Kib64 1 2) (2 ^ 52) ≡ run 96 224
a_range_is_a_run_of_granules = refl

pub a_range_ends_with_the_addresses :
    run_from (2 ^ 40 - 1) (Range Kib4 31 0) (2 ^ 40) ≡ run (2 ^ 40 - 1) (2 ^ 40)
a_range_ends_with_the_addresses = refl

-- ---- What a batch holds before its CMD_SYNC.

pub a_body_of_one : IsBody (by_asid ∷ [])
a_body_of_one = record { some = omega arith; few = omega arith; no_sync = refl }

pub a_body_has_a_command : ¬ IsBody []
a_body_has_a_command is = absurd (omega (arith, is.some))

-- With its CMD_SYNC a batch has at most 64 commands.
pub a_body_has_at_most_63 : (commands : List Raw) → length commands ≡ 64 → ¬ IsBody commands
a_body_has_at_most_63 commands many is = absurd (omega (arith, many, is.few))

pub a_body_has_no_sync : ¬ IsBody (by_asid ∷ words 0x46 0 ∷ [])
a_body_has_no_sync is = let no : true ≡ false = is.no_sync in absurd (cc)
