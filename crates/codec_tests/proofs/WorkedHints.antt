-- What a hint and reserved bits may not be: for each part of their definitions a case in which it is false.
use Rattle.std.proofs.Common.{◌≡◌, ℕ, true, false, refl, ap, arith}
use Rattle.cmdcodec.specs.declared.raw.Raw.{Raw}
use Rattle.cmdcodec.specs.declared.command.Command.{Command}
use Rattle.cmdcodec.specs.declared.command.Command.TheVariants.{TlbiNhVa, TlbiEl2All}
use Rattle.cmdcodec.specs.declared.reach.Reach.TheVariants.{Page}
use Rattle.cmdcodec.specs.Opcodes.{opcode_of, is_kept}
use Rattle.cmdcodec.specs.Words.{encoding}
use Rattle.range_hints.specs.declared.ttl.Ttl.{Ttl}
use Rattle.range_hints.specs.declared.ttl.Ttl.TheVariants.{AnyLevel, Level2, Level3}
use Rattle.range_hints.specs.Hints.{ttl_number, ttl_named, kept_ttl, SpellsTtl, SpellsWithHint}
use Rattle.range_hints.specs.HintedWords.{hinted_words}
use Rattle.range_hints.specs.ReservedBits.{DifferInReservedBits, HasReservedBitsZero}
use Rattle.range_hints.specs.Laws.{ReservedBitsAreIgnored, AllOtherBitsAreKept, AreCleared, IsCleared, IsWrittenAgain}

abbrev words : ℕ → ℕ → Raw
words lo hi = record { lo = lo; hi = hi }

abbrev page : Command
page = TlbiNhVa 1 2 true 16 Page

pub another_level_is_not_spelled : SpellsTtl true 1793 Level2 → ⊥
another_level_is_not_spelled told = omega (arith, told)

pub no_hint_without_a_place : SpellsTtl false 769 Level3 → ⊥
no_hint_without_a_place told = cc

pub another_command_is_not_spelled : SpellsWithHint (words 16 0) TlbiEl2All AnyLevel → ⊥
another_command_is_not_spelled told = let opcode = told.spelled.0 in omega (arith, opcode)

-- Level 3 and level 2 are different words.
pub the_hint_is_kept : DifferInReservedBits page (words 18 1793) (words 18 1537) → ⊥
the_hint_is_kept differ = let eighth = differ.1 8 (omega arith) refl in omega (arith, eighth)

pub a_reserved_bit_is_0 : HasReservedBitsZero (words 288 0) TlbiEl2All → ⊥
a_reserved_bit_is_0 zero = let ninth = zero.0.0 in omega (arith, ninth)

pub a_reserved_bit_of_hi_is_0 : HasReservedBitsZero (words 32 1) TlbiEl2All → ⊥
a_reserved_bit_of_hi_is_0 zero = let first = zero.1.0 in omega (arith, first)

pub cleared_words_keep_the_hint : AreCleared (words 18 1793) (words 18 1025) page → ⊥
cleared_words_keep_the_hint cleared = let eighth = cleared.same.1 8 (omega arith) refl in omega (arith, eighth)

pub cleared_words_have_no_reserved_bits : AreCleared (words 288 0) (words 288 0) TlbiEl2All → ⊥
cleared_words_have_no_reserved_bits cleared = let ninth = cleared.zero.0.0 in omega (arith, ninth)

-- TLBI_EL2_ALL with bit 8 of lo set, which is reserved
abbrev el2_all : Raw
el2_all = words 288 0

spells_el2_all : SpellsWithHint el2_all TlbiEl2All AnyLevel
spells_el2_all = record { spelled = (refl, tt); hint = refl }

pub a_reserved_bit_is_not_written_again : IsWrittenAgain el2_all el2_all → ⊥
unfolding encoding
a_reserved_bit_is_not_written_again again =
    let no : 288 ≡ 32 = ap (λ (raw : Raw). raw.lo) (again TlbiEl2All AnyLevel spells_el2_all) in omega (arith, no)

pub what_was_cleared_has_no_reserved_bit : IsCleared el2_all el2_all → ⊥
what_was_cleared_has_no_reserved_bit cleared = cleared_words_have_no_reserved_bits (cleared TlbiEl2All AnyLevel spells_el2_all)

pub two_levels_are_not_one_command : AllOtherBitsAreKept → (ttl : Ttl) → SpellsWithHint (words 18 1793) page ttl → SpellsWithHint (words 18 1537) page ttl → ⊥
two_levels_are_not_one_command law ttl one other = the_hint_is_kept (law (words 18 1793) (words 18 1537) page ttl one other)

pub a_reserved_bit_changes_no_command : ReservedBitsAreIgnored → (other : Raw) → is_kept (opcode_of el2_all) ≡ false → DifferInReservedBits TlbiEl2All el2_all other
    → SpellsWithHint other TlbiEl2All AnyLevel
a_reserved_bit_changes_no_command law other not_kept differ = law el2_all other TlbiEl2All AnyLevel not_kept spells_el2_all differ

-- ---- Levels.

pub a_level_without_a_place_is_left_out : kept_ttl TlbiEl2All Level3 ≡ AnyLevel
a_level_without_a_place_is_left_out = refl

pub a_level_with_a_place_is_kept : kept_ttl page Level3 ≡ Level3
a_level_with_a_place_is_kept = refl

pub level_3_is_written_as_3 : ttl_number Level3 ≡ 3
level_3_is_written_as_3 = refl

pub level_2_is_read_of_2 : ttl_named 2 ≡ Level2
level_2_is_read_of_2 = refl

pub the_hint_is_bits_9_to_8 : hinted_words page Level3 ≡ hinted_words page AnyLevel → ⊥
unfolding encoding
the_hint_is_bits_9_to_8 same = let no : 66305 ≡ 65537 = ap (λ (raw : Raw). raw.hi) same in omega (arith, no)
