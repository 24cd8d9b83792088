-- Which words spell no such command: for each clause words of which it alone is false.
use Rattle.std.proofs.Common.{◌≡◌, ℕ, ◌+◌, ◌*◌, ◌^◌, true, false, arith}
use Rattle.cmdcodec.specs.declared.command.Command.TheVariants.{AtcInv, CfgiSte, CmdSync, TlbiNhVa}
use Rattle.cmdcodec.specs.declared.raw.Raw.{Raw}
use Rattle.cmdcodec.specs.declared.reach.Granule.TheVariants.{Kib4}
use Rattle.cmdcodec.specs.declared.reach.Reach.TheVariants.{Page, Range}
use Rattle.cmdcodec.specs.Spelling.{Spells}

abbrev words : ℕ → ℕ → Raw
words lo hi = record { lo = lo; hi = hi }

-- CMD_CFGI_STE of stream 5, with SSec
pub a_secure_stream : ¬ Spells (words (0x403 + 5 * 2 ^ 32) 1) (CfgiSte 5 true)
a_secure_stream spells = let same : 1 ≡ 0 = spells.0.1 in absurd (omega (arith, same))

-- CMD_TLBI_NH_VA of a page, with a granule
pub a_page_with_a_granule : ¬ Spells (words 0x12 0x400) (TlbiNhVa 0 0 false 0 Page)
a_page_with_a_granule spells = let same : 1 ≡ 0 = spells.1.1 in absurd (omega (arith, same))

-- CMD_TLBI_NH_VA of a range, with another SCALE
pub a_range_of_another_scale : ¬ Spells (words (0x12 + 2 ^ 20) 0x400) (TlbiNhVa 0 0 false 0 (Range Kib4 0 0))
a_range_of_another_scale spells = let same : 1 ≡ 0 = spells.0.3.1 in absurd (omega (arith, same))

-- CMD_ATC_INV of 2^53 pages
pub a_span_too_large : ¬ Spells (words 0x40 53) (AtcInv 0 false 0 false 53 0)
a_span_too_large spells = absurd (omega (arith, spells.1.1))

-- CMD_SYNC with CS 3
pub a_reserved_signal : ¬ Spells (words 0x3046 0) (CmdSync 3 0 0 0 0)
a_reserved_signal spells = absurd (omega (arith, spells.0.2))
