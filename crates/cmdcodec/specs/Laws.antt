-- The laws of the spelling.
use Rattle.std.specs.Prelude.{◌≡◌, ◌<◌, ◌↔◌, ℕ, false, Some, None, Ok, Err}
use Rattle.cmdcodec.specs.declared.raw.Raw.{Raw}
use Rattle.cmdcodec.specs.declared.command.Command.{Command}
use Rattle.cmdcodec.specs.declared.ill.Ill.{Ill}
use Rattle.cmdcodec.specs.declared.reach.Reach.{Reach}
use Rattle.cmdcodec.specs.Opcodes.{opcode_of, is_kept}
use Rattle.cmdcodec.specs.Legality.{first_ill}
use Rattle.cmdcodec.specs.Spelling.{Spells}
use Rattle.cmdcodec.specs.FreeBits.{DifferInFreeBits}
use Rattle.cmdcodec.specs.Words.{decoding}
use Rattle.cmdcodec.specs.PageRuns.{run_from, IsIn, IsReached}

-- Legal words spell exactly one command.
abbrev pub LegalWordsSpellOneCommand : Type 0
LegalWordsSpellOneCommand =
    (raw : Raw) → first_ill raw ≡ None → (command : Command) × Spells raw command × ((other : Command) → Spells raw other → other ≡ command)

-- Illegal words spell no command.
abbrev pub SpelledWordsAreLegal : Type 0
SpelledWordsAreLegal = (raw : Raw) (command : Command) → Spells raw command → first_ill raw ≡ None

-- Words decode to the command they spell, and illegal words to their fault.
abbrev pub WordsDecodeToWhatTheySpell : Type 0
WordsDecodeToWhatTheySpell = (raw : Raw) (command : Command) → Spells raw command → decoding raw ≡ Ok command

abbrev pub IllegalWordsDecodeToTheirFault : Type 0
IllegalWordsDecodeToTheirFault = (raw : Raw) (ill : Ill) → first_ill raw ≡ Some ill → decoding raw ≡ Err ill

-- Two pairs of words that differ only in free bits spell the same command and decode alike. A kept command
-- has no free bits.
pub record IsSpelledAlike (raw other : Raw) (command : Command) : Type 0 where
  pub spelled : Spells other command
  pub alike : decoding raw ≡ decoding other

abbrev pub FreeBitsAreIgnored : Type 0
FreeBitsAreIgnored =
    (raw other : Raw) (command : Command) → is_kept (opcode_of raw) ≡ false → Spells raw command → DifferInFreeBits command raw other → IsSpelledAlike raw other command

-- No other bits are free: two pairs of words that spell the same command differ only in free bits.
abbrev pub AllOtherBitsAreNamed : Type 0
AllOtherBitsAreNamed = (raw other : Raw) (command : Command) → Spells raw command → Spells other command → DifferInFreeBits command raw other

-- A run consists of the pages whose granules are reached, up to the end of the address space.
abbrev pub RunsAreOfWholeGranules : Type 0
RunsAreOfWholeGranules =
    (page space other : ℕ) (reach : Reach) → page < space → IsIn other (run_from page reach space) ↔ IsReached page reach space other
