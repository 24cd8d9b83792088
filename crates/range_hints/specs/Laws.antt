-- The laws of words with a hint.
use Rattle.std.specs.Prelude.{◌≡◌, false}
use Rattle.cmdcodec.specs.declared.raw.Raw.{Raw}
use Rattle.cmdcodec.specs.declared.command.Command.{Command}
use Rattle.cmdcodec.specs.Opcodes.{opcode_of, is_kept}
use Rattle.range_hints.specs.declared.ttl.Ttl.{Ttl}
use Rattle.range_hints.specs.Hints.{SpellsWithHint}
use Rattle.range_hints.specs.HintedWords.{hinted_words}
use Rattle.range_hints.specs.ReservedBits.{DifferInReservedBits, HasReservedBitsZero}

-- Words that differ only in reserved bits spell the same command with the same hint. A kept command has no reserved
-- bits.
abbrev pub ReservedBitsAreIgnored : Type 0
ReservedBitsAreIgnored =
    (raw other : Raw) (command : Command) (ttl : Ttl) → is_kept (opcode_of raw) ≡ false → SpellsWithHint raw command ttl → DifferInReservedBits command raw other → SpellsWithHint other command ttl

-- Words that spell the same command with the same hint differ only in reserved bits: every other bit is kept.
abbrev pub AllOtherBitsAreKept : Type 0
AllOtherBitsAreKept = (raw other : Raw) (command : Command) (ttl : Ttl) → SpellsWithHint raw command ttl → SpellsWithHint other command ttl → DifferInReservedBits command raw other

-- Words that were cleared: all bits of theirs are those of the first words, but for the reserved ones, which are 0.
pub record AreCleared (raw words : Raw) (command : Command) : Type 0 where
  pub same : DifferInReservedBits command raw words
  pub zero : HasReservedBitsZero words command

abbrev pub IsCleared : Raw → Raw → Type 0
IsCleared raw words = (command : Command) (ttl : Ttl) → SpellsWithHint raw command ttl → AreCleared raw words command

-- They are what encoding gives of what decoding gave.
abbrev pub IsWrittenAgain : Raw → Raw → Type 0
IsWrittenAgain raw words = (command : Command) (ttl : Ttl) → SpellsWithHint raw command ttl → words ≡ hinted_words command ttl
