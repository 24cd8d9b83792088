-- The words of the command whose text a line is.
use Rattle.std.specs.Prelude.{ℕ, List, [], ◌∷◌, Option, Some, None, Result, Ok, Err, if◌then◌else◌}
use Rattle.cmdcodec.specs.declared.raw.Raw.{Raw}
use Rattle.cmdcodec.specs.declared.opcode.Opcode.{Opcode}
use Rattle.cmdcodec.specs.declared.command.Command.{Command}
use Rattle.cmdcodec.specs.Words.{encoding}
use Rattle.script.specs.Fields.{is_comment}
use Rattle.encode.specs.declared.fault.FieldFault.{FieldFault}
use Rattle.encode.specs.declared.fault.EncodeFault.{EncodeFault}
use Rattle.encode.specs.declared.fault.EncodeFault.TheVariants as declared
use Rattle.line_answers.specs.LineWords.{words_of}
use Rattle.encode.specs.Names.{opcode_called, fields_of}
use Rattle.encode.specs.Values.{unknown_word}
use Rattle.encode.specs.Commands.{command_of}

-- why a line is no command's text
pub data LineFault : Type 0 where
  -- no command has this word as its name
  UnknownCommand : List ℕ → LineFault
  -- this word begins with the key of no field of the command
  UnknownField : Opcode → List ℕ → LineFault
  -- a field of the command is wrong
  BadField : Opcode → FieldFault → LineFault

abbrev pub encoding_of : Opcode → Result Command FieldFault → Result (Option Raw) LineFault
encoding_of opcode (Ok command) = Ok (Some (encoding command))
encoding_of opcode (Err fault) = Err (BadField opcode fault)

abbrev pub known_encoding : Opcode → Option (List ℕ) → List (List ℕ) → Result (Option Raw) LineFault
known_encoding opcode (Some word) words = Err (UnknownField opcode word)
known_encoding opcode None words = encoding_of opcode (command_of opcode words)

-- given the opcode that the first word names
abbrev pub named_encoding : Option Opcode → List ℕ → List (List ℕ) → Result (Option Raw) LineFault
named_encoding None name words = Err (UnknownCommand name)
named_encoding (Some opcode) name words = known_encoding opcode (unknown_word (fields_of opcode) words) words

abbrev pub words_encoding : List (List ℕ) → Result (Option Raw) LineFault
words_encoding [] = Ok None
words_encoding (name ∷ words) = if is_comment name then Ok None else named_encoding (opcode_called name) name words

-- None for a line that is skipped: one without words, or whose first word begins with #.
unfoldable pub line_encoding : List ℕ → Result (Option Raw) LineFault
line_encoding line = words_encoding (words_of line)

-- ---- as it is told

abbrev pub fault_told : EncodeFault → LineFault
fault_told (declared.UnknownCommand word) = UnknownCommand word.now
fault_told (declared.UnknownField opcode word) = UnknownField opcode word.now
fault_told (declared.BadField opcode fault) = BadField opcode fault

abbrev pub as_told : Result (Option Raw) EncodeFault → Result (Option Raw) LineFault
as_told (Ok found) = Ok found
as_told (Err fault) = Err (fault_told fault)
