-- What the texts of commands are read back as.
use Rattle.std.specs.Prelude.{◌≡◌, ◌<◌, ◌^◌, true, Some, Ok}
use Rattle.hex.specs.Hex.{encode_lower}
use Rattle.cmdcodec.specs.declared.raw.Raw.{Raw}
use Rattle.cmdcodec.specs.declared.command.Command.{Command}
use Rattle.cmdcodec.specs.Bytes.{bytes_of}
use Rattle.cmdcodec.specs.Spelling.{Spells}
use Rattle.cmdcodec.specs.Text.{text_of}
use Rattle.cmdcodec.specs.Words.{decoding}
use Rattle.decode.specs.DecodeText.{decode_text}
use Rattle.encode.specs.LineEncodings.{line_encoding}

-- A line that is the command's text gives words that decode to the command; and for the digits that answer the line
-- `decode` tells that text.
pub record IsReadBack (command : Command) : Type 0 where
  pub found : Raw
  pub read : line_encoding (text_of command) ≡ Ok (Some found)
  pub decoded : decoding found ≡ Ok command
  pub told : decode_text (encode_lower (bytes_of found)) ≡ (text_of command, true)

-- This holds for each command that two words of 64 bits spell.
abbrev pub TextsAreReadBack : Type 0
TextsAreReadBack = (raw : Raw) (command : Command) → raw.lo < 2 ^ 64 → raw.hi < 2 ^ 64 → Spells raw command → IsReadBack command
