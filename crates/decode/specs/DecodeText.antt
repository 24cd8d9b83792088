-- What `decode` says of a word: a text, and whether the word is a legal command.
use Rattle.std.specs.Prelude.{ℕ, List, ◌++◌, ◌==◌, Bool, true, false, Result, Ok, Err, length, codes, decimal, if◌then◌else◌}
use Rattle.hex.specs.Hex.{decode_of}
use Rattle.hex.specs.declared.error.FromHexError.{FromHexError}
use Rattle.cmdcodec.specs.declared.command.Command.{Command}
use Rattle.cmdcodec.specs.declared.ill.Ill.{Ill}
use Rattle.cmdcodec.specs.Labels.{label_of}
use Rattle.cmdcodec.specs.Bytes.{raw_of}
use Rattle.cmdcodec.specs.Words.{decoding}
use Rattle.cmdcodec.specs.Text.{text_of}

-- of what the words of a command spell
abbrev pub command_text : Result Command Ill → List ℕ × Bool
command_text (Ok command) = (text_of command, true)
command_text (Err ill) = (codes "illegal " ++ label_of ill, false)

-- of bytes: a command has 16
abbrev pub bytes_text : List ℕ → List ℕ × Bool
bytes_text bytes =
    if length bytes == 16 then command_text (decoding (raw_of bytes))
    else (codes "bad length " ++ decimal (length bytes), false)

-- of the bytes that hexadecimal digits mean, two digits a byte
abbrev pub digits_text : Result (List ℕ) FromHexError → List ℕ × Bool
digits_text (Ok bytes) = bytes_text bytes
digits_text (Err e) = (codes "bad hex", false)

-- of a word
unfoldable pub decode_text : List ℕ → List ℕ × Bool
decode_text word = digits_text (decode_of word)
