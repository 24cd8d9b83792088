-- What is said of the two words of a command: a text, and whether they are legal.
use Rattle.std.specs.Prelude.{ℕ, List, ◌++◌, Bool, true, false, Result, Ok, Err, codes}
use Rattle.cmdcodec.specs.declared.command.Command.{Command}
use Rattle.cmdcodec.specs.declared.raw.Raw.{Raw}
use Rattle.cmdcodec.specs.declared.ill.Ill.{Ill}
use Rattle.cmdcodec.specs.declared.ill.Ill.TheVariants.{UnknownOpcode, SecureStream, ReservedSignal, OversizedSpan}
use Rattle.cmdcodec.specs.Words.{decoding}
use Rattle.cmdcodec.specs.Text.{text_of}

-- a fault as it is displayed, its label and what it means
abbrev pub ill_text : Ill → List ℕ
ill_text UnknownOpcode = codes "ILL1: unknown opcode"
ill_text SecureStream = codes "ILL2: a Secure stream"
ill_text ReservedSignal = codes "ILL3: a reserved completion signal"
ill_text OversizedSpan = codes "ILL4: an oversized span"

-- of what the words spell
abbrev pub spelled_text : Result Command Ill → List ℕ × Bool
spelled_text (Ok command) = (text_of command, true)
spelled_text (Err ill) = (codes "illegal " ++ ill_text ill, false)

-- of the words
unfoldable pub words_text : Raw → List ℕ × Bool
words_text raw = spelled_text (decoding raw)
