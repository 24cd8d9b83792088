-- The answer to a line that is a command's text. The line is good if it is a command's text, or skipped.
use Rattle.std.specs.Prelude.{ℕ, List, ◌++◌, true, false, Option, Some, None, Result, Ok, Err, codes}
use Rattle.hex.specs.Hex.{encode_lower}
use Rattle.cmdcodec.specs.declared.raw.Raw.{Raw}
use Rattle.cmdcodec.specs.Bytes.{bytes_of}
use Rattle.line_answers.specs.LineAnswers.{LineAnswer, skipped}
use Rattle.encode.specs.LineEncodings.{LineFault, line_encoding}

-- the bytes of the command as they lie in memory, two lower-case hexadecimal digits each
abbrev pub raw_answer : Raw → LineAnswer
raw_answer raw = record { text = encode_lower (bytes_of raw) ++ codes "\n"; is_good = true }

abbrev pub bad_command : LineAnswer
bad_command = record { text = codes "bad command\n"; is_good = false }

abbrev pub encoding_answer : Result (Option Raw) LineFault → LineAnswer
encoding_answer (Ok (Some raw)) = raw_answer raw
encoding_answer (Ok None) = skipped
encoding_answer (Err fault) = bad_command

unfoldable pub answer_of : List ℕ → LineAnswer
answer_of line = encoding_answer (line_encoding line)
