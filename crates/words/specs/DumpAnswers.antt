-- The answer to a line of a hex dump.
use Rattle.std.specs.Prelude.{ℕ, List}
use Rattle.decode.specs.CommandText.{words_text}
use Rattle.line_answers.specs.LineAnswers.{LineAnswer, skipped}
use Rattle.line_answers.specs.LineWords.{words_of}
use Rattle.hex_dump.specs.declared.dumped.Dumped.{Dumped}
use Rattle.hex_dump.specs.declared.dumped.Dumped.TheVariants.{Nothing, Slot, Bad}
use Rattle.hex_dump.specs.Dumps.{dumped}
use Rattle.words.specs.LineAnswers.{told, bad_line}

abbrev pub slot_answer : Dumped → LineAnswer
slot_answer Nothing = skipped
slot_answer (Slot line) = told (words_text line.raw)
slot_answer Bad = bad_line

-- A blank line and an address alone are skipped; 16 bytes are a command, legal or not.
unfoldable pub dump_answer : List ℕ → LineAnswer
dump_answer line = slot_answer (dumped (words_of line))
