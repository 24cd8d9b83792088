-- The answer to a line that brings a command. The line is good if it is a legal command, or skipped.
use Rattle.std.specs.Prelude.{ℕ, List, [], ◌∷◌, ◌++◌, Bool, false, Option, Some, None, codes, if◌then◌else◌}
use Rattle.cmdcodec.specs.declared.raw.Raw.{Raw}
use Rattle.script.specs.Words.{is_hex, number_of}
use Rattle.script.specs.Fields.{is_comment, hex_of}
use Rattle.line_answers.specs.LineAnswers.{LineAnswer, skipped}
use Rattle.line_answers.specs.LineWords.{words_of}
use Rattle.decode.specs.CommandText.{words_text}
use Rattle.decode.specs.DecodeText.{decode_text}

-- a text on a line of its own
abbrev pub told : List ℕ × Bool → LineAnswer
told said = record { text = said.0 ++ codes "\n"; is_good = said.1 }

abbrev pub bad_line : LineAnswer
bad_line = told (codes "bad line", false)

-- ---- one word

-- 32 hexadecimal digits are the bytes of a command. For any other word `decode` says what is bad.
abbrev pub one_word_by : Option Raw → List ℕ → List ℕ × Bool
one_word_by (Some raw) word = words_text raw
one_word_by None word = decode_text word

unfoldable pub one_word : List ℕ → LineAnswer
one_word word = told (one_word_by (hex_of word) word)

-- ---- two words

-- the number that 0x and 1 to 16 hexadecimal digits of either case say
unfoldable pub hex_number : List ℕ → Option ℕ
hex_number word = if is_hex word then number_of word else None

abbrev pub two_numbers : Option ℕ → Option ℕ → LineAnswer
two_numbers (Some lo) (Some hi) = told (words_text (record { lo = lo; hi = hi }))
two_numbers (Some lo) None = bad_line
two_numbers None hi = bad_line

-- lo, and then hi
unfoldable pub two_words : List ℕ → List ℕ → LineAnswer
two_words lo hi = two_numbers (hex_number lo) (hex_number hi)

-- ---- a line

abbrev pub command_answer : List ℕ → List (List ℕ) → LineAnswer
command_answer word [] = one_word word
command_answer word (other ∷ []) = two_words word other
command_answer word (other ∷ third ∷ words) = bad_line

abbrev pub words_answer : List (List ℕ) → LineAnswer
words_answer [] = skipped
words_answer (word ∷ words) = if is_comment word then skipped else command_answer word words

unfoldable pub answer_of : List ℕ → LineAnswer
answer_of line = words_answer (words_of line)
