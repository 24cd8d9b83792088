-- What a line that brings a guest's command is answered with.
use Rattle.std.specs.Prelude.{ℕ, List, [], ◌∷◌, ◌++◌, map, Bool, true, false, Option, Some, None, codes, if◌then◌else◌}
use Rattle.std.specs.List.{flat_map}
use Rattle.hex.specs.Hex.{encode_lower}
use Rattle.cmdcodec.specs.declared.raw.Raw.{Raw}
use Rattle.cmdcodec.specs.Bytes.{bytes_of}
use Rattle.cmdcodec.specs.Words.{encoding}
use Rattle.script.specs.Fields.{is_comment, hex_of}
use Rattle.line_answers.specs.LineAnswers.{LineAnswer, skipped}
use Rattle.line_answers.specs.LineWords.{words_of}
use Rattle.decode.specs.CommandText.{words_text}
use Rattle.words.specs.LineAnswers.{bad_line, hex_number, told}
use Rattle.guest_commands.specs.declared.ended.Stop.{Stop}
use Rattle.guest_commands.specs.declared.ended.Stop.TheVariants.{Sync, Configure, Illegal, Refused}
use Rattle.guest_commands.specs.declared.streams.Attachment.{Attachment}
use Rattle.guest_commands.specs.Mappings.{Mapping}
use Rattle.guest_commands.specs.Conversions.{stop_for, words_for}
use Rattle.guest_commands.specs.Configurations.{cfgi_ste, concerned}
use Rattle.convert.specs.declared.line.Brought.{Brought}
use Rattle.convert.specs.declared.line.Brought.TheVariants.{Nothing, Command, Bad}

-- ---- The host's commands.

-- The words as they lie in memory, two lower-case hexadecimal digits a byte, and the text, which leaves out TTL.
abbrev pub host_text : Raw → List ℕ
host_text raw = encode_lower (bytes_of raw) ++ (codes " " ++ (words_text raw).0)

abbrev pub later_text : Raw → List ℕ
later_text raw = codes "; " ++ host_text raw

abbrev pub later_texts : List Raw → List ℕ
later_texts raws = flat_map later_text raws

-- all of them, with "; " between two
abbrev pub commands_text : List Raw → List ℕ
commands_text [] = codes "nothing"
commands_text (raw ∷ raws) = host_text raw ++ later_texts raws

-- ---- A guest's command.

-- the words of CMD_CFGI_STE for each of these streams of the host
abbrev pub entry_words : List Attachment → List Raw
entry_words streams = map (λ stream. encoding (cfgi_ste stream)) streams

abbrev pub stop_text : Mapping → Raw → Stop → List ℕ
stop_text mapping raw Sync = codes "sync"
stop_text mapping raw (Configure command) = codes "configure " ++ commands_text (entry_words (concerned command mapping.streams))
stop_text mapping raw (Illegal ill) = (words_text raw).0
stop_text mapping raw Refused = codes "refused"

-- The guest's queue goes on behind it.
abbrev pub goes_on_at : Stop → Bool
goes_on_at Sync = true
goes_on_at (Configure command) = true
goes_on_at (Illegal ill) = false
goes_on_at Refused = false

abbrev pub converted_answer : Mapping → Raw → Option Stop → List ℕ × Bool
converted_answer mapping raw None = (commands_text (words_for mapping raw), true)
converted_answer mapping raw (Some stop) = (stop_text mapping raw stop, goes_on_at stop)

-- the host's commands for it, or what it is instead; and whether the guest's queue goes on behind it
unfoldable pub command_answer : Mapping → Raw → List ℕ × Bool
command_answer mapping raw = converted_answer mapping raw (stop_for raw)

-- ---- A line.

abbrev pub command_or_bad : Option Raw → Brought
command_or_bad None = Bad
command_or_bad (Some raw) = Command raw

-- lo, and then hi
abbrev pub pair_of : Option ℕ → Option ℕ → Option Raw
pair_of (Some lo) (Some hi) = Some (record { lo = lo; hi = hi })
pair_of (Some lo) None = None
pair_of None hi = None

-- 32 hexadecimal digits are the bytes of a command, and so are two numbers behind 0x, lo first.
abbrev pub command_in : List ℕ → List (List ℕ) → Brought
command_in word [] = command_or_bad (hex_of word)
command_in word (other ∷ []) = command_or_bad (pair_of (hex_number word) (hex_number other))
command_in word (other ∷ third ∷ words) = Bad

abbrev pub brought_by : List (List ℕ) → Brought
brought_by [] = Nothing
brought_by (word ∷ words) = if is_comment word then Nothing else command_in word words

abbrev pub answer_to : Mapping → Brought → LineAnswer
answer_to mapping Nothing = skipped
answer_to mapping (Command raw) = told (command_answer mapping raw)
answer_to mapping Bad = bad_line

unfoldable pub guest_answer : Mapping → List ℕ → LineAnswer
guest_answer mapping line = answer_to mapping (brought_by (words_of line))
