-- What a line of a kernel's log brings.
use Rattle.std.specs.Prelude.{ℕ, ◌==◌, List, [], ◌∷◌, Option, Some, None, length, codes, if◌then◌else◌}
use Rattle.std.specs.Str.{bytes_eq}
use Rattle.words.specs.declared.log_line.LogLine.{LogLine}
use Rattle.words.specs.declared.log_line.LogLine.TheVariants.{Half, Received, Other}
use Rattle.line_answers.specs.LineWords.{words_of}
use Rattle.words.specs.LineAnswers.{hex_number}

-- the last of some words, or `word` without any
unfoldable pub last_or : List ℕ → List (List ℕ) → List ℕ
last_or word [] = word
last_or word (next ∷ words) = last_or next words

-- 0x and exactly 16 hexadecimal digits of either case are half a command
unfoldable pub half_of : List ℕ → Option ℕ
half_of word = if length word == 18 then hex_number word else None

abbrev pub brought_by : Option ℕ → List ℕ → LogLine
brought_by (Some half) word = Half half
brought_by None word = if bytes_eq word (codes "received:") then Received else Other

-- The last word counts, since a log's own words come before what is told.
unfoldable pub log_line : List ℕ → LogLine
log_line line = brought_by (half_of (last_or [] (words_of line))) (last_or [] (words_of line))
