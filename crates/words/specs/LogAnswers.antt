-- The answer to the lines of a kernel's log. Two lines in a row that bring halves are one command.
use Rattle.std.specs.Prelude.{ℕ, List, [], ◌∷◌, ◌++◌, false, ◌&&◌}
use Rattle.decode.specs.CommandText.{words_text}
use Rattle.words.specs.declared.log_line.LogLine.{LogLine}
use Rattle.words.specs.declared.log_line.LogLine.TheVariants.{Half, Received, Other}
use Rattle.line_answers.specs.LineAnswers.{LineAnswer, skipped}
use Rattle.words.specs.LineAnswers.{told, bad_line}

-- one answer after another, good if both are
abbrev pub followed_by : LineAnswer → LineAnswer → LineAnswer
followed_by first second = record { text = first.text ++ second.text; is_good = first.is_good && second.is_good }

-- ---- halves in a row

-- Each two are a command, lo first. `alone` is the answer to one that is left over.
unfoldable pub pairs : LineAnswer → List ℕ → LineAnswer
pairs alone [] = skipped
pairs alone (lo ∷ []) = alone
pairs alone (lo ∷ hi ∷ halves) = followed_by (told (words_text (record { lo = lo; hi = hi }))) (pairs alone halves)

-- ---- between other lines

-- the halves before all other lines, and those behind each other line, up to the next one
pub record Halves : Type 0 where
  pub first : List ℕ
  pub later : List (List ℕ)

-- Those right behind a line that ends in `received:` are the words of an event, and left out.
unfoldable pub halves_of : List LogLine → Halves
halves_of [] = record { first = []; later = [] }
halves_of (Half half ∷ lines) = record { first = half ∷ (halves_of lines).first; later = (halves_of lines).later }
halves_of (Other ∷ lines) = record { first = []; later = (halves_of lines).first ∷ (halves_of lines).later }
halves_of (Received ∷ lines) = record { first = []; later = [] ∷ (halves_of lines).later }

-- ---- all lines

-- With no line after it, a half is answered with no text, but it isn't good.
abbrev pub unfinished : LineAnswer
unfinished = record { text = []; is_good = false }

unfoldable pub halves_answer : List ℕ → List (List ℕ) → LineAnswer
halves_answer halves [] = pairs unfinished halves
halves_answer halves (next ∷ later) = followed_by (pairs bad_line halves) (halves_answer next later)

unfoldable pub log_answer : List LogLine → LineAnswer
log_answer lines = halves_answer (halves_of lines).first (halves_of lines).later
