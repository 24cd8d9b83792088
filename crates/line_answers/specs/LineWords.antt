-- The words of a line.
use Rattle.std.specs.Prelude.{ℕ, List, [], ◌∷◌, ◌==◌, ◌||◌, Bool, if◌then◌else◌, filter}
use Rattle.script.specs.Lines.{onto_first}
use Rattle.script.specs.Words.{is_word}

-- a space, a tab or a carriage return
abbrev pub is_blank : ℕ → Bool
is_blank b = b == 32 || b == 9 || b == 13

-- what stands between the blanks, empty pieces too
unfoldable pub between_blanks : List ℕ → List (List ℕ)
between_blanks [] = [] ∷ []
between_blanks (b ∷ bytes) = if is_blank b then [] ∷ between_blanks bytes else onto_first b (between_blanks bytes)

-- Words are separated by one or more blanks; blanks at either end are ignored.
unfoldable pub words_of : List ℕ → List (List ℕ)
words_of line = filter is_word (between_blanks line)
