-- What is said of a line.
use Rattle.std.specs.Prelude.{◌≡◌, ℕ, List, ◌++◌, codes, decimal}

-- A text that begins with the line's number.
abbrev pub IsSaidOf : ℕ → List ℕ → Type 0
IsSaidOf number said = (why : List ℕ) × (said ≡ codes "line " ++ decimal number ++ codes ": " ++ why)
