-- The line that ended the run of a script, as it is handed out.
use Rattle.std.specs.Prelude.{◌≡◌, ◌≤◌, ℕ, List, Option, length}
use Rattle.script.specs.declared.ending.Ending.TheVariants.{Refused}
use Rattle.script.specs.declared.last_line.LastLine.{LastLine}
use Rattle.script.specs.Outcome.{Outcome}
use Rattle.script.specs.Endings.{EndsKnown}
use Rattle.script.specs.Writing.{WritesAnswer}

-- It is the line of this number. The bytes of one that is too long aren't kept.
pub record IsLine (last : LastLine) (number : ℕ) (line : List ℕ) : Type 0 where
  pub has_number : last.number ≡ number
  pub has_text : length line ≤ 4096 → last.text.items ≡ line

-- It ended the run of the script whose answers were written.
abbrev pub EndedBy : (ℕ → List (List ℕ) → Outcome → Type 0) → LastLine → Option (List ℕ) → Option (List ℕ) → Option (List ℕ) → Type 0
EndedBy may last input before after = WritesAnswer (EndsKnown may (IsLine last)) input before after Refused
