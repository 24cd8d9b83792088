-- The answer to a line.
use Rattle.std.specs.Prelude.{ℕ, List, [], Bool, true}

-- What is written for a line, nothing for one that is skipped, and whether the line is good.
pub record LineAnswer : Type 0 where
  pub text : List ℕ
  pub is_good : Bool

abbrev pub skipped : LineAnswer
skipped = record { text = []; is_good = true }
