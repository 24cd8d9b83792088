-- Running out of memory in a replay.
use Rattle.std.specs.Prelude.{◌≡◌, ℕ, List, [], ◌++◌, Bool, ◌⊎◌, codes}
use Rattle.replay.specs.ReplayText.{answer_to}

-- A fill was refused because memory ran out: the text has the answer to it.
pub record TellsOfMemory (text : List ℕ) : Type 0 where
  pub front : List ℕ
  pub back : List ℕ
  pub is : text ≡ front ++ codes "refused C3\n" ++ back

-- Whatever the lines at which memory runs out, the answer is that for memory that never does, or it tells of it.
abbrev pub IsPlainUnlessTold : Type 0
IsPlainUnlessTold = (choice : List Bool) (script : List ℕ) → (answer_to choice script ≡ answer_to [] script) ⊎ TellsOfMemory (answer_to choice script).text
