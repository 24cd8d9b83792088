-- Texts that are made of answers.
use Rattle.std.specs.Prelude.{◌≡◌, ◌≤◌, ℕ, List, ◌++◌, length, map, take, codes}
use Rattle.std.specs.Borrow.{Bor}
use Rattle.std.specs.List.{concat}

abbrev pub texts_of : List (Bor (List ℕ)) → List (List ℕ)
texts_of = map (λ s. s.now)

-- The text is the first n answers and nothing else.
pub record AreAnswers (answers : List (List ℕ)) (text : List ℕ) (n : ℕ) : Type 0 where
  pub few : n ≤ length answers
  pub whole : text ≡ concat (take n answers)

-- some of the first answers, and then the line that tells that memory ran out
pub record EndsWithoutMemory (answers : List (List ℕ)) (text : List ℕ) : Type 0 where
  pub front : List ℕ
  pub behind : text ≡ front ++ codes "no memory\n"
  pub count : ℕ
  pub answered : AreAnswers answers front count
