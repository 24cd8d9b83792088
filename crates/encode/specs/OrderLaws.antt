-- The order of a command's fields plays no part.
use Rattle.std.specs.Prelude.{◌≡◌, ℕ, List, ◌∷◌, Option, Ok}
use Rattle.std.specs.List.Sorted.{IsPermutation}
use Rattle.cmdcodec.specs.declared.raw.Raw.{Raw}
use Rattle.encode.specs.LineEncodings.{words_encoding}

-- What a name and words give, the name gives with the same words in any other order.
abbrev pub OrderPlaysNoPart : Type 0
OrderPlaysNoPart =
    (name : List ℕ) (words others : List (List ℕ)) (found : Option Raw) → IsPermutation words others → words_encoding (name ∷ words) ≡ Ok found
    → words_encoding (name ∷ others) ≡ Ok found
