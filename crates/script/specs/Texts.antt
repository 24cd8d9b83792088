-- The answers that scripts of every kind give.
use Rattle.std.specs.Prelude.{ℕ, ◌^◌, List, ◌++◌, codes, decimal}

-- of a line that made a ring of `2^log2` slots
abbrev pub ring_text : ℕ → List ℕ
ring_text log2 = codes "ring size " ++ decimal (2 ^ log2) ++ codes "\n"
