-- The text of a refusal, which changes nothing and doesn't end the run.
use Rattle.std.specs.Prelude.{ℕ, List, ◌++◌, codes}

abbrev pub refused_text : List ℕ → List ℕ
refused_text label = codes "refused " ++ label ++ codes "\n"
