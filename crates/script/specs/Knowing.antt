-- What an interpreter knows of lines. `knows` says what it knows of the lines that it served so far.
use Rattle.std.specs.Prelude.{ℕ, List, ◌++◌}
use Rattle.script.specs.Outcome.{Outcome}

-- What it knew of the lines before, it now knows of those followed by these lines.
abbrev pub Learns : {I : Type 0} → (I → List (List ℕ) → Type 0) → I → I → List (List ℕ) → Type 0
Learns knows old new lines = (past : List (List ℕ)) → knows old past → knows new (past ++ lines)

-- The same up to `last`, in the form of what lines may come to, so that it can be passed on as that.
abbrev pub Leads : {I : Type 0} → (I → List (List ℕ) → Type 0) → I → I → ℕ → List (List ℕ) → Outcome → Type 0
Leads knows last now number lines outcome = Learns knows now last lines
