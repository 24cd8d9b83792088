-- What did not end a run: a line after which the run could have come to something else.
use Rattle.std.proofs.Common.{◌≡◌, ℕ, List, [], ◌∷◌, ◌++◌, length, ap, ◌∙◌, sym, length-append, arith}
use Rattle.std.specs.Prelude.{⊤}
use Rattle.script.specs.Outcome.{Outcome}
use Rattle.script.specs.Endings.{EndsAtLine}

-- two lines without words
abbrev both : List (List ℕ)
both = [] ∷ [] ∷ []

-- What comes of these two lines and of no others.
abbrev of_both_alone : ℕ → List (List ℕ) → Outcome → Type 0
of_both_alone first lines outcome = lines ≡ both

-- With more lines after them nothing is known to come of it, so neither ended the run.
pub neither_ended_it : (outcome : Outcome) → ¬ EndsAtLine of_both_alone (λ number line. ⊤) 1 both outcome
neither_ended_it outcome at =
    let two : length (at.before ++ at.line ∷ [] ∷ both) ≡ 2 = ap (λ (lines : List (List ℕ)). length lines) (at.ends ([] ∷ both)) in
    absurd (omega (arith, sym (length-append at.before (at.line ∷ [] ∷ both)) ∙ two))
