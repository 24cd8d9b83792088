-- Laws of what lines may come to, which an interpreter gives.
use Rattle.std.specs.Prelude.{◌≡◌, ℕ, ◌+◌, ◌<◌, List, [], ◌∷◌, ◌++◌, Bool, true, false, cond, Option, Some, None, length, codes, refl}
use Rattle.std.proofs.Common.{ap, ◌∙◌, append_assoc, sym}
use Rattle.std.proofs.lemmas.Bool.{lt-ltb}
use Rattle.script.specs.declared.ending.Ending.{Ending}
use Rattle.script.specs.declared.ending.Ending.TheVariants.{Finished, Refused}
use Rattle.script.specs.Outcome.{Outcome, fault}
use Rattle.script.specs.Answers.{Answer, EndsAs}
use Rattle.script.specs.Effects.{faults}
use Rattle.script.specs.Kinds.{Kind, request_of, asked_effect, line_effect, after_effect, answer_from, AllHold}
use Rattle.script.specs.Giving.{MayGive}

-- a beginning of what an answer ends as
ends_cut : (answer : Answer) (text front rest : List ℕ) (ending : Option Ending) → EndsAs answer text ending → text ≡ front ++ rest → EndsAs answer front None
ends_cut answer text front rest (Some Finished) e split = (rest, ap (λ (a : Answer). a.text) e ∙ split)
ends_cut answer text front rest (Some Refused) e split = (rest, ap (λ (a : Answer). a.text) e ∙ split)
ends_cut answer text front rest None e split = (rest ++ e.0, e.1 ∙ ap (λ t. t ++ e.0) split ∙ append_assoc front rest e.0)

refuses : {b : Bool} → b ≡ false → b ≡ true → ⊥
refuses off on = let no : false ≡ true = sym off ∙ on in absurd cc

module _ {Kept State Request : Type 0} (kind : Kind State Request) (Stands : Kept → State → Type 0) (kept : Option Kept) (n : ℕ) where
  pub nothing_left : MayGive kind Stands kept n [] (record { text = []; ending = Some Finished })
  unfolding answer_from AllHold
  nothing_left state stands = ([], refl, tt)

  pub long_line : (line : List ℕ) (lines : List (List ℕ)) → 4096 < length line → MayGive kind Stands kept n (line ∷ lines) (fault n (codes "long line"))
  unfolding answer_from line_effect AllHold
  long_line line lines long state stands = (
    [],
    ap (λ t. after_effect (cond t (faults n (codes "long line") state) (asked_effect kind n false (request_of kind line) state)) (λ left. answer_from kind (n + 1) [] left lines))
        (lt-ltb 4096 (length line) long),
    λ on. absurd (refuses (ap (λ t. (cond t (faults n (codes "long line") state) (asked_effect kind n false (request_of kind line) state)).goes_on) (lt-ltb 4096 (length line) long)) on),
  )

  pub begins : (lines : List (List ℕ)) → MayGive kind Stands kept n lines (record { text = []; ending = None })
  begins lines state stands = ([], ((answer_from kind n [] state lines).text, refl), tt)

  pub cut : (lines : List (List ℕ)) (outcome : Outcome) (front rest : List ℕ) → MayGive kind Stands kept n lines outcome → outcome.text ≡ front ++ rest
      → MayGive kind Stands kept n lines (record { text = front; ending = None })
  cut lines outcome front rest may split state stands =
      let at = may state stands in
      (at.0, ends_cut (answer_from kind n at.0 state lines) outcome.text front rest outcome.ending at.1 split, tt)
