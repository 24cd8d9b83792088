-- What crate script asks of those who serve lines.
use Rattle.std.specs.Prelude.{◌≡◌, ℕ, ◌<◌, List, [], ◌∷◌, ◌++◌, Option, Some, None, length, codes, refl}
use Rattle.std.proofs.Common.{inl, inr, ap, sym, subst, ◌∙◌, append_assoc, append-nil}
use Rattle.ringcore.specs.world.World.{Taken}
use Rattle.script.specs.declared.ending.Ending.{Ending}
use Rattle.script.specs.declared.ending.Ending.TheVariants.{Finished, Refused}
use Rattle.script.specs.Outcome.{Outcome, fault, fault_line}
use Rattle.trace.specs.Traces.{TraceValue, new_trace}
use Rattle.trace.specs.Logs.{Comes, EndsSo, Gives}

ends_now : (taken : List Taken) (t : TraceValue) (n : ℕ) → Comes taken t n [] [] Finished
unfolding Comes
ends_now taken t n = (refl, refl)

ends_long : (taken : List Taken) (t : TraceValue) (n : ℕ) (line : List ℕ) (lines : List (List ℕ))
    → 4096 < length line → Comes taken t n (line ∷ lines) (fault_line n (codes "long line")) Refused
unfolding Comes
ends_long taken t n line lines long =
    inr (codes "long line", inl (long, refl), refl, refl)

begun : (taken : List Taken) (t : TraceValue) (n : ℕ) (lines : List (List ℕ))
    → EndsSo taken t n lines [] None
begun taken t n lines = ([], lines, [], Finished, refl, ends_now taken t n)

cut_so : (taken : List Taken) (t : TraceValue) (n : ℕ) (lines : List (List ℕ)) (text front rest : List ℕ)
    (ending : Option Ending) → EndsSo taken t n lines text ending → text ≡ front ++ rest
    → EndsSo taken t n lines front None
cut_so taken t n lines text front rest (Some ending) comes split =
    (lines, [], rest, ending, sym (append-nil lines), subst (λ (x : List ℕ). Comes taken t n lines x ending) split comes)
cut_so taken t n lines text front rest None comes split = (
  comes.0,
  comes.1,
  rest ++ comes.2,
  comes.3,
  comes.4,
  subst (λ (x : List ℕ). Comes taken t n comes.0 x comes.3)
      (ap (λ (x : List ℕ). x ++ comes.2) split ∙ append_assoc front rest comes.2) comes.5,
)

pub nothing_left : (t : Option TraceValue) (n : ℕ)
    → Gives t n [] (record { text = []; ending = Some Finished })
nothing_left None n = ends_now [] new_trace n
nothing_left (Some t) n = λ taken is. ends_now taken t n

pub long_line : (t : Option TraceValue) (n : ℕ) (line : List ℕ) (lines : List (List ℕ))
    → 4096 < length line → Gives t n (line ∷ lines) (fault n (codes "long line"))
long_line None n line lines long = ends_long [] new_trace n line lines long
long_line (Some t) n line lines long = λ taken is. ends_long taken t n line lines long

pub begins : (t : Option TraceValue) (n : ℕ) (lines : List (List ℕ))
    → Gives t n lines (record { text = []; ending = None })
begins None n lines = begun [] new_trace n lines
begins (Some t) n lines = λ taken is. begun taken t n lines

pub cut : (t : Option TraceValue) (n : ℕ) (lines : List (List ℕ)) (outcome : Outcome)
    (front rest : List ℕ) → Gives t n lines outcome → outcome.text ≡ front ++ rest
    → Gives t n lines (record { text = front; ending = None })
cut None n lines outcome front rest comes split =
    cut_so [] new_trace n lines outcome.text front rest outcome.ending comes split
cut (Some t) n lines outcome front rest comes split =
    λ taken is. cut_so taken t n lines outcome.text front rest outcome.ending (comes taken is) split
