-- What was served by one account was served by another, and what the status of it says.
use Rattle.std.proofs.Common.{◌≡◌, ℕ, List, Option, Some, None, Ok, Err, refl, sym, subst}
use Rattle.std.specs.Prelude.{IfOk, IfSome, Result}
use Rattle.std.proofs.lemmas.Result.{IfOk-weaker, IfErr-weaker, on_err_weaker}
use Rattle.script.specs.declared.ending.Ending.{Ending}
use Rattle.script.specs.declared.ending.Ending.TheVariants.{Finished, Refused}
use Rattle.script.specs.declared.error.ServeError.{ServeError}
use Rattle.script.specs.declared.error.ServeError.TheVariants.{Memory, Read, Write, Endless}
use Rattle.script.specs.declared.status.Status.{Status}
use Rattle.script.specs.declared.status.Status.TheVariants as is
use Rattle.script.specs.declared.last_line.LastLine.{LastLine}
use Rattle.script.specs.Endings.{EndsKnown}
use Rattle.script.specs.LastLines.{EndedBy, IsLine}
use Rattle.script.specs.Outcome.{Outcome}
use Rattle.script.specs.Serves.{Serves}
use Rattle.script.specs.Statuses.{Tells, status_of}
use Rattle.script.specs.Writing.{WritesAnswer}
use Rattle.script.proofs.MayLemmas.{Implies, answer_comes, memory_comes, beginning_comes, lines_come}

pub serves_comes : (may other : ℕ → List (List ℕ) → Outcome → Type 0) → Implies may other → (result : Result Ending ServeError) (input rest before after : Option (List ℕ))
    → Serves may result input rest before after → Serves other result input rest before after
serves_comes may other implies result input rest before after s = record {
  answer = IfOk-weaker result _ _ (λ ending w. answer_comes may other implies _ _ _ ending w) s.answer;
  end = s.end;
  memory = IfErr-weaker result _ _ (λ e w is. memory_comes may other implies _ _ _ (w is)) s.memory;
  beginning = on_err_weaker result (λ w. beginning_comes may other implies _ _ _ _ w) s.beginning;
  read = IfErr-weaker result _ _ (λ e w is. lines_come may other implies _ _ _ _ (w is)) s.read;
  endless = s.endless;
}

-- ---- the line that ended it

ends_comes : (may other : ℕ → List (List ℕ) → Outcome → Type 0) → Implies may other → (is_last : ℕ → List ℕ → Type 0) → Implies (EndsKnown may is_last) (EndsKnown other is_last)
ends_comes may other implies is_last number lines outcome known refused =
    let at = known refused in
    record {
      before = at.before;
      line = at.line;
      after = at.after;
      split = at.split;
      ends = λ more. implies _ _ _ (at.ends more);
      last = at.last;
    }

pub ended_by : (may other : ℕ → List (List ℕ) → Outcome → Type 0) → Implies may other → (last : Option LastLine) (input before after : Option (List ℕ)) (ending : Ending) → ending ≡ Refused
    → WritesAnswer (EndsKnown may (λ number line. IfSome last (λ l. IsLine l number line))) input before after ending → IfSome last (λ l. EndedBy other l input before after)
ended_by may other implies None input before after ending refused written = tt
ended_by may other implies (Some l) input before after ending refused written =
    answer_comes (EndsKnown may (IsLine l)) (EndsKnown other (IsLine l)) (ends_comes may other implies (IsLine l)) input before after Refused
    (subst (λ is. WritesAnswer (EndsKnown may (IsLine l)) input before after is) refused written)

pub ended_comes : (may other : ℕ → List (List ℕ) → Outcome → Type 0) → Implies may other → (last : Option LastLine) (input before after : Option (List ℕ))
    → IfSome last (λ l. EndedBy may l input before after) → IfSome last (λ l. EndedBy other l input before after)
ended_comes may other implies None input before after ended = tt
ended_comes may other implies (Some l) input before after ended =
    answer_comes (EndsKnown may (IsLine l)) (EndsKnown other (IsLine l)) (ends_comes may other implies (IsLine l)) input before after Refused ended

-- ---- its status

-- What is so if a line ended the run is so if the status says that.
pub refused_by : {X : Type 0} → (result : Result Ending ServeError) (status : Status) → status ≡ status_of result → IfOk result (λ ending. ending ≡ Refused → X) → status ≡ is.Refused → X
refused_by (Ok Refused) status of by refused = by refl
refused_by (Ok Finished) status of by refused = absurd cc
refused_by (Err (Memory e)) status of by refused = absurd cc
refused_by (Err (Read e)) status of by refused = absurd cc
refused_by (Err (Write e)) status of by refused = absurd cc
refused_by (Err Endless) status of by refused = absurd cc

ended : (may : ℕ → List (List ℕ) → Outcome → Type 0) (result : Result Ending ServeError) (input rest before after : Option (List ℕ)) → Serves may result input rest before after
    → Tells may (status_of result) input rest before after
ended may (Ok Finished) input rest before after s = s.answer
ended may (Ok Refused) input rest before after s = s.answer
ended may (Err (Memory e)) input rest before after s = s.memory refl
ended may (Err (Read e)) input rest before after s = s.read refl
ended may (Err (Write e)) input rest before after s = s.beginning
ended may (Err Endless) input rest before after s = (s.endless refl, s.beginning)

pub tells : (may : ℕ → List (List ℕ) → Outcome → Type 0) (result : Result Ending ServeError) (status : Status) (input rest before after : Option (List ℕ)) → status ≡ status_of result
    → Serves may result input rest before after → Tells may status input rest before after
tells may result status input rest before after e s = subst (λ is. Tells may is input rest before after) (sym e) (ended may result input rest before after s)
