-- A sender that is on its plan stays on it.
use Rattle.std.proofs.Common.{◌≡◌, ℕ, suc, ◌<◌, ◌≤◌, Bool, true, false, cond, List, [], ◌∷◌, ◌++◌, refl, sym, ap, ◌∙◌, subst}
use Rattle.std.specs.Prelude.{Option, Some}
use Rattle.ringcore.specs.world.Trails.{Trail, numbers_given}
use Rattle.ringcore.specs.world.Delivery.{Batch}
use Rattle.ringcore.specs.world.Laws.{own_batches}
use Rattle.ringcore.specs.machine.StepAnswers.{next_number}
use Rattle.ring.specs.sender.Senders.{SenderValue}
use Rattle.ring.specs.sender.Publishing.{ReservesNone}
use Rattle.stress.specs.declared.attempt.Attempt.{Attempt}
use Rattle.stress.specs.declared.attempt.Attempt.TheVariants.{Refused, Sent, SentBare}
use Rattle.stress.specs.Plans.{PlanValue, body, closes, number_if, numbered, planned}
use Rattle.stress.specs.Workers.{IsOnPlan, HasReservedOne, HasTried, is_sent}

-- the number that the ring gives a batch is the plan's
number_is : (t : Trail) (closing : Bool) (n : ℕ) → numbers_given t ≡ n → next_number t closing ≡ number_if closing n
number_is t true n is = ap (λ (k : ℕ). Some (suc k)) is
number_is t false n is = refl

module _ (plan : PlanValue) (s t : SenderValue) (k : ℕ) (on : IsOnPlan plan s k) (same : t.number ≡ s.number) where
  stays : ReservesNone s.trail t.trail → IsOnPlan plan t k
  stays none = record {
    plan_is = on.plan_is;
    known = subst (λ (n : ℕ). n < plan.senders) (sym same) on.known;
    batches_are = subst (λ (n : ℕ). own_batches n t.trail ≡ planned plan n k) (sym same) (none.batches s.number ∙ on.batches_are);
    numbers_are = none.numbers ∙ on.numbers_are;
    within = on.within;
  }

  moves : suc k ≤ plan.batches → HasReservedOne (body plan s.number (suc k)) (closes plan (suc k)) s t → IsOnPlan plan t (suc k)
  moves left one = record {
    plan_is = on.plan_is;
    known = subst (λ (n : ℕ). n < plan.senders) (sym same) on.known;
    batches_are =
        subst (λ (n : ℕ). own_batches n t.trail ≡ planned plan n (suc k)) (sym same)
        (one.batches
        ∙ ap (λ (bs : List Batch). bs ++ record { sender = s.number; number = next_number s.trail (closes plan (suc k)); body = body plan s.number (suc k) } ∷ []) on.batches_are
        ∙ ap (λ (n : Option ℕ). planned plan s.number k ++ record { sender = s.number; number = n; body = body plan s.number (suc k) } ∷ [])
        (number_is s.trail (closes plan (suc k)) (numbered plan k) on.numbers_are));
    numbers_are = one.numbers ∙ ap (λ (n : ℕ). cond (closes plan (suc k)) (suc n) n) on.numbers_are;
    within = left;
  }

  pub goes : suc k ≤ plan.batches → (attempt : Attempt) → HasTried (body plan s.number (suc k)) (closes plan (suc k)) s t attempt
      → IsOnPlan plan t (cond (is_sent attempt) (suc k) k)
  goes left Refused tried = stays tried.0
  goes left (Sent receipt) tried = moves left tried.0
  goes left SentBare tried = moves left tried.0
