-- A sender that goes on, and the run that it knows.
use Rattle.std.proofs.Common.{◌≡◌, ℕ, zero, suc, Bool, List, [], ◌∷◌, ◌++◌, refl, ap, ◌∙◌, sym, append_assoc}
use Rattle.cmdcodec.specs.declared.raw.Raw.{Raw}
use Rattle.ring.specs.Runs.{Who, Event, Run}
use Rattle.ring.specs.table.Histories.{GrewBy}
use Rattle.ring.specs.declared.sender.cause.Cause.TheVariants.{TooLong, Exhausted, Closed, Full, Contended}
use Rattle.ring.specs.declared.sender.cause.Cause.{Cause}
use Rattle.ring.specs.sender.Senders.{SenderValue}
use Rattle.ring.specs.sender.GoingOn.{WentOn}
use Rattle.ring.specs.sender.Reserving.{IsRefused}
use Rattle.ring.specs.sender.Sending.{HasTried}
use Rattle.ring.proofs.SenderLemmas.GoingOn.{on_again}

pub not_at_all : (s : SenderValue) → WentOn s s
not_at_all s = record { grew = record { newer = []; run_is = refl; trail_is = refl; last = tt }; ring_is = refl; number_is = refl }

pub adds_up : (s t u : SenderValue) → WentOn s t → WentOn t u → WentOn s u
adds_up s t u one two = on_again one two

-- The run is an older one, continued.
pub record Continues (older run : Run) : Type 0 where
  pub newer : Run
  pub run_is : run ≡ newer ++ older

pub continues_again : (first second third : Run) → Continues first second → Continues second third → Continues first third
continues_again first second third one two = record {
  newer = two.newer ++ one.newer;
  run_is = two.run_is ∙ ap (λ (r : Run). two.newer ++ r) one.run_is ∙ sym (append_assoc two.newer one.newer first);
}

pub by_one_step : (who : Who) (e : Event) (older run : Run) → GrewBy who e older run → Continues older run
by_one_step who e older run grew = record {
  newer = (who, e) ∷ grew.went_on.newer;
  run_is = grew.run_is ∙ ap (λ (r : Run). (who, e) ∷ r) grew.went_on.run_is;
}

by_none : (s t : SenderValue) → t ≡ s → Continues s.history t.history
by_none s t stays = record { newer = []; run_is = ap (λ (u : SenderValue). u.history) stays }

by_refusal : (words : List Raw) (closes : Bool) (s : SenderValue) (cause : Cause) (t : SenderValue) → IsRefused words closes s cause t → Continues s.history t.history
by_refusal words closes s TooLong t is = by_none s t is.stays
by_refusal words closes s Exhausted t is = by_none s t is.stays
by_refusal words closes s Closed t is = by_one_step _ _ _ _ is.looked.grew
by_refusal words closes s Full t is = by_one_step _ _ _ _ is.looked.grew
by_refusal words closes s Contended t is = continues_again _ _ _ (by_one_step _ _ _ _ is.looked.grew) (by_one_step _ _ _ _ is.lost.grew)

pub by_tries : (words : List Raw) (closes : Bool) (tries : ℕ) (s t : SenderValue) → HasTried words closes tries s t → Continues s.history t.history
by_tries words closes zero s t is = by_none s t is
by_tries words closes (suc k) s t is = continues_again _ _ _ (by_tries words closes k s is.0 is.2) (by_refusal words closes is.0 is.1 t is.4)
