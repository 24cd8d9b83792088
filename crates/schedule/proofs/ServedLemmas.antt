-- From what a step does to what the request that asks for it does.
use Rattle.std.proofs.Common.{◌≡◌, ℕ, Bool, true, false, List, ◌∷◌, ◌++◌, ap, sym, ◌∙◌, Option, Some, None, subst}
use Rattle.script.specs.Outcome.{fault_line}
use Rattle.script.specs.Effects.{answers}
use Rattle.script.specs.Standing.{Acts}
use Rattle.script.proofs.EffectLemmas.{produces_at, fault_told}
use Rattle.ringcore.specs.declared.machine.step.Step.{Step}
use Rattle.ringcore.specs.declared.machine.step.Seen.{Seen}
use Rattle.ringcore.specs.declared.machine.step_fault.StepFault.{StepFault}
use Rattle.ringcore.specs.world.Allowed.{Ring}
use Rattle.ringcore.specs.machine.Faults.{fault_of}
use Rattle.ringcore.specs.machine.FaultNames.{label_of}
use Rattle.ringcore.specs.machine.StepAnswers.{event_of}
use Rattle.ringcore.specs.machine.Core.{CoreValue, StandsAfter, ring_of, IsRefused, IsTaken, answer_to as seen_by}
use Rattle.schedule.specs.Texts.{answer_line}
use Rattle.schedule.specs.ScheduleText.{State, taken, step_or_fault, step_effect}
use Rattle.schedule.specs.Standing.{Stands}

-- the fault of a step, by the state that the machine stands for
fault_is : (core : CoreValue) (state : State) (step : Step) (fault : Option StepFault) → Stands core state → fault_of (ring_of core) state.run step ≡ fault → fault_of state.ring state.run step ≡ fault
fault_is core state step fault s e = ap (λ (ring : Ring). fault_of ring state.run step) (sym s.ring) ∙ e

pub step_refused : (number : ℕ) (step : Step) (is_counted : Bool) (fault : StepFault) (old new : CoreValue) (before after : List ℕ) → IsRefused old step fault
    → after ≡ before ++ fault_line number (label_of fault) → Acts Stands (λ wanting. step_effect number step is_counted) old new before after false
unfolding step_effect
step_refused number step is_counted fault old new before after refused text =
    fault_told Stands (λ wanting. step_effect number step is_counted) old new number (label_of fault) before after
    (λ state s. ap (step_or_fault number step is_counted state) (fault_is old state step (Some fault) s (refused state.run s.run))) text

stands_taken : (old new : CoreValue) (state : State) (step : Step) → Stands old state → ring_of new ≡ ring_of old → StandsAfter new (event_of (ring_of old) state.run step ∷ state.run)
    → Stands new (taken state step)
stands_taken old new state step s same stands = record {
  ring = same ∙ s.ring;
  run = subst (λ (ring : Ring). StandsAfter new (event_of ring state.run step ∷ state.run)) s.ring stands;
}

pub step_taken : (number : ℕ) (step : Step) (is_counted : Bool) (seen : Seen) (old new : CoreValue) (before after : List ℕ) → IsTaken old new step seen → ring_of new ≡ ring_of old
    → after ≡ before ++ answer_line step is_counted seen → Acts Stands (λ wanting. step_effect number step is_counted) old new before after true
unfolding step_effect
step_taken number step is_counted seen old new before after took same text = record {
  answer = answer_line step is_counted seen;
  text = text;
  produces = λ state s.
      let takes = took state.run s.run in
      produces_at Stands (λ wanting. step_effect number step is_counted state) (Some new) false (answers (answer_line step is_counted seen) (taken state step))
      (ap (step_or_fault number step is_counted state) (fault_is old state step None s takes.no_fault)
      ∙ ap (λ (x : Seen). answers (answer_line step is_counted x) (taken state step))
      (ap (λ (ring : Ring). seen_by ring state.run step) (sym s.ring) ∙ sym takes.answer))
      (λ on. stands_taken old new state step s same takes.stands);
}
