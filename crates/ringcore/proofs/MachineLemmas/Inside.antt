-- What a contract says of a machine's value holds of the value of its fields.
use Rattle.std.proofs.Common.{◌≡◌, ℕ, ◌<◌, sym, ◌∙◌, subst}
use Rattle.std.specs.Prelude.{Option, None}
use Rattle.qindex.specs.declared.control.Control.{Control}
use Rattle.ringcore.specs.declared.machine.step.Step.{Step}
use Rattle.ringcore.specs.declared.machine.step_fault.StepFault.{StepFault}
use Rattle.ringcore.specs.world.Trails.{Run}
use Rattle.ringcore.specs.world.World.{world, control}
use Rattle.ringcore.specs.machine.Faults.{fault_of}
use Rattle.ringcore.specs.machine.Core.{CoreValue, ring_of, AfterEachRun, HasNoFault}

module _ (inside outside : CoreValue) (is : inside ≡ outside) where
  pub there_inside : (s : ℕ) → s < outside.words.senders → s < inside.words.senders
  there_inside s = subst (λ (m : CoreValue). s < m.words.senders) (sym is)

  pub accepted_inside : (step : Step) (P : CoreValue → Run → Type 0) → HasNoFault outside step (P outside) → HasNoFault inside step (P inside)
  accepted_inside step P = subst (λ (m : CoreValue). HasNoFault m step (P m)) (sym is)

  pub no_fault_inside : (step : Step) (told : Option StepFault) → told ≡ None → AfterEachRun outside (λ run. told ≡ fault_of (ring_of outside) run step)
      → AfterEachRun inside (λ run. None ≡ fault_of (ring_of inside) run step)
  no_fault_inside step told none says =
      subst (λ (m : CoreValue). AfterEachRun m (λ run. None ≡ fault_of (ring_of m) run step)) (sym is) (λ run stands. sym none ∙ says run stands)

  pub control_inside : (found : Control) → AfterEachRun outside (λ run. found ≡ control outside.words.geometry (world run))
      → AfterEachRun inside (λ run. found ≡ control inside.words.geometry (world run))
  control_inside found = subst (λ (m : CoreValue). AfterEachRun m (λ run. found ≡ control m.words.geometry (world run))) (sym is)
