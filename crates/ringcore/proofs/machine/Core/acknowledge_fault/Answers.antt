use Rattle.std.proofs.Common.{◌≡◌, ◌<◌, ◌∙◌, None, Some, subst, arith}
use Rattle.ringcore.specs.declared.machine.step.Step.TheVariants.{Acknowledge}
use Rattle.ringcore.specs.declared.machine.step_fault.StepFault.TheVariants.{NotNext}
use Rattle.ringcore.specs.machine.Faults.{fault_of}
use Rattle.ringcore.specs.machine.Core.{CoreValue, core_of, ring_of, StandsAfter, AfterEachRun}
use Rattle.ringcore.proofs.MachineLemmas.TakenSteps.{is_next, is_not_next}
use Rattle.ringcore.proofs.machine.Core.acknowledge_fault.Goals as goal

pub returns-then-number-of : goal.returns-then-number-of
returns-then-number-of c =
    let core = core_of c.self.inside in
    let views = c.self.invariant.views in
    let counts = c.self.invariant.counts in
    let low : c.args.sender < core.words.senders = omega (arith, views, c.len.ensures, c.if-sender-len.false) in
    subst (λ (m : CoreValue). AfterEachRun m (λ run. None ≡ fault_of (ring_of m) run (Acknowledge c.args.sender c.args.number))) c.self.view_is
    (λ run stands.
    let tally = c.of.ensures ∙ stands.tallies_are c.args.sender (omega (arith, low, counts)) in
    is_next core run stands c.args.sender c.args.number c.done.result low (c.done.ensures run (subst (λ m. StandsAfter m run) c.self.view_is stands)) c.counts_law.ensures.syncs
    (omega (arith, c.from.ensures, c.from-2.ensures, c.if-from.false)) (omega (arith, tally, c.if-number-of.true)))

pub returns-else-number-of : goal.returns-else-number-of
returns-else-number-of c =
    let core = core_of c.self.inside in
    let views = c.self.invariant.views in
    let counts = c.self.invariant.counts in
    let low : c.args.sender < core.words.senders = omega (arith, views, c.len.ensures, c.if-sender-len.false) in
    subst (λ (m : CoreValue). AfterEachRun m (λ run. Some NotNext ≡ fault_of (ring_of m) run (Acknowledge c.args.sender c.args.number))) c.self.view_is
    (λ run stands.
    let tally = c.of.ensures ∙ stands.tallies_are c.args.sender (omega (arith, low, counts)) in
    is_not_next core run stands c.args.sender c.args.number c.done.result low (c.done.ensures run (subst (λ m. StandsAfter m run) c.self.view_is stands)) c.counts_law.ensures.syncs c.steps_law.ensures.allowed
    (λ next few. omega (arith, tally, few, c.if-number-of.false)))
