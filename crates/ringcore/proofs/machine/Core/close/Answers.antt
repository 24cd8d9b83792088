use Rattle.std.proofs.Common.{◌≡◌, ◌<◌, subst, arith}
use Rattle.ringcore.specs.declared.machine.step.Step.TheVariants.{Close}
use Rattle.ringcore.specs.declared.machine.step.Seen.TheVariants.{Word}
use Rattle.ringcore.specs.machine.Core.{core_of, ring_of, IsTaken}
use Rattle.ringcore.proofs.MachineLemmas.SenderSteps.{with_words, closed_machine, close_taken}
use Rattle.ringcore.proofs.machine.Core.close.Goals as goal

pub invariant_of-self : goal.invariant_of-self
invariant_of-self c =
    let core = core_of c.self.inside in
    let views = c.self.invariant.views in
    let low : c.args.sender < core.words.senders = omega (arith, views, c.len.ensures, c.if-sender-len.false) in
    closed_machine c.close.ensures core c.close-2.new.self c.args.sender low c.close-2.ensures c.self.invariant

pub returns : goal.returns
returns c =
    let core = core_of c.self.inside in
    let views = c.self.invariant.views in
    let low : c.args.sender < core.words.senders = omega (arith, views, c.len.ensures, c.if-sender-len.false) in
    let taken = close_taken c.close.ensures core c.close-2.new.self c.args.sender low c.close-2.ensures c.control.result c.control.ensures.says in
    subst (λ old. IsTaken old (with_words core c.close-2.new.self) (Close c.args.sender) (Word c.control.result) × (ring_of (with_words core c.close-2.new.self) ≡ ring_of old)) c.self.view_is taken
