use Rattle.std.proofs.Common.{ap, ◌∙◌, take}
use Rattle.ring.specs.table.{PortValue}
use Rattle.ring.specs.consumer.{taken_of, completed_trail, PendingValue}
use Rattle.ring.proofs.ConsumerLemmas.Acknowledging.{taken_after}
use Rattle.ring.proofs.consumer.pending_run.PendingRun.complete_run.Goals as goal

pub returns-clause-taken : goal.returns-clause-taken
returns-clause-taken g c =
    ap (λ (d : PortValue). taken_of d.trail) c.complete_run.ensures.trail
    ∙ ap (λ (p : PendingValue _). taken_of (completed_trail (take c.args.count p.raws) p.consumer.trail)) c.self.view_is
    ∙ taken_after c.args.self.consumer.trail (take c.args.count c.args.self.raws) c.args.outcome c.requires.outcome
