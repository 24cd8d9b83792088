use Rattle.std.proofs.Common.{take, ap, subst}
use Rattle.ring.specs.Runs.{Consumer}
use Rattle.ring.specs.table.{PortValue, Grew}
use Rattle.ring.proofs.TableLemmas.Grown.{grew_step, grew_more}
use Rattle.ring.proofs.ConsumerLemmas.Acknowledging.{still_at_head}
use Rattle.ring.proofs.consumer.consumer_port.ConsumerPort.complete_run.Goals as goal

pub invariant_of-port : goal.invariant_of-port
invariant_of-port c =
    still_at_head c.port.inside.port c.acknowledge_run.new.self c.port.inside.head c.port.inside.taken (take c.args.count c.args.commands.now) c.port.invariant c.acknowledge_run.ensures.trail

pub returns-clause-history : goal.returns-clause-history
returns-clause-history c =
    let new : PortValue = c.acknowledge_run.new.self in
    let one = grew_step Consumer _ _ _ _ _ (ap (λ (p : PortValue). p.trail) c.advance.ensures.trail) c.advance.ensures.history in
    grew_more _ _ _ _ _ _ _ one
    (subst (λ (p : PortValue). Grew Consumer p.trail new.trail p.history new.history) c.port.view_is c.acknowledge_run.ensures.history)
