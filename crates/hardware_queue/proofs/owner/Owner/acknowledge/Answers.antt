use Rattle.std.proofs.Common.{◌∙◌, sym}
use Rattle.hardware_queue.specs.Queues.{QueueValue}
use Rattle.hardware_queue.proofs.Acknowledging.{fits, may_acknowledge, acknowledged}
use Rattle.hardware_queue.proofs.owner.Owner.acknowledge.Goals as goal

pub write_gerrorn-requires : goal.write_gerrorn-requires
write_gerrorn-requires g c =
    let q : QueueValue = g.Q.CommandQueue.queue c.self.inside.queue in
    let fit = fits _ _ (sym c.in_default.is ∙ c.refusal.ensures) in
    may_acknowledge c.args.remedy fit.0 q _ _ _ _ (c.self.invariant.stopped fit.0 fit.1) c.apply.ensures.new c.read_gerrorn.ensures c.toggle-word.ensures

pub returns-clause-done : goal.returns-clause-done
returns-clause-done g c =
    let q : QueueValue = g.Q.CommandQueue.queue c.self.inside.queue in
    let fit = fits _ _ (sym c.in_default.is ∙ c.refusal.ensures) in
    rw (← c.self.view_is) ((
      fit.0,
      fit.1,
      acknowledged c.args.remedy fit.0 q _ _ _ _ _ (c.self.invariant.stopped fit.0 fit.1) c.apply.ensures.new c.read_gerrorn.ensures c.toggle-word.ensures
          c.write_gerrorn.ensures,
    ))
