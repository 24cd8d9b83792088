use Rattle.std.proofs.Common.{Some, ap, sym, ◌∙◌}
use Rattle.cmdcodec.specs.declared.raw.Raw.{Raw}
use Rattle.hardware_queue.specs.Queues.{QueueValue}
use Rattle.hardware_queue.proofs.Forwards.{stopped_command}
use Rattle.hardware_queue.proofs.forwarder.Forwarder.stopped.Goals as goal

pub returns-clause-some : goal.returns-clause-some
returns-clause-some g c =
    let q : QueueValue = g.Q.CommandQueue.queue c.self.inside.owner.queue in
    let found = sym c.state.ensures ∙ c.in-Stopped.is in
    let command = stopped_command q c.self.inside.owner.state c.self.inside.consumer c.self.inside.flight c.unwrap-first.result c.self.invariant.0.in_flight (sym c.front.ensures ∙ c.unwrap-first.ensures) (c.in-Stopped.error, found) in
    rw (← c.self.view_is) (record {
      state_is = found;
      command = command ∙ ap (λ (r : Raw). Some r) (sym c.hardware_form-command.ensures);
    })
