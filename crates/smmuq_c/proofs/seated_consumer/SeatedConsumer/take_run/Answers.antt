use Rattle.std.proofs.Common.{rules, ◌≡◌, ◌<◌, inr, length, subst, ◌∙◌}
use Rattle.ring.specs.declared.consumer.taken.Found.{Found}
use Rattle.ring.specs.declared.consumer.taken.Found.TheVariants.{Empty, Drained, Unwritten, Ready}
use Rattle.ring.specs.consumer.PendingConsumers as consumers
use Rattle.smmuq_c.proofs.Taking.{looked_ahead, none_given}
use Rattle.smmuq_c.proofs.seated_consumer.SeatedConsumer.take_run.Goals.{in-Empty, in-Drained, in-Unwritten, in-Ready}
use Rattle.smmuq_c.proofs.seated_consumer.SeatedConsumer.take_run.Goals as goal

pub returns : goal.returns
returns c =
    let e = c.take_run.ensures in
    let room : 0 < length c.args.buffer.now = search rules in
    elim c.match-take_run.branch [
      | in-Empty w ↦
          let held : c.match-take_run.self-inside.pending ≡ c.take_run.new.self = search rules in
          let found = subst (λ (f : Found). consumers.HasFoundRun c.min-most.result c.self.inside.pending c.take_run.new.self f) w.in-Empty.is e.found in
          inr (looked_ahead Empty room c.min-most.ensures c.self.view_is held w.result-is found e.again e.ring (none_given found.1 w.buffer-is w.count-is))
      | in-Drained w ↦
          let held : c.match-take_run.self-inside.pending ≡ c.take_run.new.self = search rules in
          let found = subst (λ (f : Found). consumers.HasFoundRun c.min-most.result c.self.inside.pending c.take_run.new.self f) w.in-Drained.is e.found in
          inr (looked_ahead Drained room c.min-most.ensures c.self.view_is held w.result-is found e.again e.ring (none_given found.1 w.buffer-is w.count-is))
      | in-Unwritten w ↦
          let held : c.match-take_run.self-inside.pending ≡ c.take_run.new.self = search rules in
          let found = subst (λ (f : Found). consumers.HasFoundRun c.min-most.result c.self.inside.pending c.take_run.new.self f) w.in-Unwritten.is e.found in
          inr (looked_ahead Unwritten room c.min-most.ensures c.self.view_is held w.result-is found e.again e.ring (none_given found.1 w.buffer-is w.count-is))
      | in-Ready w ↦
          let held : c.match-take_run.self-inside.pending ≡ c.take_run.new.self = search rules in
          let found = subst (λ (f : Found). consumers.HasFoundRun c.min-most.result c.self.inside.pending c.take_run.new.self f) w.in-Ready.is e.found in
          inr (looked_ahead Ready room c.min-most.ensures c.self.view_is held w.result-is found e.again e.ring (w.count-is ∙ w.tell.ensures.count, w.buffer-is ∙ w.tell.ensures.told))
    ]
