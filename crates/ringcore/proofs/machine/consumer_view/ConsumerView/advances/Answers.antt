use Rattle.std.proofs.Common.{sym, subst, ◌∙◌}
use Rattle.ringcore.specs.machine.ConsumerViews.{ConsumerValue, ConsumerKnows}
use Rattle.ringcore.proofs.MachineLemmas.ConsumerKnows.{advanced_known}
use Rattle.ringcore.proofs.machine.consumer_view.ConsumerView.advances.Goals as goal

pub returns : goal.returns
returns c = λ run raws long known.
    let view : ConsumerValue = record { taken = c.self.inside.taken; found = c.self.inside.found; read = c.self.inside.read } in
    advanced_known run view c.forget.new.self c.from.result raws (long ∙ sym c.from.ensures) c.forget.ensures.same.taken_is c.forget.ensures.same.found_is c.forget.ensures.unread (subst (ConsumerKnows run) (sym c.self.view_is) known)
