use Rattle.std.proofs.Common.{sym, subst}
use Rattle.ringcore.specs.machine.ConsumerViews.{ConsumerValue, ConsumerKnows}
use Rattle.ringcore.proofs.MachineLemmas.ConsumerKnows.{tested_known}
use Rattle.ringcore.proofs.machine.consumer_view.ConsumerView.tests.Goals as goal

pub returns : goal.returns
returns c = λ run limit known.
    let view : ConsumerValue = record { taken = c.self.inside.taken; found = c.self.inside.found; read = c.self.inside.read } in
    tested_known run view c.forget.new.self limit c.args.found c.forget.ensures.same.taken_is c.forget.ensures.same.found_is c.forget.ensures.unread (subst (ConsumerKnows run) (sym c.self.view_is) known)
