use Rattle.std.proofs.Common.{subst, sym}
use Rattle.ring.specs.sender.GoingOn.{WentOn}
use Rattle.ring.proofs.SenderLemmas.GoingOn.{on_again}
use Rattle.detachment.specs.Changes.{ChangeValue}
use Rattle.detachment.proofs.OrderLemmas.{told_changed}
use Rattle.detachment.proofs.changing.Stage2Changing.look.Goals as goal

pub returns-then-not-done-clause-may_look : goal.returns-then-not-done-clause-may_look
returns-then-not-done-clause-may_look c =
    on_again c.requires.same_sender record { grew = c.is_done-done.ensures.history; ring_is = c.is_done-done.ensures.ring; number_is = c.is_done-done.ensures.id }

pub invariant_of-changed : goal.invariant_of-changed
invariant_of-changed c =
    rw c.of.ensures
    (told_changed record { numbered = c.world_law.ensures.numbered; advanced_is = c.consumer_trail.ensures.advanced; outcomes = c.consumer_trail.ensures.taken }
    c.is_done-done.new.self c.trail_stands_in_a_run.ensures.history c.args.sender.now
    record { grew = c.is_done-done.ensures.history; ring_is = c.is_done-done.ensures.ring; number_is = c.is_done-done.ensures.id }
    record { change = c.self.inside.change; sync = c.self.inside.receipt; sender = c.self.inside.sent.value }
    (subst (λ (v : ChangeValue). WentOn v.sender c.args.sender.now) (sym c.self.view_is) c.requires.same_sender)
    c.self.invariant (c.is_done-done.ensures.told c.if-not-done.false))
