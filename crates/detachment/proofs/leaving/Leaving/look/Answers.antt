use Rattle.std.proofs.Common.{subst, sym}
use Rattle.ring.specs.sender.GoingOn.{WentOn}
use Rattle.ring.proofs.SenderLemmas.GoingOn.{on_again}
use Rattle.detachment.specs.Values.{EndpointValue}
use Rattle.detachment.proofs.OrderLemmas.{told_detached}
use Rattle.detachment.proofs.leaving.Leaving.look.Goals as goal

pub returns-then-not-done-clause-may_look : goal.returns-then-not-done-clause-may_look
returns-then-not-done-clause-may_look c =
    on_again c.requires.same_sender record { grew = c.is_done-done.ensures.history; ring_is = c.is_done-done.ensures.ring; number_is = c.is_done-done.ensures.id }

pub invariant_of-detached : goal.invariant_of-detached
invariant_of-detached c =
    rw c.of.ensures
    (told_detached record { numbered = c.world_law.ensures.numbered; advanced_is = c.consumer_trail.ensures.advanced; outcomes = c.consumer_trail.ensures.taken }
    c.is_done-done.new.self c.trail_stands_in_a_run.ensures.history c.args.sender.now
    record { grew = c.is_done-done.ensures.history; ring_is = c.is_done-done.ensures.ring; number_is = c.is_done-done.ensures.id }
    record { stream = c.self.inside.stream; configuration = c.self.inside.configuration; endpoint = c.self.inside.endpoint; sender = c.self.inside.sent.value }
    (subst (λ (v : EndpointValue). WentOn v.sender c.args.sender.now) (sym c.self.view_is) c.requires.same_sender)
    c.self.invariant (c.is_done-done.ensures.told c.if-not-done.false))
