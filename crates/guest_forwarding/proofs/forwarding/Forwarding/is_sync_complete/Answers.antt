use Rattle.std.proofs.Common.{subst, sym, ap, ◌∙◌, ℕ}
use Rattle.ring.specs.table.Histories.{AreApplied}
use Rattle.ring.proofs.SenderLemmas.GoingOn.{on_again}
use Rattle.guest_forwarding.specs.Values.{ForwardingValue}
use Rattle.guest_forwarding.proofs.CarryingLemmas.{carried_out}
use Rattle.guest_forwarding.proofs.forwarding.Forwarding.is_sync_complete.Goals as goal

pub returns-in-Some-clause-carried_out : goal.returns-in-Some-clause-carried_out
returns-in-Some-clause-carried_out c told =
    carried_out record { numbered = c.world_law.ensures.numbered; advanced_is = c.consumer_trail.ensures.advanced; outcomes = c.consumer_trail.ensures.taken }
    c.is_done-done.new.self c.trail_stands_in_a_run-in-Some.ensures.history c.args.self.now c.in-Some.receipt
    (sym (ap (λ (f : ForwardingValue). f.last) c.self.view_is) ∙ c.in-Some.is)
    (on_again c.requires.same_sender record { grew = c.is_done-done.ensures.history; ring_is = c.is_done-done.ensures.ring; number_is = c.is_done-done.ensures.id })
    (subst (λ (n : ℕ). AreApplied c.is_done-done.new.self.history n c.in-Some.receipt.number) (sym c.is_done-done.ensures.id) (c.is_done-done.ensures.told told))

pub returns-in-Some-clause-may_go_on : goal.returns-in-Some-clause-may_go_on
returns-in-Some-clause-may_go_on c =
    on_again c.requires.same_sender record { grew = c.is_done-done.ensures.history; ring_is = c.is_done-done.ensures.ring; number_is = c.is_done-done.ensures.id }
