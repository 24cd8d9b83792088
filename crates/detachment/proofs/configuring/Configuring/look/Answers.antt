use Rattle.std.proofs.Common.{subst, sym, ap, ◌∙◌}
use Rattle.ring.specs.sender.Senders.{ReceiptValue}
use Rattle.ring.specs.table.Histories.{AreApplied}
use Rattle.ring.proofs.SenderLemmas.GoingOn.{on_again}
use Rattle.detachment.specs.Commands.{has_ats}
use Rattle.detachment.specs.Values.{ConfigurationValue, IsConfiguring}
use Rattle.detachment.proofs.OrderLemmas.{told_configured, told_uncached}
use Rattle.detachment.proofs.configuring.Configuring.look.Goals as goal

pub returns-then-not-done-clause-may_look : goal.returns-then-not-done-clause-may_look
returns-then-not-done-clause-may_look c =
    on_again c.requires.same_sender record { grew = c.is_done-done.ensures.history; ring_is = c.is_done-done.ensures.ring; number_is = c.is_done-done.ensures.id }

pub configured-configured-requires : goal.configured-configured-requires
configured-configured-requires c =
    told_configured record { numbered = c.world_law.ensures.numbered; advanced_is = c.consumer_trail.ensures.advanced; outcomes = c.consumer_trail.ensures.taken }
    c.is_done-done.new.self c.trail_stands_in_a_run.ensures.history c.args.sender.now
    record { grew = c.is_done-done.ensures.history; ring_is = c.is_done-done.ensures.ring; number_is = c.is_done-done.ensures.id }
    c.args.self c.requires.same_sender (subst IsConfiguring c.self.view_is c.self.invariant)
    (subst (λ (r : ReceiptValue). AreApplied c.is_done-done.new.self.history c.args.sender.now.number r.number) (ap (λ (v : ConfigurationValue). v.configuration) c.self.view_is)
    (c.is_done-done.ensures.told c.if-not-done.false))
    (sym (ap (λ (v : ConfigurationValue). has_ats v.stream) c.self.view_is) ∙ (sym c.has_ats.ensures ∙ c.if-has_ats.true))

pub detached-detached-requires : goal.detached-detached-requires
detached-detached-requires c =
    told_uncached record { numbered = c.world_law.ensures.numbered; advanced_is = c.consumer_trail.ensures.advanced; outcomes = c.consumer_trail.ensures.taken }
    c.is_done-done.new.self c.trail_stands_in_a_run.ensures.history c.args.sender.now
    record { grew = c.is_done-done.ensures.history; ring_is = c.is_done-done.ensures.ring; number_is = c.is_done-done.ensures.id }
    c.args.self c.requires.same_sender (subst IsConfiguring c.self.view_is c.self.invariant)
    (subst (λ (r : ReceiptValue). AreApplied c.is_done-done.new.self.history c.args.sender.now.number r.number) (ap (λ (v : ConfigurationValue). v.configuration) c.self.view_is)
    (c.is_done-done.ensures.told c.if-not-done.false))
    (sym (ap (λ (v : ConfigurationValue). has_ats v.stream) c.self.view_is) ∙ (sym c.has_ats.ensures ∙ c.if-has_ats.false))
