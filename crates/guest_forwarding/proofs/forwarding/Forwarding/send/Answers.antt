use Rattle.std.proofs.Common.{subst, sym, ◌∙◌}
use Rattle.ring.proofs.SenderLemmas.GoingOn.{on_again}
use Rattle.detachment.proofs.GoingOn.{not_at_all}
use Rattle.guest_forwarding.specs.Consumed.{Consumed}
use Rattle.guest_forwarding.specs.Values.{ForwardingValue, IsForwarding}
use Rattle.guest_forwarding.specs.Carrying.{HasConsumed}
use Rattle.guest_forwarding.proofs.SendingLemmas.{next_is, is_last}
use Rattle.guest_forwarding.proofs.CarryingLemmas.{consumed_then}
use Rattle.guest_forwarding.proofs.forwarding.Forwarding.send.Goals as goal

pub behind-requires : goal.behind-requires
behind-requires c =
    is_last _ c.args.tries c.args.sender c.in-Ok.sender c.in-Ok.receipt c.in-Ok.ensures.sent (c.in-Ok.ensures.own ∙ sym c.in-Ok.ensures.went_on.number_is)

pub returns-in-Ok-clause-kept : goal.returns-in-Ok-clause-kept
returns-in-Ok-clause-kept c =
    subst (λ (f : ForwardingValue). (d : Consumed) → HasConsumed c.args.self.now d → HasConsumed f d) (sym c.behind.ensures)
    (consumed_then c.args.self.now c.args.sender c.in-Ok.sender c.in-Ok.receipt (subst IsForwarding c.drop.view_is c.drop.invariant) c.requires.same_sender c.in-Ok.ensures.went_on
    (next_is _ c.args.tries c.args.sender c.in-Ok.sender c.in-Ok.receipt c.in-Ok.ensures.sent))

pub returns-in-Ok-clause-may_go_on : goal.returns-in-Ok-clause-may_go_on
returns-in-Ok-clause-may_go_on c = rw c.behind.ensures (not_at_all _)

pub returns-in-Err-clause-may_try_again : goal.returns-in-Err-clause-may_try_again
returns-in-Err-clause-may_try_again c = on_again c.requires.same_sender c.in-Err.ensures.given_back
