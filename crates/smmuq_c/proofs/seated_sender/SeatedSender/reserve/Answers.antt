use Rattle.std.proofs.Common.{◌≡◌, List, rules, true, subst, ◌∙◌}
use Rattle.cmdcodec.specs.declared.raw.Raw.{Raw}
use Rattle.batch.specs.Refusals.{list_refusal}
use Rattle.ring.specs.sender.Sending.{IsReservedWithin, IsGivenUp}
use Rattle.smmuq_c.proofs.Sending.{lent, opened, remade, unreserved}
use Rattle.smmuq_c.proofs.seated_sender.SeatedSender.reserve.Goals as goal

pub returns-in-Ok-clause-opened : goal.returns-in-Ok-clause-opened
returns-in-Ok-clause-opened c =
    let made = remade (list_refusal c.args.commands.now) c.args.commands.now _ _ c.in_default.ensures.answer in
    let batch : c.as_borrowed.result ≡ c.args.commands.now = search rules in
    let e = c.in-Ok.ensures in
    opened c.args.commands.now c.args.tries made c.max.ensures (lent c.unwrap-sender.ensures c.self.view_is) (c.new.ensures ∙ c.unbind-reservation.ensures)
    (subst (λ (b : List Raw). IsReservedWithin b true c.max.result c.unwrap-sender.result c.in-Ok.reservation) batch e.reserved)
    e.opened

pub returns-in-Err-reserve_within-clause-refused : goal.returns-in-Err-reserve_within-clause-refused
returns-in-Err-reserve_within-clause-refused c =
    let made = remade (list_refusal c.args.commands.now) c.args.commands.now _ _ c.in_default.ensures.answer in
    let batch : c.as_borrowed.result ≡ c.args.commands.now = search rules in
    let same : c.unwrap-sender.result ≡ c.args.self = lent c.unwrap-sender.ensures c.self.view_is in
    let e = c.in-Err-reserve_within.ensures in
    let refused = c.in-Err-reserve_within.field-0 in
    unreserved c.args.commands.now c.args.tries refused.cause made c.max.ensures same c.new-in-Err-reserve_within.ensures
    (subst (λ (b : List Raw). IsGivenUp b true c.max.result c.unwrap-sender.result refused.cause refused.sender) batch e.refused)
    e.given_back
