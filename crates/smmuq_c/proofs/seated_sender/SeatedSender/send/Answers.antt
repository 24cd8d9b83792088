use Rattle.std.proofs.Common.{◌≡◌, sym, ◌∙◌}
use Rattle.smmuq_c.proofs.Sending.{lent, went_on, sent}
use Rattle.smmuq_c.proofs.seated_sender.SeatedSender.send.Goals as goal

pub returns-in-Ok-send_borrowed-clause-sent : goal.returns-in-Ok-send_borrowed-clause-sent
returns-in-Ok-send_borrowed-clause-sent c =
    let same : c.unwrap-sender.result ≡ c.args.self.now = lent (sym c.take.ensures.value ∙ c.unwrap-sender.ensures) c.self.view_is in
    let e = c.in-Ok-send_borrowed.ensures in
    sent c.args.commands.now c.args.tries c.in-Ok.ensures c.max.ensures same e.sent c.number.ensures (went_on same e.went_on)
