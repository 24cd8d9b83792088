use Rattle.std.proofs.Common.{◌≡◌, sym, ◌∙◌}
use Rattle.smmuq_c.proofs.Sending.{lent, went_on, sent_bare}
use Rattle.smmuq_c.proofs.seated_sender.SeatedSender.send_bare.Goals as goal

pub returns-in-Ok-send_borrowed_bare : goal.returns-in-Ok-send_borrowed_bare
returns-in-Ok-send_borrowed_bare c =
    let same : c.unwrap-sender.result ≡ c.args.self.now = lent (sym c.take.ensures.value ∙ c.unwrap-sender.ensures) c.self.view_is in
    let e = c.in-Ok-send_borrowed_bare.ensures in
    sent_bare c.args.commands.now c.args.tries c.in-Ok.ensures c.max.ensures same e.sent (went_on same e.went_on)
