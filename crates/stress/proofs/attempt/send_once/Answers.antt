use Rattle.std.proofs.Common.{Bool, true, false, sym, ap, ◌∙◌, subst, refl}
use Rattle.stress.specs.declared.attempt.Attempt.TheVariants.{Refused, Sent, SentBare}
use Rattle.ring.specs.sender.Reservations.{reserved_number}
use Rattle.stress.specs.Workers.{HasTried}
use Rattle.stress.proofs.Tried.{refused_none, won, reserved_one}
use Rattle.stress.proofs.attempt.send_once.Goals as goal

pub returns-in-Ok-clause-tried : goal.returns-in-Ok-clause-tried
returns-in-Ok-clause-tried c =
    let reserved = c.in-Ok.ensures.reserved in
    let receipt = c.publish-sender.ensures.receipt in
    subst (λ (closes : Bool). HasTried c.args.batch.now closes c.args.sender c.publish-sender.result.0 (Sent c.publish-sender.result.1)) (sym c.if-closes.true) (
      reserved_one c.args.batch.now true c.args.sender c.in-Ok.reservation reserved c.publish-sender.result.0 c.publish-sender.ensures.batches,
      receipt.sender_is ∙ c.in-Ok.ensures.opened.number_is,
      sym (ap reserved_number (won c.args.batch.now true c.args.sender c.in-Ok.reservation reserved)) ∙ receipt.number_is,
    )

pub returns-in-Err-clause-tried : goal.returns-in-Err-clause-tried
returns-in-Err-clause-tried c =
    subst (λ (closes : Bool). HasTried c.args.batch.now closes c.args.sender c.in-Err.refused.sender Refused) (sym c.if-closes.true) (
      refused_none c.args.batch.now true c.args.sender c.in-Err.refused.cause c.in-Err.refused.sender c.in-Err.ensures.refused,
      (c.in-Err.refused.cause, c.in-Err.ensures.refused),
    )

pub returns-in-Ok-reserve_bare-clause-tried : goal.returns-in-Ok-reserve_bare-clause-tried
returns-in-Ok-reserve_bare-clause-tried c =
    subst (λ (closes : Bool). HasTried c.args.batch.now closes c.args.sender c.publish.result SentBare) (sym c.if-closes.false)
    (reserved_one c.args.batch.now false c.args.sender c.in-Ok-reserve_bare.reservation c.in-Ok-reserve_bare.ensures.reserved c.publish.result c.publish.ensures.batches, refl)

pub returns-in-Err-reserve_bare-clause-tried : goal.returns-in-Err-reserve_bare-clause-tried
returns-in-Err-reserve_bare-clause-tried c =
    subst (λ (closes : Bool). HasTried c.args.batch.now closes c.args.sender c.in-Err-reserve_bare.refused.sender Refused) (sym c.if-closes.false) (
      refused_none c.args.batch.now false c.args.sender c.in-Err-reserve_bare.refused.cause c.in-Err-reserve_bare.refused.sender c.in-Err-reserve_bare.ensures.refused,
      (c.in-Err-reserve_bare.refused.cause, c.in-Err-reserve_bare.ensures.refused),
    )
