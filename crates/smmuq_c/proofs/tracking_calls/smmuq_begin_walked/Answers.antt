use Rattle.std.proofs.Common.{refl, subst}
use Rattle.smmuq_c.specs.declared.tags.TagWords.{TagWords}
use Rattle.smmuq_c.specs.TrackingCalls.{BeginsWalked}
use Rattle.smmuq_c.proofs.Objects.{called}
use Rattle.smmuq_c.proofs.tracking_calls.smmuq_begin_walked.Goals as goal

pub returns-clause-called : goal.returns-clause-called
returns-clause-called c =
    let b = c.begin_walked in
    called _ c.in-Some.ensures.lent refl c.number-2.ensures
    (subst (λ (words : TagWords). BeginsWalked c.args.walk words b.new.transaction c.in-Some.object.now b.new.object b.result) c.read-tag.ensures b.ensures.called)
