use Rattle.std.proofs.Common.{refl, subst}
use Rattle.smmuq_c.specs.declared.tags.TagWords.{TagWords}
use Rattle.smmuq_c.specs.TrackingCalls.{FillsWalked}
use Rattle.smmuq_c.proofs.Objects.{called}
use Rattle.smmuq_c.proofs.tracking_calls.smmuq_fill_walked.Goals as goal

pub returns : goal.returns
returns c =
    let f = c.fill_walked in
    called _ c.in-Some.ensures.lent refl c.number-2.ensures
    (subst (λ (words : TagWords). FillsWalked c.args.walk words c.args.value c.in-Some.object.now f.new.object f.result) c.read-tag.ensures f.ensures)
