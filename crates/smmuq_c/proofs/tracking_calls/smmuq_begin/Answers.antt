use Rattle.std.proofs.Common.{refl, subst}
use Rattle.smmuq_c.specs.declared.tags.TagWords.{TagWords}
use Rattle.smmuq_c.specs.TrackingCalls.{Begins}
use Rattle.smmuq_c.proofs.Objects.{called}
use Rattle.smmuq_c.proofs.tracking_calls.smmuq_begin.Goals as goal

pub returns-clause-called : goal.returns-clause-called
returns-clause-called c =
    let b = c.begin in
    called _ c.in-Some.ensures.lent refl c.number-2.ensures
    (subst (λ (words : TagWords). Begins words b.new.held b.new.transaction c.in-Some.object.now b.new.object b.result) c.read-tag.ensures b.ensures.called)
