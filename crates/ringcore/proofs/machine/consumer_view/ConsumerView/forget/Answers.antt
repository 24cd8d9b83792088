use Rattle.std.proofs.Common.{◌≡◌, ◌++◌, List, drop, sym, ap, ◌∙◌, subst}
use Rattle.std.specs.Prelude.{replicate}
use Rattle.ringcore.specs.declared.machine.consumer_view.ReadHalves.{ReadHalves}
use Rattle.ringcore.specs.machine.ConsumerViews.{unread, AreUnread, AreReadBelow}
use Rattle.ringcore.proofs.MachineLemmas.ConsumerKnows.{length_below, cleared, cleared_below}
use Rattle.ringcore.proofs.machine.consumer_view.ConsumerView.forget.Goals as goal

pub invariant_of-self : goal.invariant_of-self
invariant_of-self c =
    let end = c.self.inside.read_end in
    let read = c.self.inside.read in
    let is : c.fill.new.self ≡ replicate end unread = c.fill.ensures.after (λ y same. same) ∙ ap (λ n. replicate n unread) (length_below end read c.self.invariant) in
    subst (λ (front : List ReadHalves). AreReadBelow 0 (front ++ drop end read)) (sym is) (cleared_below end read c.self.invariant)

pub returns-clause-unread : goal.returns-clause-unread
returns-clause-unread c =
    let end = c.self.inside.read_end in
    let read = c.self.inside.read in
    let is : c.fill.new.self ≡ replicate end unread = c.fill.ensures.after (λ y same. same) ∙ ap (λ n. replicate n unread) (length_below end read c.self.invariant) in
    subst (λ (front : List ReadHalves). AreUnread (front ++ drop end read)) (sym is) (cleared end read c.self.invariant)
