use Rattle.std.proofs.Common.{◌≡◌, sym, ap, subst, ◌∙◌}
use Rattle.std.specs.Prelude.{count_by}
use Rattle.transactions.specs.Outstanding.{Slots, is_covered, is_outstanding}
use Rattle.transactions.specs.FreeSlots.{AreOutstanding}
use Rattle.transactions.proofs.FreeSlots.{kept_covered, none_covered}
use Rattle.transactions.proofs.Covering.{blocks_covered}
use Rattle.transactions.proofs.outstanding.OutstandingTransactions.cover.Goals as goal

pub returns-then-self-eq0 : goal.returns-then-self-eq0
returns-then-self-eq0 c command spelled =
    none_covered command c.args.self.now (subst (λ (s : Slots). count_by is_outstanding s ≡ 0) c.self.view_is (sym c.self.invariant.count_is ∙ c.if-self-eq0.true))

pub invariant_of-self : goal.invariant_of-self
invariant_of-self c =
    subst (λ (s : Slots). AreOutstanding s c.self.inside.free.items c.self.inside.count c.count_covered-self-inside.result) (sym c.cover_all.ensures)
    (kept_covered c.self.inside.slots.items _ _ _ _ c.in-Ok.command c.self.invariant (blocks_covered c.in-Ok.command c.self.inside.slots.items c.self.invariant.blocks)
    (c.count_covered-self-inside.ensures ∙ ap (λ (s : Slots). count_by is_covered s) (c.deref.ensures.value ∙ c.cover_all.ensures)))
