use Rattle.std.proofs.Common.{ap, sym, ◌∙◌, length, arith}
use Rattle.std.specs.Prelude.{slice_set}
use Rattle.std.proofs.lemmas.List.Edits.{map_over_more}
use Rattle.transactions.specs.Outstanding.{Slots, cover}
use Rattle.transactions.proofs.outstanding.cover_all.Goals as goal

pub loop-slot-preserved : goal.loop-slot-preserved
loop-slot-preserved c =
    ap (λ r. slice_set c.loop-slot.slot-items c.loop-slot.slot-index r) (c.cover.ensures ∙ ap (cover c.args.command.now) (sym c.slot-item.is))
    ∙ map_over_more (cover c.args.command.now) c.args.slots.now.items c.loop-slot.slot-items c.loop-slot.slot-index c.slot-item.result
    (let many = ap (λ (l : Slots). length l) c.deref_mut-slot-items.ensures.value in omega (arith, many)) c.loop-slot.invariant c.slot-item.is
