use Rattle.std.proofs.Common.{ℕ, ◌∷◌, subst, sym, ap, ◌∙◌}
use Rattle.engine.specs.Counting.{taken}
use Rattle.unit_queue.specs.Queued.{Queued}
use Rattle.hardware_queue.specs.Queues.{IsOfIllegal}
use Rattle.unit_queue.proofs.Meeting.{queued_overwritten}
use Rattle.unit_queue.proofs.unit_queue.UnitQueueCommandQueue.overwrite.Goals as goal

pub invariant_of-self : goal.invariant_of-self
invariant_of-self c =
    let of = subst (λ (u : Queued). IsOfIllegal u.queue c.args.slot) (sym c.self.view_is) c.requires in
    queued_overwritten c.memory_stands.ensures.overwritten _ _ _ _ c.args.slot _ c.self.invariant of.there
    (c.add.ensures ∙ ap (λ (n : ℕ). n ∷ c.self.inside.lost) (c.taken.ensures.value ∙ ap taken c.counts.ensures))
