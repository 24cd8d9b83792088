use Rattle.std.proofs.Common.{ℕ, List, ◌++◌, length, subst, sym, ap, ap₂, ◌∙◌, arith}
use Rattle.cmdcodec.specs.declared.raw.Raw.{Raw}
use Rattle.qindex.specs.Positions.{IndexValue}
use Rattle.qindex.specs.Indexes.{distance}
use Rattle.hardware_queue.specs.Queues.{QueueValue, MayShow, in_memory}
use Rattle.shadow_queue.proofs.Shadowing.{shadow_shown}
use Rattle.shadow_queue.proofs.shadow_queue.ShadowQueueCommandQueue.show_prod.Goals as goal

pub invariant_of-self : goal.invariant_of-self
invariant_of-self c =
    let is = c.self.invariant in
    let may = subst (λ (q : QueueValue). MayShow c.args.prod q) (sym c.self.view_is) c.requires in
    let found = rw c.unwrap-index.ensures at c.new.ensures in
    let index = found.1 ∙ ap (λ (g : ℕ). record { geometry = g; number = c.args.prod }) c.geometry.ensures in
    let count = c.distance-count.ensures.value ∙ ap₂ (λ (i j : IndexValue). distance i j) index is.indexes.prod_is in
    let room = may.room in
    let shown = c.note_shown.ensures ∙ ap (λ (m : List Raw). c.self.inside.shown ++ in_memory c.self.inside.prod.geometry m (length c.self.inside.shown) c.distance-count.result) c.as_slice.ensures.value in
    let next = c.forward-self-inside.ensures.position _ _ is.indexes.prod_is in
    shadow_shown c.memory_stands.ensures.shown _ _ _ c.forward-self-inside.result c.distance-count.result c.note_shown.new.shown is shown (omega (arith, room, count)) next
