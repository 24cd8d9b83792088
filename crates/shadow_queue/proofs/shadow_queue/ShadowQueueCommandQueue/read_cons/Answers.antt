use Rattle.std.proofs.Common.{ap, arith}
use Rattle.qindex.specs.Positions.{IndexValue, size}
use Rattle.shadow_queue.proofs.Shadowing.{shadow_consumed, some_found, found, read_says}
use Rattle.shadow_queue.proofs.shadow_queue.ShadowQueueCommandQueue.read_cons.Goals as goal

pub unwrap-count-requires : goal.unwrap-count-requires
unwrap-count-requires c = some_found _ _ _ c.newly_consumed.result c.newly_consumed.ensures c.self.invariant

pub forward-self-inside-requires : goal.forward-self-inside-requires
forward-self-inside-requires c =
    let few = (found _ _ _ _ c.unwrap-count.result c.newly_consumed.ensures c.self.invariant c.unwrap-count.ensures).few in
    let s = ap (λ (i : IndexValue). size i.geometry) c.self.invariant.indexes.cons_is in
    record { steps = omega (arith, few, s) }

pub overflow_add-self : goal.overflow_add-self
overflow_add-self c =
    let fits = (found _ _ _ _ c.unwrap-count.result c.newly_consumed.ensures c.self.invariant c.unwrap-count.ensures).fits in
    let same = c.from.ensures in
    omega (arith, fits, same)

pub invariant_of-self : goal.invariant_of-self
invariant_of-self c =
    let is = found _ _ _ _ c.unwrap-count.result c.newly_consumed.ensures c.self.invariant c.unwrap-count.ensures in
    rw c.from.ensures (rw c.add.ensures (shadow_consumed _ _ _ _ c.unwrap-count.result c.self.invariant is.count_is (c.forward-self-inside.ensures.position _ _ c.self.invariant.indexes.cons_is)))

pub returns : goal.returns
returns c =
    let is = found _ _ _ _ c.unwrap-count.result c.newly_consumed.ensures c.self.invariant c.unwrap-count.ensures in
    rw (← c.self.view_is) (rw c.from.ensures (rw c.add.ensures (read_says _ _ _ c.unwrap-count.result c.self.invariant is.count_is)))
