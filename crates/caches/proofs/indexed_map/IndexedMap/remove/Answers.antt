use Rattle.std.proofs.Common.{◌∙◌, ◌<◌, ◌≤◌, sym, subst, length}
use Rattle.caches.proofs.Indexed.{slot_at, counted, others, taken_at, taken_unset, unchanged_indexed}
use Rattle.caches.proofs.indexed_map.IndexedMap.remove.Goals as goal

pub take_out-requires-clause-counted : goal.take_out-requires-clause-counted
take_out-requires-clause-counted c =
    let slot = slot_at c.args.self.now.shift c.args.self.now.ordered c.args.self.now.slots.items c.args.rank c.slot-place.result c.index_mut.result.now c.args.self.now.indexed c.slot-place.ensures
    (subst (λ n. c.slot-place.result < n) (c.len.ensures ∙ c.args.self.now.slots.ok.0) c.if-place-len.true) c.index_mut.ensures.value in
    counted c.args.self.now.shift c.args.self.now.ordered c.args.rank c.index_mut.result.now slot (sym c.remove_in_order-was_there.ensures.was_there ∙ c.if-was_there.true)

pub take_out-requires-clause-others : goal.take_out-requires-clause-others
take_out-requires-clause-others c =
    let slot = slot_at c.args.self.now.shift c.args.self.now.ordered c.args.self.now.slots.items c.args.rank c.slot-place.result c.index_mut.result.now c.args.self.now.indexed c.slot-place.ensures
    (subst (λ n. c.slot-place.result < n) (c.len.ensures ∙ c.args.self.now.slots.ok.0) c.if-place-len.true) c.index_mut.ensures.value in
    others c.args.self.now.shift c.args.self.now.ordered c.args.rank c.index_mut.result.now slot (sym c.remove_in_order-was_there.ensures.was_there ∙ c.if-was_there.true)

pub invariant_of-self-clause-indexed : goal.invariant_of-self-clause-indexed
invariant_of-self-clause-indexed c = taken_at c.args.self.now.shift c.args.self.now.ordered c.remove_in_order-was_there.new.ordered c.args.rank (sym c.remove_in_order-was_there.ensures.was_there ∙ c.if-was_there.true) c.remove_in_order-was_there.ensures.taken_out.entries c.remove_in_order-was_there.ensures.taken_out.updates c.args.self.now.slots.items c.slot-place.result c.index_mut.result.now c.take_out.new.self c.args.self.now.indexed c.slot-place.ensures
    (subst (λ n. c.slot-place.result < n) (c.len.ensures ∙ c.args.self.now.slots.ok.0) c.if-place-len.true) c.index_mut.ensures.value c.take_out.ensures.size c.take_out.ensures.noted

pub invariant_of-self-else-place-len-clause-indexed : goal.invariant_of-self-else-place-len-clause-indexed
invariant_of-self-else-place-len-clause-indexed c = taken_unset c.args.self.now.shift c.args.self.now.ordered c.remove_in_order-was_there.new.ordered c.args.rank (sym c.remove_in_order-was_there.ensures.was_there ∙ c.if-was_there.true) c.remove_in_order-was_there.ensures.taken_out.entries c.remove_in_order-was_there.ensures.taken_out.updates c.args.self.now.slots.items c.args.self.now.indexed
    (subst (λ i. length c.args.self.now.slots.items ≤ i) c.slot-place.ensures (subst (λ n. n ≤ c.slot-place.result) (c.len.ensures ∙ c.args.self.now.slots.ok.0) c.if-place-len.false))

pub invariant_of-self-else-was_there-clause-indexed : goal.invariant_of-self-else-was_there-clause-indexed
invariant_of-self-else-was_there-clause-indexed c = unchanged_indexed c.args.self.now.shift c.args.self.now.ordered c.remove_in_order-was_there.new.ordered (c.remove_in_order-was_there.ensures.unchanged c.if-was_there.false) c.args.self.now.slots.items c.args.self.now.indexed
