use Rattle.std.proofs.Common.{◌≡◌, ◌∙◌, ◌<◌, ◌≤◌, ◌^◌, Bool, not, true, false, refl, sym, ap, subst, Some, None, is_some, length}
use Rattle.std.specs.BTreeMap.{Updates, insert_entry}
use Rattle.caches.specs.declared.slot.Noted.{Noted}
use Rattle.caches.specs.Slots.{entry_of}
use Rattle.caches.proofs.KeyOrder.{key_cmp}
use Rattle.caches.proofs.Indexed.{slot_at, few, counted, put_at, put_unset}
use Rattle.caches.proofs.indexed_map.IndexedMap.put.Goals as goal

twice : (b : Bool) → b ≡ not (not b)
twice true = refl
twice false = refl

pub put_in-requires-clause-counted : goal.put_in-requires-clause-counted
put_in-requires-clause-counted c = λ old.
    let slot = slot_at c.args.self.now.shift c.args.self.now.ordered c.args.self.now.slots.items c.args.rank c.slot-place.result c.index_mut.result.now c.args.self.now.indexed c.slot-place.ensures
    (subst (λ n. c.slot-place.result < n) (c.len-in-Ok.ensures ∙ c.args.self.now.slots.ok.0) c.if-place-len.true) c.index_mut.ensures.value in
    counted c.args.self.now.shift c.args.self.now.ordered c.args.rank c.index_mut.result.now slot (ap is_some (sym c.in-Ok.ensures.put.0) ∙ c.is_none.ensures ∙ ap not old)

pub put_in-requires-clause-few : goal.put_in-requires-clause-few
put_in-requires-clause-few c =
    let slot = slot_at c.args.self.now.shift c.args.self.now.ordered c.args.self.now.slots.items c.args.rank c.slot-place.result c.index_mut.result.now c.args.self.now.indexed c.slot-place.ensures
    (subst (λ n. c.slot-place.result < n) (c.len-in-Ok.ensures ∙ c.args.self.now.slots.ok.0) c.if-place-len.true) c.index_mut.ensures.value in
    few c.args.self.now.shift c.args.self.now.ordered c.args.rank c.index_mut.result.now slot (subst (λ n. n < 2 ^ 63) c.len.ensures.len c.len.ensures.small)

pub invariant_of-self-clause-indexed : goal.invariant_of-self-clause-indexed
invariant_of-self-clause-indexed c =
    let noted : Noted = record { rank = c.args.rank; value = c.args.entry.value; born = c.args.entry.born } in
    let same : c.args.entry ≡ entry_of noted = ap (λ tag. record { tag = tag; value = c.args.entry.value; born = c.args.entry.born }) c.requires in
    put_at c.args.self.now.shift c.args.self.now.ordered c.put_in_order.new.ordered noted c.in-Ok.was c.in-Ok.ensures.put.0 (subst (λ e. c.in-Ok.was ≡ None → c.put_in_order.new.ordered.entries ≡ insert_entry key_cmp c.args.self.now.ordered.entries c.args.rank e) same c.in-Ok.ensures.entries) c.in-Ok.ensures.keys_stay
    (subst (λ e. Updates key_cmp c.args.self.now.ordered c.put_in_order.new.ordered c.args.rank (Some e)) same c.in-Ok.ensures.put.1) c.args.self.now.slots.items c.slot-place.result c.index_mut.result.now c.put_in.new.self c.is_none.result c.args.self.now.indexed c.slot-place.ensures
    (subst (λ n. c.slot-place.result < n) (c.len-in-Ok.ensures ∙ c.args.self.now.slots.ok.0) c.if-place-len.true) c.index_mut.ensures.value (twice c.is_none.result ∙ ap not (sym c.is_none.ensures)) c.put_in.ensures.size c.put_in.ensures.noted

pub invariant_of-self-else-place-len-clause-indexed : goal.invariant_of-self-else-place-len-clause-indexed
invariant_of-self-else-place-len-clause-indexed c =
    let noted : Noted = record { rank = c.args.rank; value = c.args.entry.value; born = c.args.entry.born } in
    let same : c.args.entry ≡ entry_of noted = ap (λ tag. record { tag = tag; value = c.args.entry.value; born = c.args.entry.born }) c.requires in
    put_unset c.args.self.now.shift c.args.self.now.ordered c.put_in_order.new.ordered noted c.in-Ok.was c.in-Ok.ensures.put.0 (subst (λ e. c.in-Ok.was ≡ None → c.put_in_order.new.ordered.entries ≡ insert_entry key_cmp c.args.self.now.ordered.entries c.args.rank e) same c.in-Ok.ensures.entries) c.in-Ok.ensures.keys_stay
    (subst (λ e. Updates key_cmp c.args.self.now.ordered c.put_in_order.new.ordered c.args.rank (Some e)) same c.in-Ok.ensures.put.1) c.args.self.now.slots.items c.args.self.now.indexed
    (subst (λ i. length c.args.self.now.slots.items ≤ i) c.slot-place.ensures (subst (λ n. n ≤ c.slot-place.result) (c.len-in-Ok.ensures ∙ c.args.self.now.slots.ok.0) c.if-place-len.false))
