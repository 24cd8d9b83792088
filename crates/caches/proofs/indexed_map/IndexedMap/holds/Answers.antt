use Rattle.std.proofs.Common.{◌∙◌, sym, ap, arith, is_some}
use Rattle.std.proofs.lemmas.Bool.{le-ltb}
use Rattle.caches.specs.declared.slot.Slot.TheVariants.{Unnoted, Newest}
use Rattle.caches.specs.Slots.{slot_of, IsSlot}
use Rattle.caches.proofs.KeyOrder.{key_cmp}
use Rattle.caches.proofs.Indexed.{slot_read, noted_holds, none_found, no_other}
use Rattle.caches.proofs.indexed_map.IndexedMap.holds.Goals as goal

pub returns-then-eq : goal.returns-then-eq
returns-then-eq c =
    let m = c.args.self.now.ordered in
    let slot : IsSlot key_cmp c.args.self.now.shift m (slot_of c.args.self.now.shift c.args.rank) (Newest c.in-Some-Newest.others c.in-Some-Newest.noted) =
    slot_read c.args.self.now.shift m c.args.self.now.slots.items c.deref.result.now c.args.rank c.slot.result c.in-Some-Newest.field-0.now _ c.args.self.now.indexed c.deref.ensures.value c.slot.ensures c.in-Some-Newest.ensures.lookup.0 c.in-Some-Newest.ensures.lookup.1 c.in-Some-Newest.field-0-is in
    c.if-eq.true ∙ sym (noted_holds c.args.self.now.shift m c.args.rank c.in-Some-Newest.others c.in-Some-Newest.noted slot (sym c.eq.ensures ∙ c.if-eq.true))

pub returns-else-others-gt0 : goal.returns-else-others-gt0
returns-else-others-gt0 c =
    let m = c.args.self.now.ordered in
    let slot : IsSlot key_cmp c.args.self.now.shift m (slot_of c.args.self.now.shift c.args.rank) (Newest c.in-Some-Newest.others c.in-Some-Newest.noted) =
    slot_read c.args.self.now.shift m c.args.self.now.slots.items c.deref.result.now c.args.rank c.slot.result c.in-Some-Newest.field-0.now _ c.args.self.now.indexed c.deref.ensures.value c.slot.ensures c.in-Some-Newest.ensures.lookup.0 c.in-Some-Newest.ensures.lookup.1 c.in-Some-Newest.field-0-is in
    le-ltb 0 c.in-Some-Newest.others c.if-others-gt0.false ∙ sym (ap is_some (no_other c.args.self.now.shift m c.args.rank c.in-Some-Newest.others c.in-Some-Newest.noted slot (omega (arith, c.if-others-gt0.false)) (sym c.eq.ensures ∙ c.if-eq.false)))

pub returns-else-all-gt0 : goal.returns-else-all-gt0
returns-else-all-gt0 c =
    let m = c.args.self.now.ordered in
    let slot : IsSlot key_cmp c.args.self.now.shift m (slot_of c.args.self.now.shift c.args.rank) (Unnoted c.in-Some-Unnoted.all) =
    slot_read c.args.self.now.shift m c.args.self.now.slots.items c.deref.result.now c.args.rank c.slot.result c.in-Some-Unnoted.field-0.now _ c.args.self.now.indexed c.deref.ensures.value c.slot.ensures c.in-Some-Unnoted.ensures.lookup.0 c.in-Some-Unnoted.ensures.lookup.1 c.in-Some-Unnoted.field-0-is in
    le-ltb 0 c.in-Some-Unnoted.all c.if-all-gt0.false ∙ sym (ap is_some (none_found c.args.self.now.shift m c.args.rank (Unnoted c.in-Some-Unnoted.all) slot (omega (arith, c.if-all-gt0.false))))
