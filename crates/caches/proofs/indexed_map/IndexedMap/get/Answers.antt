use Rattle.std.proofs.Common.{◌≡◌, ◌∙◌, Bool, true, false, refl, sym, ap, cond, Some, None}
use Rattle.std.specs.BTreeMap.{get}
use Rattle.caches.specs.declared.slot.Slot.TheVariants.{Unnoted, Newest}
use Rattle.caches.specs.Slots.{slot_of, IsSlot}
use Rattle.caches.proofs.KeyOrder.{key_cmp}
use Rattle.caches.proofs.Indexed.{slot_read, noted_found, none_found, no_other}
use Rattle.caches.proofs.indexed_map.IndexedMap.get.Goals as goal

pub returns-in-Some : goal.returns-in-Some
returns-in-Some c =
    let m = c.args.self.now.ordered in
    let k = c.of-rank.result in
    let slot : IsSlot key_cmp c.args.self.now.shift m (slot_of c.args.self.now.shift k) (Newest c.in-Some-Newest.others c.in-Some-Newest.noted) =
    slot_read c.args.self.now.shift m c.args.self.now.slots.items c.deref.result.now k c.slot.result c.in-Some-Newest.field-0.now _ c.args.self.now.indexed c.deref.ensures.value c.slot.ensures c.in-Some-Newest.ensures.lookup.0 c.in-Some-Newest.ensures.lookup.1 c.in-Some-Newest.field-0-is in
    noted_found c.args.self.now.shift m k c.in-Some-Newest.others c.in-Some-Newest.noted c.in-Some.entry slot (sym c.entry_at.ensures ∙ c.in-Some.is) ∙ ap (get key_cmp m) c.of-rank.ensures.key

not_noted : {X : Type 0} (b : Bool) (x : X) → cond b (Some x) None ≡ None → b ≡ false
not_noted true x e = cc
not_noted false x e = refl

pub returns-in-None : goal.returns-in-None
returns-in-None c =
    let m = c.args.self.now.ordered in
    let k = c.of-rank.result in
    let slot : IsSlot key_cmp c.args.self.now.shift m (slot_of c.args.self.now.shift k) (Newest c.in-Some-Newest.others c.in-Some-Newest.noted) =
    slot_read c.args.self.now.shift m c.args.self.now.slots.items c.deref.result.now k c.slot.result c.in-Some-Newest.field-0.now _ c.args.self.now.indexed c.deref.ensures.value c.slot.ensures c.in-Some-Newest.ensures.lookup.0 c.in-Some-Newest.ensures.lookup.1 c.in-Some-Newest.field-0-is in
    sym (ap (get key_cmp m) (sym c.of-rank.ensures.key) ∙ no_other c.args.self.now.shift m k c.in-Some-Newest.others c.in-Some-Newest.noted slot c.if-others-eq0.true (not_noted _ _ (sym c.entry_at.ensures ∙ c.in-None.is)))

pub returns-in-Some-Unnoted : goal.returns-in-Some-Unnoted
returns-in-Some-Unnoted c =
    let m = c.args.self.now.ordered in
    let k = c.of-rank.result in
    let slot : IsSlot key_cmp c.args.self.now.shift m (slot_of c.args.self.now.shift k) (Unnoted c.in-Some-Unnoted.all) =
    slot_read c.args.self.now.shift m c.args.self.now.slots.items c.deref.result.now k c.slot.result c.in-Some-Unnoted.field-0.now _ c.args.self.now.indexed c.deref.ensures.value c.slot.ensures c.in-Some-Unnoted.ensures.lookup.0 c.in-Some-Unnoted.ensures.lookup.1 c.in-Some-Unnoted.field-0-is in
    sym (ap (get key_cmp m) (sym c.of-rank.ensures.key) ∙ none_found c.args.self.now.shift m k (Unnoted c.in-Some-Unnoted.all) slot c.if-all-eq0.true)
