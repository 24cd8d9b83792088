use Rattle.std.proofs.Common.{◌≡◌, ◌∙◌, ◌+◌, false, true≢false, cond, refl, sym, ap, subst, arith, IsSome, Some, None}
use Rattle.std.specs.BTreeMap as tree
use Rattle.std.specs.BTreeMap.{Updates, IsUnchanged, is_at}
use Rattle.std.specs.Map.{lookup}
use Rattle.std.specs.FinMap as finite
use Rattle.caches.specs.declared.fault.CacheFault.TheVariants.{NoMemory}
use Rattle.caches.specs.EntryMaps.{unremoved}
use Rattle.caches.specs.Held.{Entries}
use Rattle.caches.specs.Keys.{span_of, tag_of}
use Rattle.caches.specs.OneStreams.{is_of_substream, HaveNoSubstreams}
use Rattle.caches.specs.Puts.{IsPut}
use Rattle.caches.specs.Spanned.{IsSpanOf}
use Rattle.caches.specs.Unlisted.{is_listed}
use Rattle.caches.proofs.EntryMaps.{put_stays}
use Rattle.caches.proofs.KeyOrder.{key_cmp}
use Rattle.caches.proofs.Pruned.{none_either}
use Rattle.caches.proofs.Viewed.{held_before, held_after, held_len, get_unlisted, key_back, none_if_not_some, tag_back, unlisted_off}
use Rattle.caches.proofs.entry_map.EntryMap.put.Goals as goal
use Rattle.caches.proofs.entry_map.EntryMap.put.Goals.{then-is_none, else-is_none, then-self, else-self}

pub overflow_add-self : goal.overflow_add-self
overflow_add-self c =
    let m = c.self.inside.map.ordered in
    let n = c.put.new.self.ordered in
    let e = c.args.entry in
    let put : (c.in-Ok.was ≡ tree.get key_cmp m c.of-rank.result) × Updates key_cmp m n c.of-rank.result (Some e) = subst (IsPut key_cmp m c.of-rank.result e n) c.in-Ok.is c.put.ensures in
    let told = c.unless_removed-held.ensures ∙ ap (λ b. cond b None c.in-Ok.was) c.take_off-was_removed.ensures.was in
    let none = none_if_not_some _ c.if-is_none.ensures in
    let room = c.requires.room (sym (held_before m n c.self.inside.removed.items c.take_off-was_removed.new.removed.items c.of-rank.result e c.in-Ok.was c.unless_removed-held.result c.args.self.now c.of-rank.ensures.key c.take_off-was_removed.ensures.rest put told c.self.view_is) ∙ none) in
    let same = ap (λ (x : Entries). finite.len x) c.self.view_is in
    omega (arith, c.self.invariant.counted, same, room)

pub invariant_of-self : goal.invariant_of-self
invariant_of-self c =
    let a = c.self.inside in
    let m = a.map.ordered in
    let n = c.put.new.self.ordered in
    let e = c.args.entry in
    let put : (c.in-Ok.was ≡ tree.get key_cmp m c.of-rank.result) × Updates key_cmp m n c.of-rank.result (Some e) = subst (IsPut key_cmp m c.of-rank.result e n) c.in-Ok.is c.put.ensures in
    let told = c.unless_removed-held.ensures ∙ ap (λ b. cond b None c.in-Ok.was) c.take_off-was_removed.ensures.was in
    let more = held_len m n a.removed.items c.take_off-was_removed.new.removed.items c.of-rank.result e c.in-Ok.was c.unless_removed-held.result (unremoved a) c.of-rank.ensures.key c.take_off-was_removed.ensures.rest put told refl
    ∙ ap (λ b. cond b (finite.len (unremoved a)) (finite.len (unremoved a) + 1)) c.if-is_none.ensures in
    let main : c.if-self.self ≡ false → (a.substreams ≡ false) × (is_of_substream e.tag ≡ false) = λ none. elim c.if-self.branch [
      | then-self w ↦ absurd (true≢false (sym w.if-self.true ∙ sym w.self-is ∙ none))
      | else-self w ↦ (w.if-self.false, sym w.is_of_substream-self-inside.ensures ∙ sym w.self-is ∙ none)
    ] in
    put_stays a (record { removed = c.take_off-was_removed.new.removed; map = c.put.new.self; len = a.len + 1; spans = c.add.new.self; substreams = c.if-self.self }) c.of-rank.result e c.self.invariant c.of-rank.ensures.key put.1
    c.requires.block c.of-rank.ensures.page c.add.ensures.kept (subst (λ s. IsSpanOf c.add.new.self s) (c.span.ensures ∙ ap span_of c.of.ensures.key) c.add.ensures.added) main
    (held_after m n a.removed.items c.take_off-was_removed.new.removed.items c.of-rank.result e c.in-Ok.was c.unless_removed-held.result (unremoved a) c.of-rank.ensures.key c.take_off-was_removed.ensures.rest put told refl) (omega (arith, c.self.invariant.counted, more))

pub invariant_of-self-else-is_none : goal.invariant_of-self-else-is_none
invariant_of-self-else-is_none c =
    let a = c.self.inside in
    let m = a.map.ordered in
    let n = c.put.new.self.ordered in
    let e = c.args.entry in
    let put : (c.in-Ok.was ≡ tree.get key_cmp m c.of-rank.result) × Updates key_cmp m n c.of-rank.result (Some e) = subst (IsPut key_cmp m c.of-rank.result e n) c.in-Ok.is c.put.ensures in
    let told = c.unless_removed-held.ensures ∙ ap (λ b. cond b None c.in-Ok.was) c.take_off-was_removed.ensures.was in
    let more = held_len m n a.removed.items c.take_off-was_removed.new.removed.items c.of-rank.result e c.in-Ok.was c.unless_removed-held.result (unremoved a) c.of-rank.ensures.key c.take_off-was_removed.ensures.rest put told refl
    ∙ ap (λ b. cond b (finite.len (unremoved a)) (finite.len (unremoved a) + 1)) c.if-is_none.ensures in
    let main : c.if-self.self ≡ false → (a.substreams ≡ false) × (is_of_substream e.tag ≡ false) = λ none. elim c.if-self.branch [
      | then-self w ↦ absurd (true≢false (sym w.if-self.true ∙ sym w.self-is ∙ none))
      | else-self w ↦ (w.if-self.false, sym w.is_of_substream-self-inside.ensures ∙ sym w.self-is ∙ none)
    ] in
    put_stays a (record { removed = c.take_off-was_removed.new.removed; map = c.put.new.self; len = a.len; spans = c.add.new.self; substreams = c.if-self.self }) c.of-rank.result e c.self.invariant c.of-rank.ensures.key put.1
    c.requires.block c.of-rank.ensures.page c.add.ensures.kept (subst (λ s. IsSpanOf c.add.new.self s) (c.span.ensures ∙ ap span_of c.of.ensures.key) c.add.ensures.added) main
    (held_after m n a.removed.items c.take_off-was_removed.new.removed.items c.of-rank.result e c.in-Ok.was c.unless_removed-held.result (unremoved a) c.of-rank.ensures.key c.take_off-was_removed.ensures.rest put told refl) (omega (arith, c.self.invariant.counted, more))

pub invariant_of-self-in-Err : goal.invariant_of-self-in-Err
invariant_of-self-in-Err c =
    let m = c.self.inside.map.ordered in
    let n = c.put.new.self.ordered in
    let k = c.of-rank.result in
    let put : (c.in-Err.fault ≡ NoMemory) × IsUnchanged m n × (tree.get key_cmp m k ≡ None) = subst (IsPut key_cmp m k c.args.entry n) c.in-Err.is c.put.ensures in
    let off = unlisted_off c.self.inside.removed.items c.take_off-was_removed.new.removed.items k c.take_off-was_removed.ensures.rest m n put.1 put.2 in
    record {
      counted = c.self.invariant.counted ∙ sym (ap (λ (x : Entries). finite.len x) off);
      keeping = λ q x there. c.self.invariant.keeping q x (ap (lookup (is_at (key_cmp q))) (sym put.1) ∙ there);
      spanned = λ q some. c.add.ensures.kept (span_of q) (c.self.invariant.spanned q (subst (λ es. IsSome (lookup (is_at (key_cmp q)) es)) put.1 some));
      main = λ none. subst HaveNoSubstreams (sym off) (c.self.invariant.main (elim c.if-self.branch [
        | then-self w ↦ absurd (true≢false (sym w.if-self.true ∙ sym w.self-is ∙ none))
        | else-self w ↦ w.if-self.false
      ]));
    }

pub returns-after-is_none : goal.returns-after-is_none
returns-after-is_none c =
    let m = c.self.inside.map.ordered in
    let n = c.put.new.self.ordered in
    let e = c.args.entry in
    let put : (c.in-Ok.was ≡ tree.get key_cmp m c.of-rank.result) × Updates key_cmp m n c.of-rank.result (Some e) = subst (IsPut key_cmp m c.of-rank.result e n) c.in-Ok.is c.put.ensures in
    let told = c.unless_removed-held.ensures ∙ ap (λ b. cond b None c.in-Ok.was) c.take_off-was_removed.ensures.was in
    let after = held_after m n c.self.inside.removed.items c.take_off-was_removed.new.removed.items c.of-rank.result e c.in-Ok.was c.unless_removed-held.result c.args.self.now c.of-rank.ensures.key c.take_off-was_removed.ensures.rest put told c.self.view_is in (
      held_before m n c.self.inside.removed.items c.take_off-was_removed.new.removed.items c.of-rank.result e c.in-Ok.was c.unless_removed-held.result c.args.self.now c.of-rank.ensures.key c.take_off-was_removed.ensures.rest put told c.self.view_is,
      elim c.if-is_none.branch [
        | then-is_none w ↦ w.self-is ∙ after
        | else-is_none w ↦ w.self-is ∙ after
      ],
    )

pub returns-in-Err : goal.returns-in-Err
returns-in-Err c =
    let m = c.self.inside.map.ordered in
    let n = c.put.new.self.ordered in
    let k = c.of-rank.result in
    let ks = c.self.inside.removed.items in
    let put : (c.in-Err.fault ≡ NoMemory) × IsUnchanged m n × (tree.get key_cmp m k ≡ None) = subst (IsPut key_cmp m k c.args.entry n) c.in-Err.is c.put.ensures in
    let none : finite.get c.args.self.now (tag_of k) ≡ None = ap (λ (x : Entries). finite.get x (tag_of k)) (sym c.self.view_is) ∙ get_unlisted m ks (tag_of k) ∙ none_either (is_listed ks (tag_of k)) _ (ap (tree.get key_cmp m) (key_back k) ∙ put.2) in
    (put.0, unlisted_off ks c.take_off-was_removed.new.removed.items k c.take_off-was_removed.ensures.rest m n put.1 put.2 ∙ c.self.view_is, ap (finite.get c.args.self.now) (sym (ap tag_of c.of-rank.ensures.key ∙ tag_back c.args.entry.tag)) ∙ none)
