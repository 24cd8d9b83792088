use Rattle.std.proofs.Common.{◌≡◌, ◌∙◌, ◌+◌, ◌-◌, [], ◌∷◌, ◌++◌, not, drop, length, refl, sym, ap, arith}
use Rattle.std.specs.FinMap as finite
use Rattle.std.proofs.lemmas.Bool.{and_left, and_right}
use Rattle.std.proofs.lemmas.List.{append_assoc, drop_more}
use Rattle.caches.specs.Keys.{tag_of}
use Rattle.caches.specs.Unlisted.{is_listed, unlisted}
use Rattle.caches.proofs.EntryMaps.{unlisted_skipped}
use Rattle.caches.proofs.Viewed.{len_unlisted, note_removed}
use Rattle.caches.proofs.entry_map.recount.Goals as goal
use Rattle.caches.proofs.entry_map.recount.Goals.{then-holds+then-not-is_among, else-holds, else-holds-via-then-holds+else-not-is_among, else-holds-via-else-holds}

pub loop-rank-init : goal.loop-rank-init
loop-rank-init c =
    let m = c.args.map.now.ordered in
    let listed = c.deref-rank-items.result.now in
    record {
      same = ap (λ ks. unlisted m (ks ++ listed)) c.take-listed.ensures.after ∙ ap (unlisted m) (c.deref-rank-items.ensures.0 ∙ ap (λ v. v.items) c.take-listed.ensures.value);
      counted = c.len-len.ensures.len ∙ sym (ap (λ ks. finite.len (unlisted m ks)) c.take-listed.ensures.after ∙ len_unlisted m c.len-len.ensures.ordered);
      room = let none = ap length c.take-listed.ensures.after in omega (arith, none, c.deref-rank-items.ensures.1);
    }

pub overflow_sub-len : goal.overflow_sub-len
overflow_sub-len c =
    let m = c.args.map.now.ordered in
    let ks = c.loop-rank.removed.items in
    let k = c.rank-item.result in
    let noted = note_removed m m ks ks c.push.new.self.items k (sym c.holds.ensures ∙ c.if-holds.true) (ap (λ xs. is_listed xs (tag_of k)) (sym c.deref.ensures.0) ∙ sym c.is_among.ensures ∙ c.if-not-is_among.true) refl c.push.ensures.items in
    omega (arith, c.loop-rank.invariant.counted, noted.0)

pub loop-rank-preserved : goal.loop-rank-preserved
loop-rank-preserved c =
    let m = c.args.map.now.ordered in
    let listed = c.deref-rank-items.result.now in
    let ks = c.loop-rank.removed.items in
    let k = c.rank-item.result in
    let rest = drop (c.loop-rank.rank-index + 1) listed in
    let split : drop c.loop-rank.rank-index listed ≡ k ∷ rest = drop_more listed c.loop-rank.rank-index k c.loop-rank-test.true ∙ ap (λ x. x ∷ rest) (sym c.rank-item.is) in
    let before : unlisted m (ks ++ k ∷ rest) ≡ unlisted m c.args.removed.now.items = ap (λ js. unlisted m (ks ++ js)) (sym split) ∙ c.loop-rank.invariant.same in
    elim c.if-holds.branch [
      | then-holds+then-not-is_among w ↦
          let noted = note_removed m m ks ks w.push.new.self.items k (sym c.holds.ensures ∙ w.if-holds.true) (ap (λ xs. is_listed xs (tag_of k)) (sym w.deref.ensures.0) ∙ sym w.is_among.ensures ∙ w.if-not-is_among.true) refl w.push.ensures.items in
          let now = ap (λ v. v.items) w.removed-is in
          let longer = ap length now ∙ w.push.ensures.len in
          record {
            same = ap (λ js. unlisted m (js ++ rest)) (now ∙ w.push.ensures.items) ∙ ap (unlisted m) (append_assoc ks (k ∷ []) rest) ∙ before;
            counted = w.len-is ∙ ap (λ n. n - 1) c.loop-rank.invariant.counted ∙ noted.1 ∙ sym (ap (λ js. finite.len (unlisted m js)) now);
            room = omega (arith, longer, c.loop-rank.invariant.room, c.loop-rank-test.true);
          }
      | else-holds w ↦
          let left = ap (λ v. v.items) w.removed-is in
          let skipped = unlisted_skipped m ks rest k (elim w.else-holds.branch [
            | else-holds-via-then-holds+else-not-is_among u ↦ and_right _ _ (ap (λ xs. not (is_listed xs (tag_of k))) (sym u.deref.ensures.0) ∙ ap not (sym u.is_among.ensures ∙ u.if-not-is_among.false))
            | else-holds-via-else-holds u ↦ and_left _ _ (sym c.holds.ensures ∙ u.if-holds.false)
          ]) in
          record {
            same = ap (λ js. unlisted m (js ++ rest)) left ∙ skipped ∙ before;
            counted = w.len-is ∙ c.loop-rank.invariant.counted ∙ sym (ap (λ js. finite.len (unlisted m js)) left);
            room = omega (arith, ap length left, c.loop-rank.invariant.room, c.loop-rank-test.true);
          }
    ]
