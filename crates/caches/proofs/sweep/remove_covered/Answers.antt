use Rattle.std.proofs.Common.{arith, ℕ, ◌∙◌, None, Some, cond, if◌then◌else◌, refl, sym, ap}
use Rattle.std.specs.BTreeMap as tree
use Rattle.std.specs.Ordering.{is_eq}
use Rattle.std.specs.declared.ops.Bound.TheVariants.{Included, Excluded}
use Rattle.std.specs.Cmp.{tied_itself}
use Rattle.caches.specs.declared.key.Key.{Key}
use Rattle.caches.specs.Keys.{covers_key}
use Rattle.caches.specs.Sweep.{IsNextKey}
use Rattle.caches.proofs.KeyOrder.{key_cmp, key_total, key_exact}
use Rattle.caches.proofs.Pruned.{some_was, none_either}
use Rattle.caches.proofs.Begun.{next_from}
use Rattle.caches.proofs.Sweeping.{swept_none, swept_more, swept_all, starts_more, after_yes}
use Rattle.caches.proofs.sweep.remove_covered.Goals as goal

pub next_covered-requires : goal.next_covered-requires
next_covered-requires c = record { keeping = λ q e is. c.requires.keeping q e (some_was _ _ e (sym (c.loop-covered.invariant.kept q) ∙ is)) }

pub loop-covered-init : goal.loop-covered-init
loop-covered-init c = record {
  begin = Included c.args.first;
  begins = refl;
  kept = swept_none key_total (covers_key c.args.command.now) (Included c.args.first) (Excluded c.args.end) (λ (q : Key). tree.get key_cmp c.args.map.now.ordered q);
  starts = λ q h. h;
}

pub loop-covered-smaller : goal.loop-covered-smaller
loop-covered-smaller c =
    let one = ap {B = ℕ} (λ b. if b then 1 else 0) c.in-Some.ensures.next.there in
    omega (arith, c.remove.ensures.len, one)

pub loop-covered-preserved : goal.loop-covered-preserved
loop-covered-preserved c =
    let p = covers_key c.args.command.now in
    let f = λ (q : Key). tree.get key_cmp c.loop-covered.map.ordered q in
    let old = λ (q : Key). tree.get key_cmp c.args.map.now.ordered q in
    let k = c.in-Some.covered.key in
    let begin = c.loop-covered.invariant.begin in
    let next : IsNextKey key_cmp p c.loop-covered.map.ordered begin (Excluded c.args.end) k = next_from p c.loop-covered.map.ordered c.loop-covered.from (Excluded c.args.end) (Some k) begin c.loop-covered.invariant.begins c.in-Some.ensures.next in
    record {
      begin = Excluded k;
      begins = (refl, c.remove.ensures.updates.0 k ∙ ap (λ r. cond (is_eq r) None (f k)) (tied_itself key_total k));
      kept = swept_more key_total p (Included c.args.first) (Excluded c.args.end) old begin k f (λ (q : Key). tree.get key_cmp c.remove.new.self.ordered q) c.loop-covered.invariant.kept next.within next.least c.loop-covered.invariant.starts
          (after_yes key_cmp p k f _ next.passes c.remove.ensures.updates.0) key_exact;
      starts = starts_more key_total begin (Included c.args.first) (Excluded c.args.end) k c.loop-covered.invariant.starts next.within;
    }

pub returns : goal.returns
returns c =
    let p = covers_key c.args.command.now in
    let begin = c.loop-covered.invariant.begin in
    record {
      after = swept_all key_total p (Included c.args.first) (Excluded c.args.end) (λ (q : Key). tree.get key_cmp c.args.map.now.ordered q) begin (λ (q : Key). tree.get key_cmp c.loop-covered.map.ordered q) c.loop-covered.invariant.kept
          (next_from p c.loop-covered.map.ordered c.loop-covered.from (Excluded c.args.end) None begin c.loop-covered.invariant.begins c.in_default.ensures.next);
    }

pub returns-then-covered : goal.returns-then-covered
returns-then-covered c =
    let p = covers_key c.args.command.now in
    let f = λ (q : Key). tree.get key_cmp c.loop-covered.map.ordered q in
    let g = λ (q : Key). tree.get key_cmp c.remove.new.self.ordered q in
    let old = λ (q : Key). tree.get key_cmp c.args.map.now.ordered q in
    let k = c.in-Some.covered.key in
    let begin = c.loop-covered.invariant.begin in
    let next : IsNextKey key_cmp p c.loop-covered.map.ordered begin (Excluded c.args.end) k = next_from p c.loop-covered.map.ordered c.loop-covered.from (Excluded c.args.end) (Some k) begin c.loop-covered.invariant.begins c.in-Some.ensures.next in
    record {
      after = swept_all key_total p (Included c.args.first) (Excluded c.args.end) old (Excluded k) g
          (swept_more key_total p (Included c.args.first) (Excluded c.args.end) old begin k f g c.loop-covered.invariant.kept next.within next.least c.loop-covered.invariant.starts
          (after_yes key_cmp p k f g next.passes c.remove.ensures.updates.0) key_exact)
          (λ q inside passes. c.remove.ensures.updates.0 q ∙ none_either _ _ (c.in-Some.ensures.last c.if-covered.true q inside passes));
    }
