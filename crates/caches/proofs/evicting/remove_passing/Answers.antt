use Rattle.std.proofs.Common.{◌≡◌, IsSome, arith, refl, ◌∙◌, sym}
use Rattle.std.specs.BTreeMap as tree
use Rattle.std.specs.BTreeMap.{is_at}
use Rattle.std.specs.BTreeMap.Range.{range_contains}
use Rattle.std.specs.declared.ops.Bound.TheVariants.{Excluded, Unbounded}
use Rattle.std.specs.Cmp.{tied_itself}
use Rattle.caches.specs.declared.key.Key.{Key}
use Rattle.caches.specs.Sweep.{has_passing}
use Rattle.caches.proofs.EntryTests.{as_before, is_there}
use Rattle.caches.proofs.KeyOrder.{key_cmp, key_total, key_exact}
use Rattle.caches.proofs.Pruned.{none_unless}
use Rattle.caches.proofs.Sweeping.{swept_none, swept_more, swept_all, left_falls, without_one, after_yes}
use Rattle.caches.proofs.evicting.remove_passing.Goals as goal

pub loop-key-init : goal.loop-key-init
loop-key-init g c = swept_none key_total (has_passing key_cmp (g.T.EntryTest.evicted c.args.test.now) c.args.map.now.ordered) Unbounded Unbounded (λ (q : Key). tree.get key_cmp c.args.map.now.ordered q)

pub loop-key-smaller : goal.loop-key-smaller
loop-key-smaller g c =
    let falls = left_falls key_total c.loop-key.from Unbounded c.in-Some.key (tied_itself key_total c.in-Some.key) key_exact c.in-Some.ensures.within c.loop-key.map.ordered.entries c.in-Some.ensures.there in
    rw c.remove.ensures.entries (omega (arith, falls, without_one (is_at (key_cmp c.in-Some.key)) (range_contains key_cmp (Excluded c.in-Some.key) Unbounded) c.loop-key.map.ordered.entries))

pub loop-key-preserved : goal.loop-key-preserved
loop-key-preserved g c =
    let p = g.T.EntryTest.evicted c.args.test.now in
    let first = has_passing key_cmp p c.args.map.now.ordered in
    let f = λ (q : Key). tree.get key_cmp c.loop-key.map.ordered q in
    let old = λ (q : Key). tree.get key_cmp c.args.map.now.ordered q in
    let same : (q : Key) → IsSome (f q) → has_passing key_cmp p c.loop-key.map.ordered q ≡ first q = λ q some. as_before p _ (f q) (old q) (c.loop-key.invariant q) some in
    swept_more key_total first Unbounded Unbounded old c.loop-key.from c.in-Some.key f (λ (q : Key). tree.get key_cmp c.remove.new.self.ordered q) c.loop-key.invariant c.in-Some.ensures.within
    (λ q inside passes some. c.in-Some.ensures.least q inside (same q some ∙ passes) some) (λ q _. refl)
    (after_yes key_cmp first c.in-Some.key f _ (sym (same c.in-Some.key c.in-Some.ensures.there) ∙ c.in-Some.ensures.passes) c.remove.ensures.updates.0) key_exact

pub returns : goal.returns
returns g c =
    let p = g.T.EntryTest.evicted c.args.test.now in
    let first = has_passing key_cmp p c.args.map.now.ordered in
    let f = λ (q : Key). tree.get key_cmp c.loop-key.map.ordered q in
    let old = λ (q : Key). tree.get key_cmp c.args.map.now.ordered q in
    swept_all key_total first Unbounded Unbounded old c.loop-key.from f c.loop-key.invariant
    (λ q inside passes. none_unless (f q) (λ x is. c.in_default.ensures q inside (as_before p _ (f q) (old q) (c.loop-key.invariant q) (is_there (f q) x is) ∙ passes)))
