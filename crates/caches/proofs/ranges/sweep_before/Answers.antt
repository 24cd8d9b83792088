use Rattle.std.proofs.Common.{arith, ◌+◌, ◌<◌}
use Rattle.caches.specs.Keys.{covers_key, page_of}
use Rattle.caches.specs.Sweep.{IsKeeping, IsPruned}
use Rattle.caches.proofs.KeyOrder.{key_cmp}
use Rattle.caches.proofs.Pruned.{pruned_trans, keeping_pruned}
use Rattle.caches.proofs.Ahead.{AreBelow, below_bound, gone_below, below_start}
use Rattle.caches.proofs.ranges.sweep_before.Goals as goal
use Rattle.caches.proofs.ranges.sweep_before.Goals.{then-start-bound, else-start-bound}

pub sweep_back-bound-requires-clause-keeping : goal.sweep_back-bound-requires-clause-keeping
sweep_back-bound-requires-clause-keeping c = keeping_pruned (covers_key c.args.command.now) c.args.map.now.ordered c.loop-span.map.ordered c.loop-span.invariant.pruned c.requires.keeping

pub overflow_add-start : goal.overflow_add-start
overflow_add-start c = omega (arith, c.if-start-bound.true, c.loop-span.invariant.few)

pub loop-span-preserved : goal.loop-span-preserved
loop-span-preserved c =
    let p = covers_key c.args.command.now in
    let w = c.args.owner in
    let first = c.args.first in
    let old = c.args.map.now.ordered in
    let m = c.loop-span.map.ordered in
    let start = c.block_start-start.result in
    let kept : IsKeeping key_cmp m = keeping_pruned p old m c.loop-span.invariant.pruned c.requires.keeping in
    elim c.if-start-bound.branch [
      | then-start-bound b ↦
          let n = b.sweep_back-bound.new.map.ordered in
          let pruned : IsPruned key_cmp p old n = pruned_trans key_cmp p old m n c.loop-span.invariant.pruned b.sweep_back-bound.ensures.pruned in
          let keeping : IsKeeping key_cmp n = keeping_pruned p old n pruned c.requires.keeping in
          let under : b.sweep_back-bound.result < start + 1 = b.sweep_back-bound.ensures.under (omega arith) in
          let below : AreBelow p w first n start = below_start p w first c.requires.reach c.loop-span.span start c.block_start-start.ensures m n keeping c.loop-span.invariant.gone b.sweep_back-bound.ensures.pruned
          (λ q covered own at more. b.sweep_back-bound.ensures.clean q covered (omega (arith, at)) (omega (arith, at, under))) in
          rw (b.map-is, b.bound-is) (record {
            pruned = pruned;
            gone = gone_below p w first c.requires.reach c.loop-span.span start c.block_start-start.ensures n keeping below;
            few = omega (arith, b.sweep_back-bound.ensures.low, c.ranges.first.fits);
            below = below_bound p w first n start b.sweep_back-bound.result below (λ q covered before from. b.sweep_back-bound.ensures.clean q covered (omega (arith, before)) from);
          })
      | else-start-bound b ↦
          let below : AreBelow p w first m start = λ q e covered before there.
          let h : page_of q < c.loop-span.bound = c.loop-span.invariant.below q e covered before there in
          omega (arith, b.if-start-bound.false) in
          rw (b.map-is, b.bound-is) (record {
            pruned = c.loop-span.invariant.pruned;
            gone = gone_below p w first c.requires.reach c.loop-span.span start c.block_start-start.ensures m kept below;
            few = c.loop-span.invariant.few;
            below = c.loop-span.invariant.below;
          })
    ]
