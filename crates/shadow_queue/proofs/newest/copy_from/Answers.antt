use Rattle.std.proofs.Common.{◌+◌, ◌<◌, ◌∙◌, length, ap, arith, sym, drop-drop, drop-set-lt}
use Rattle.std.proofs.lemmas.List.{take_more_set}
use Rattle.std.specs.Prelude.{drop}
use Rattle.qindex.specs.Positions.{IndexValue, size}
use Rattle.shadow_queue.proofs.Copying.{copied_more}
use Rattle.shadow_queue.proofs.newest.copy_from.Goals as goal

pub loop-offset-preserved : goal.loop-offset-preserved
loop-offset-preserved c =
    let at = c.loop-offset.offset in
    let inside : at < length c.loop-offset.buffer = omega arith in
    record {
      written = λ position is.
          let index = c.forward.ensures.position _ position is in
          let slot = c.place.ensures.position _ _ index in
          let s = ap (λ (i : IndexValue). size i.geometry) index in
          let low = c.place.ensures.in_range in
          let long = c.requires.memory in
          copied_more c.args.start.geometry c.args.memory.now _ _ position at c.place.result _ (c.loop-offset.invariant.written position is) (take_more_set c.loop-offset.buffer at _ inside) slot (omega (arith, low, s, long));
      behind = drop-set-lt (at + 1) c.loop-offset.buffer at _ (omega arith) ∙ sym (drop-drop 1 at c.loop-offset.buffer) ∙ ap (drop 1) c.loop-offset.invariant.behind ∙ drop-drop 1 at c.args.buffer.now;
    }
