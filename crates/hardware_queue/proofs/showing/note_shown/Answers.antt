use Rattle.std.proofs.Common.{ap, arith}
use Rattle.qindex.specs.Positions.{IndexValue, size}
use Rattle.hardware_queue.proofs.Memory.{shown_more}
use Rattle.hardware_queue.proofs.showing.note_shown.Goals as goal

pub loop-offset-preserved : goal.loop-offset-preserved
loop-offset-preserved c =
    let index = c.forward.ensures.position _ _ c.requires.prod in
    let at = c.place.ensures.position _ _ index in
    let s = ap (λ (i : IndexValue). size i.geometry) index in
    let inside = c.place.ensures.in_range in
    let long = c.requires.memory in
    shown_more c.args.prod.geometry c.args.memory.now c.args.shown.now _ _ _ c.place.result _ c.loop-offset.invariant c.push.ensures at (omega (arith, inside, s, long))
