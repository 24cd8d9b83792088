use Rattle.std.proofs.Common.{◌≡◌, ℕ, List, length, ap, subst, arith}
use Rattle.std.specs.Prelude.{take}
use Rattle.cmdcodec.specs.declared.raw.Raw.{Raw}
use Rattle.qindex.specs.Positions.{IndexValue, size}
use Rattle.hardware_queue.specs.Queues.{QueueValue, in_memory}
use Rattle.hardware_queue.proofs.Owning.{free_still, IsWritten, one_more}
use Rattle.hardware_queue.proofs.owner.slots.write_all.Goals as goal

pub write-requires : goal.write-requires
write-requires g c =
    let q : QueueValue = g.Q.CommandQueue.queue c.args.queue.now in
    let index = c.forward.ensures.position _ _ c.requires.prod in
    let at = c.place.ensures.position _ _ index in
    let s = ap (λ (i : IndexValue). size i.geometry) index in
    let inside = c.place.ensures.in_range in
    free_still c.indexes_tell_place_and_wrap_bit.ensures.apart q _ _ _ _ c.loop-offset.invariant.kept c.requires.order c.requires.room c.loop-offset-test.true at (omega (arith, inside, s))

pub loop-offset-preserved : goal.loop-offset-preserved
loop-offset-preserved g c =
    let q : QueueValue = g.Q.CommandQueue.queue c.args.queue.now in
    let i = c.loop-offset.invariant in
    let index = c.forward.ensures.position _ _ c.requires.prod in
    let at = c.place.ensures.position _ _ index in
    let s = ap (λ (i : IndexValue). size i.geometry) index in
    let inside = c.place.ensures.in_range in
    let is : IsWritten q (g.Q.CommandQueue.queue c.loop-offset.queue) c.args.raws.now c.loop-offset.offset = record { kept = i.kept; long = i.long; done = i.done } in
    let more = one_more c.indexes_tell_place_and_wrap_bit.ensures.apart q _ _ c.args.raws.now c.loop-offset.offset c.args.count _ _ is c.write.ensures c.requires.order c.requires.room c.loop-offset-test.true c.requires.enough at (omega (arith, inside, s)) in
    record { kept = more.kept; long = more.long; done = more.done }

pub returns-clause-written : goal.returns-clause-written
returns-clause-written g c =
    let q : QueueValue = g.Q.CommandQueue.queue c.args.queue.now in
    let m : List Raw = (g.Q.CommandQueue.queue c.loop-offset.queue).memory in
    let all : c.loop-offset.offset ≡ c.args.count = omega arith in
    subst (λ (n : ℕ). in_memory q.geometry m (length q.shown) n ≡ take n c.args.raws.now) all c.loop-offset.invariant.done
