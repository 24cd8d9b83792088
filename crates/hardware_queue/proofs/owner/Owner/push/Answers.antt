use Rattle.std.proofs.Common.{ap, sym, ◌∙◌, arith}
use Rattle.qindex.specs.Positions.{IndexValue, size}
use Rattle.hardware_queue.specs.Queues.{QueueValue}
use Rattle.hardware_queue.specs.Owners.{room, without_memory, OwnerValue}
use Rattle.hardware_queue.proofs.Owning.{IsWritten, may_show, shown_is, owner_pushed}
use Rattle.hardware_queue.proofs.owner.Owner.push.Goals as goal

-- how many, beside what fits
pub show_prod-requires : goal.show_prod-requires
show_prod-requires g c =
    let q : QueueValue = g.Q.CommandQueue.queue c.self.inside.queue in
    let is = c.self.invariant in
    let r = c.room-room.ensures.value ∙ ap (λ (w : OwnerValue g.row.Q.Denot). room (g.Q.CommandQueue.queue w.queue)) (sym c.self.view_is) in
    let m = c.min-count.ensures in
    let o = is.queue.order in
    let w = is.queue.within in
    let index = c.forward-self-inside.ensures.position _ _ is.queue.prod_is in
    may_show c.indexes_tell_the_queue.ensures.queue q (g.Q.CommandQueue.queue c.write_all.new.queue) _ _ c.write_all.ensures.kept is.geometry (omega (arith, r, m, o, w)) (omega (arith, r, m, o, w))
    (c.get.ensures.value ∙ ap (λ (i : IndexValue). i.number) index)
    (let below = c.get.ensures.in_range.number in let s = ap (λ (i : IndexValue). size i.geometry) index in let v = c.get.ensures.value in omega (arith, below, s, v))

pub invariant_of-self : goal.invariant_of-self
invariant_of-self g c =
    let q : QueueValue = g.Q.CommandQueue.queue c.self.inside.queue in
    let is = c.self.invariant in
    let r = c.room-room.ensures.value ∙ ap (λ (w : OwnerValue g.row.Q.Denot). room (g.Q.CommandQueue.queue w.queue)) (sym c.self.view_is) in
    let m = c.min-count.ensures in
    let o = is.queue.order in
    let w = is.queue.within in
    let index = c.forward-self-inside.ensures.position _ _ is.queue.prod_is in
    let all : IsWritten q (g.Q.CommandQueue.queue c.write_all.new.queue) c.args.raws.now c.min-count.result =
    record { kept = c.write_all.ensures.kept; long = c.write_all.ensures.memory; done = c.write_all.ensures.written } in
    owner_pushed q _ _ _ _ _ _ c.args.raws.now _ c.min-count.result is all.long
    (shown_is c.indexes_tell_the_queue.ensures.queue q _ _ _ _ _ all is.geometry (omega (arith, r, m, o, w)) (c.get.ensures.value ∙ ap (λ (i : IndexValue). i.number) index) c.show_prod.ensures)
    (omega (arith, m)) (omega (arith, r, m, o, w)) index

pub returns-clause-pushed : goal.returns-clause-pushed
returns-clause-pushed g c =
    let q : QueueValue = g.Q.CommandQueue.queue c.self.inside.queue in
    let is = c.self.invariant in
    let r = c.room-room.ensures.value ∙ ap (λ (w : OwnerValue g.row.Q.Denot). room (g.Q.CommandQueue.queue w.queue)) (sym c.self.view_is) in
    let m = c.min-count.ensures in
    let o = is.queue.order in
    let w = is.queue.within in
    let index = c.forward-self-inside.ensures.position _ _ is.queue.prod_is in
    let all : IsWritten q (g.Q.CommandQueue.queue c.write_all.new.queue) c.args.raws.now c.min-count.result =
    record { kept = c.write_all.ensures.kept; long = c.write_all.ensures.memory; done = c.write_all.ensures.written } in
    let new = shown_is c.indexes_tell_the_queue.ensures.queue q _ _ _ _ _ all is.geometry (omega (arith, r, m, o, w)) (c.get.ensures.value ∙ ap (λ (i : IndexValue). i.number) index) c.show_prod.ensures in
    rw (← c.self.view_is) (record { count_is = omega (arith, r, m); new_is = ap without_memory new })
