use Rattle.std.proofs.Common.{inl, inr, refl, ap, subst, sym, arith}
use Rattle.qindex.specs.Positions.{IndexValue, size}
use Rattle.unit_queue.specs.Queued.{Queued, MayConsume, IsCalledIllegal}
use Rattle.unit_queue.proofs.Meeting.{same_flags, queued_consumed, consumes_next, stood_there}
use Rattle.unit_queue.proofs.unit_queue.UnitQueue.consume.Goals as goal

pub invariant_of-self-2 : goal.invariant_of-self-2
invariant_of-self-2 c =
    let is = c.self.invariant in
    let may = subst MayConsume (sym c.self.view_is) (c.if-not-may_consume.ensures.0 refl) in
    let s = ap (λ (i : IndexValue). size i.geometry) is.indexes.cons_is in
    let inside = c.place.ensures.in_range in
    let long = is.memory in
    let at = c.place.ensures.position _ _ is.indexes.cons_is in
    let stood = stood_there c.self.inside.memory.items c.place.result _ c.index-raw.result.now c.index-raw.ensures (omega (arith, inside, s, long)) at in
    queued_consumed _ _ _ _ c.self.inside.seen c.index-raw.result.now c.in-Applied.command c.in-Applied.removed c.judge.new.self is (same_flags _ _ may.running) may.shown stood c.in-Applied.ensures.judged c.in-Applied.ensures.settled
    (c.forward-self-inside.ensures.position _ _ is.indexes.cons_is)

pub returns-then-not-may_consume-clause-gone_on : goal.returns-then-not-may_consume-clause-gone_on
returns-then-not-may_consume-clause-gone_on c = inl (λ may. let no = c.if-not-may_consume.ensures.1 may in absurd (cc), refl)

pub returns-then-calls_illegal-clause-gone_on : goal.returns-then-calls_illegal-clause-gone_on
returns-then-calls_illegal-clause-gone_on c =
    let is = c.self.invariant in
    let may = subst MayConsume (sym c.self.view_is) (c.if-not-may_consume.ensures.0 refl) in
    let illegal = subst (λ (u : Queued). IsCalledIllegal u c.index-raw.result.now) (sym c.self.view_is) (c.if-calls_illegal.ensures.illegal refl) in
    let s = ap (λ (i : IndexValue). size i.geometry) is.indexes.cons_is in
    let inside = c.place.ensures.in_range in
    let long = is.memory in
    let at = c.place.ensures.position _ _ is.indexes.cons_is in
    let stood = stood_there c.self.inside.memory.items c.place.result _ c.index-raw.result.now c.index-raw.ensures (omega (arith, inside, s, long)) at in
    rw (← c.self.view_is) (inr (may, inr (record { raw = c.index-raw.result.now; stands = stood; illegal = illegal; new_is = refl })))

pub returns-clause-gone_on : goal.returns-clause-gone_on
returns-clause-gone_on c =
    let is = c.self.invariant in
    let may = subst MayConsume (sym c.self.view_is) (c.if-not-may_consume.ensures.0 refl) in
    let legal = subst (λ (u : Queued). ¬ IsCalledIllegal u c.index-raw.result.now) (sym c.self.view_is) (c.if-calls_illegal.ensures.legal refl) in
    let s = ap (λ (i : IndexValue). size i.geometry) is.indexes.cons_is in
    let inside = c.place.ensures.in_range in
    let long = is.memory in
    let at = c.place.ensures.position _ _ is.indexes.cons_is in
    let stood = stood_there c.self.inside.memory.items c.place.result _ c.index-raw.result.now c.index-raw.ensures (omega (arith, inside, s, long)) at in
    rw (← c.self.view_is) (consumes_next _ _ _ c.self.inside.seen c.index-raw.result.now c.in-Applied.command c.in-Applied.removed c.judge.new.self is may refl stood legal c.in-Applied.ensures.judged)
