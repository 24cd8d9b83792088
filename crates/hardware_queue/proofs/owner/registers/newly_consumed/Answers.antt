use Rattle.std.proofs.Common.{ℕ, ap, ◌∙◌, arith}
use Rattle.qindex.specs.Positions.{IndexValue, size}
use Rattle.hardware_queue.specs.Queues.{rd_of}
use Rattle.hardware_queue.proofs.Owning.{count_is, unbelievable, believable}
use Rattle.hardware_queue.proofs.owner.registers.newly_consumed.Goals as goal

pub returns-then-count-distance : goal.returns-then-count-distance
returns-then-count-distance c q is =
    let f = c.in_ok-found.ensures.1 ∙ ap (λ (n : ℕ). record { geometry = n; number = rd_of c.args.word }) c.geometry.ensures in
    let e = count_is q _ _ _ c.args.word _ is f c.distance-count.ensures.value in
    let d = c.distance.ensures.positions _ _ _ is in
    let more = c.if-count-distance.true in
    unbelievable q c.args.word _ e is.order (omega (arith, d, more))

pub returns : goal.returns
returns c q is =
    let f = c.in_ok-found.ensures.1 ∙ ap (λ (n : ℕ). record { geometry = n; number = rd_of c.args.word }) c.geometry.ensures in
    let e = count_is q _ _ _ c.args.word _ is f c.distance-count.ensures.value in
    let d = c.distance.ensures.positions _ _ _ is in
    let few = c.if-count-distance.false in
    let number = c.in_ok-found.ensures.0 in
    let s = ap size c.geometry.ensures ∙ ap (λ (i : IndexValue). size i.geometry) is.cons_is in
    (believable q c.args.word _ e is.order (omega (arith, d, few)) (omega (arith, number, s)), e)
