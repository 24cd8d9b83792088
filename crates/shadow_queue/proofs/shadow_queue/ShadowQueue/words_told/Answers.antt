use Rattle.std.proofs.Common.{◌≡◌, ℕ, ◌+◌, ◌-◌, ◌%◌, ◌^◌, length, ap, subst, sym, ◌∙◌, arith}
use Rattle.qindex.specs.Positions.{IndexValue, index_of}
use Rattle.hardware_queue.specs.Queues.{QueueValue}
use Rattle.shadow_queue.specs.Messages.{message_of, AreToldBy}
use Rattle.shadow_queue.proofs.Counting.{further, are_told}
use Rattle.shadow_queue.proofs.shadow_queue.ShadowQueue.words_told.Goals as goal

pub returns-clause-told : goal.returns-clause-told
returns-clause-told c =
    let same_message = c.from.ensures in
    let flight = subst (λ (q : QueueValue). q.consumed + c.in_flight.result ≡ length q.shown) (sym c.self.view_is) c.in_flight.ensures in
    let within = c.if-count-from.false in
    let same_flight = c.from-2.ensures in
    let known = subst (λ (q : QueueValue). c.message_with.result ≡ message_of (q.consumed + 0) q) (sym c.self.view_is) c.message_with.ensures in
    let same_known = c.from-known.ensures in
    let far : (c.from.result + 2 ^ 32 - c.from-known.result) % 2 ^ 32 ≡ further (c.self.inside.consumed + c.self.inside.again) c.args.message = omega (arith, same_message, known, same_known) in
    let there : c.forward.result ≡ index_of c.self.inside.prod.geometry (c.self.inside.consumed + further (c.self.inside.consumed + c.self.inside.again) c.args.message) =
    c.forward.ensures.position _ _ c.self.invariant.indexes.cons_is ∙ ap (λ (n : ℕ). index_of c.self.inside.prod.geometry (c.self.inside.consumed + n)) far in
    let low = c.ranges.message.fits in
    let bits = c.get-cons.ensures.bits in
    let value = c.get-cons.ensures.value in
    subst (λ (q : QueueValue). AreToldBy c.args.message q (record { gerror = c.self.inside.gerrorn; cons = c.get-cons.result })) c.self.view_is
    (are_told c.indexes_tell_the_queue.ensures.queue _ _ _ c.args.message c.get-cons.result c.self.invariant (omega (arith, low)) (omega (arith, flight, within, same_flight, far))
    (value ∙ ap (λ (i : IndexValue). i.number) there) (omega (arith, bits, value)))
