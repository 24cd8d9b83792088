use Rattle.std.proofs.Common.{◌≡◌, ℕ, ◌+◌, ◌-◌, ◌++◌, length, ap, subst, ◌∙◌}
use Rattle.std.specs.Prelude.{drop}
use Rattle.qindex.specs.Positions.{place, index_of}
use Rattle.hardware_queue.specs.Queues.{QueueValue}
use Rattle.shadow_queue.specs.Shadows.{IsUnlostFrom}
use Rattle.shadow_queue.specs.Messages.{message_of}
use Rattle.shadow_queue.proofs.Copying.{placed}
use Rattle.shadow_queue.proofs.forwarding.forward.Goals as goal

pub returns-clause-placed : goal.returns-clause-placed
returns-clause-placed c =
    let count : ℕ = c.shown_by-count.result in
    placed c.args.forwarder.now c.forward-answer.new.self c.forward-answer.result c.args.buffer.now c.copy_newest.new.buffer _ c.forward-answer.ensures.forwarded
    (subst (λ (q : QueueValue). IsUnlostFrom (length q.shown) q) c.queue.ensures c.lost_were_shown.ensures.lost)
    c.forward-answer.ensures.lost
    c.shown_by-count.ensures
    (subst (λ (q : QueueValue). IsUnlostFrom (length q.shown - count) q → c.copy_newest.new.buffer ≡ drop (length q.shown - count) q.shown ++ drop count c.args.buffer.now) c.queue-4.ensures c.copy_newest.ensures)
    (c.free_slot-slot.ensures ∙ ap (λ (q : QueueValue). place q.geometry (length q.shown)) c.queue-2.ensures)
    (c.prod-prod.ensures ∙ ap (λ (q : QueueValue). (index_of q.geometry (length q.shown)).number) c.queue-5.ensures)
    (c.next_message-message.ensures ∙ ap (λ (q : QueueValue). message_of (length q.shown + 1) q) c.queue-3.ensures)
