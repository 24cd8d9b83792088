use Rattle.std.proofs.Common.{List, subst, ◌∙◌}
use Rattle.cmdcodec.specs.declared.raw.Raw.{Raw}
use Rattle.guest_forwarding.specs.Forwarding.{IsLast}
use Rattle.guest_forwarding.proofs.ConsumedLemmas.{no_words, some_words, none_on_their_way, on_their_way, consumed_all, own_words, sent_for}
use Rattle.guest_forwarding.proofs.forwarding.Forwarding.forward.Goals as goal

pub returns-then-is_empty-clause-consumed : goal.returns-then-is_empty-clause-consumed
returns-then-is_empty-clause-consumed c =
    consumed_all c.args.guest.now c.args.commands.now c.convert_all-converted.result
    record { sender = c.args.sender; consumed = c.taken-consumed.result; ended = c.ended-ended.result } c.taken-consumed.ensures c.args.sender c.args.self.now c.convert_all-converted.ensures.legal
    (none_on_their_way c.args.self.now c.args.sender.history c.convert_all-converted.result.commands
    (no_words _ c.commands.result.now c.is_empty.result c.commands.ensures c.is_empty.ensures c.if-is_empty.true))
    c.convert_all-converted.ensures.complete

pub returns-in-Ok-clause-own : goal.returns-in-Ok-clause-own
returns-in-Ok-clause-own c =
    own_words c.args.guest.now c.args.commands.now c.convert_all-converted.result
    record { sender = c.in-Ok.sender; consumed = c.taken-consumed.result; ended = c.ended-ended.result } c.taken-consumed.ensures c.convert_all-converted.ensures.converted
    c.convert_all-converted.ensures.isolated

pub returns-in-Ok-clause-sent : goal.returns-in-Ok-clause-sent
returns-in-Ok-clause-sent c =
    sent_for c.args.guest.now c.args.commands.now c.convert_all-converted.result
    record { sender = c.in-Ok.sender; consumed = c.taken-consumed.result; ended = c.ended-ended.result } c.taken-consumed.ensures c.args.tries c.args.sender c.args.self.now c.send.new.self
    c.convert_all-converted.ensures.converted (some_words _ c.commands.result.now c.is_empty.result c.commands.ensures c.is_empty.ensures c.if-is_empty.false)
    (subst (λ (words : List Raw). IsLast words c.args.tries c.args.sender c.in-Ok.sender c.send.new.self) (c.batch_of.ensures ∙ c.commands-2.ensures) c.in-Ok.ensures.sent)

pub returns-in-Ok-clause-consumed : goal.returns-in-Ok-clause-consumed
returns-in-Ok-clause-consumed c =
    consumed_all c.args.guest.now c.args.commands.now c.convert_all-converted.result
    record { sender = c.in-Ok.sender; consumed = c.taken-consumed.result; ended = c.ended-ended.result } c.taken-consumed.ensures c.args.sender c.send.new.self
    c.convert_all-converted.ensures.legal (on_their_way c.convert_all-converted.result.commands c.args.tries c.args.sender c.in-Ok.sender c.send.new.self
    (subst (λ (words : List Raw). IsLast words c.args.tries c.args.sender c.in-Ok.sender c.send.new.self) (c.batch_of.ensures ∙ c.commands-2.ensures) c.in-Ok.ensures.sent))
    c.convert_all-converted.ensures.complete
