use Rattle.std.proofs.Common.{◌≡◌, Some, length, sym, ap, subst, ◌∙◌}
use Rattle.std.proofs.lemmas.Option.{slice_get_read}
use Rattle.std.specs.Prelude.{slice_get}
use Rattle.ringcore.specs.declared.world.event.Who.TheVariants.{Sender}
use Rattle.ring.specs.table.Histories.{IsHistory}
use Rattle.ring.specs.sender.Senders.{SenderValue}
use Rattle.renewal.specs.Queues.{unknowing_sender}
use Rattle.renewal.proofs.OneMoreMet.{its_place, one_more_met}
use Rattle.renewal.proofs.meeting.meet_all.Goals as goal

there : (c : goal.After-told-arg-1) → slice_get c.loop-sender.sender-items c.loop-sender.sender-index ≡ Some c.sender-item.result
there c = slice_get_read _ (length c.deref_mut-sender-items.result.now) _ _ (sym c.loop-sender.auto.sender-items) c.loop-sender-test.true c.sender-item.is

pub told-requires-clause-sender : goal.told-requires-clause-sender
told-requires-clause-sender c =
    ap (λ (s : SenderValue). s.ring) (sym c.sender-item.is) ∙ (its_place _ _ _ _ _ _ c.sender-item.result c.requires.senders c.loop-sender.invariant (there c)).0

pub loop-sender-preserved : goal.loop-sender-preserved
loop-sender-preserved c =
    one_more_met _ _ _ _ _ _ _ c.sender-item.result _ c.requires.senders c.loop-sender.invariant (there c.before) c.told.ensures.unit c.told.ensures.consumer
    (c.told.ensures.sender ∙ ap unknowing_sender (sym c.sender-item.is))
    (subst (λ (s : SenderValue). IsHistory s.ring.made_with (Sender s.number) s.trail c.told.new.self.consumer.history) (sym c.sender-item.is) c.told.ensures.of_sender)
    c.told.ensures.known_to_consumer
