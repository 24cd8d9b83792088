use Rattle.std.proofs.Common.{ap, ◌∙◌}
use Rattle.smmuq_c.specs.declared.object.Object.TheVariants.{Consumer as ConsumerOf}
use Rattle.smmuq_c.proofs.NewSenders.{own_senders, as_many, as_many_boxes}
use Rattle.smmuq_c.proofs.ring_calls.consumer_seats.Goals as goal

pub share-requires : goal.share-requires
share-requires c = own_senders c.in-Ok.ensures.made

pub returns-in-Ok-new-clause-made : goal.returns-in-Ok-new-clause-made
returns-in-Ok-new-clause-made c = record {
  ring = c.in-Ok.parts.0;
  all = c.in-Ok.parts.1.items;
  consumer = c.in-Ok.parts.2;
  new_ring = c.in-Ok.ensures.made;
  seats_are = c.in-Ok-share.ensures.seats;
  taker_is = c.in-Ok-new.ensures.ok ∙ ap ConsumerOf c.new-seated.ensures;
}

pub returns-in-Ok-new-clause-count : goal.returns-in-Ok-new-clause-count
returns-in-Ok-new-clause-count c = as_many_boxes c.in-Ok-share.senders.items c.in-Ok.parts.1.items c.in-Ok-share.ensures.seats (as_many c.in-Ok.ensures.made)
