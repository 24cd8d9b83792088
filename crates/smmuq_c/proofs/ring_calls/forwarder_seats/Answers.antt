use Rattle.smmuq_c.proofs.NewSenders.{own_senders, as_many, as_many_boxes}
use Rattle.smmuq_c.proofs.ring_calls.forwarder_seats.Goals as goal

pub share-requires : goal.share-requires
share-requires c = own_senders c.in-Ok.ensures.made

pub returns-in-Ok-new-clause-count : goal.returns-in-Ok-new-clause-count
returns-in-Ok-new-clause-count c = as_many_boxes c.in-Ok-share.senders.items c.in-Ok.parts.1.items c.in-Ok-share.ensures.seats (as_many c.in-Ok.ensures.made)
