use Rattle.std.proofs.Common.{refl, ap, ◌∙◌}
use Rattle.engine.specs.Units.{new_unit}
use Rattle.smmuq_c.specs.declared.object.Object.TheVariants.{Engine as EngineOf}
use Rattle.smmuq_c.proofs.NewSenders.{own_senders, as_many, as_many_boxes}
use Rattle.smmuq_c.proofs.ring_calls.engine_seats.Goals as goal

pub share-requires : goal.share-requires
share-requires c = own_senders c.in-Ok-new.ensures.made

pub returns-in-Ok-new-2-clause-made : goal.returns-in-Ok-new-2-clause-made
returns-in-Ok-new-2-clause-made c = record {
  ring = c.in-Ok-new.parts.0;
  all = c.in-Ok-new.parts.1.items;
  consumer = c.in-Ok-new.parts.2;
  new_ring = c.in-Ok-new.ensures.made;
  seats_are = c.in-Ok-share.ensures.seats;
  taker_is = (
    new_unit c.in-Ok.caches,
    record { caches = c.in-Ok.caches; caches_are = c.in-Ok.ensures.ok; unit_is = refl },
    c.in-Ok-new-2.ensures.ok ∙ ap EngineOf (c.new-seated.ensures ∙ c.new-2.ensures),
  );
}

pub returns-in-Ok-new-2-clause-count : goal.returns-in-Ok-new-2-clause-count
returns-in-Ok-new-2-clause-count c = as_many_boxes c.in-Ok-share.senders.items c.in-Ok-new.parts.1.items c.in-Ok-share.ensures.seats (as_many c.in-Ok-new.ensures.made)
