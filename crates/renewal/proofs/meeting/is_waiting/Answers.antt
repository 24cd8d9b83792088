use Rattle.std.proofs.Common.{ℕ, ◌<◌, ◌∷◌, length, refl, ap, subst, ◌∙◌}
use Rattle.std.proofs.lemmas.Option.{slice_get_within}
use Rattle.ringcore.specs.declared.world.event.Who.TheVariants.{Consumer, Sender}
use Rattle.ringcore.specs.declared.world.event.Event.TheVariants.{Look}
use Rattle.ringcore.specs.world.World.{world, control}
use Rattle.ring.specs.Rings.{RingValue}
use Rattle.ring.specs.consumer.Consumers.{ConsumerValue}
use Rattle.ring.specs.consumer.Taking.{with_trail}
use Rattle.engine.specs.Units.{UnitValue}
use Rattle.renewal.proofs.Twins.{as_many}
use Rattle.renewal.proofs.OneMoreMet.{still_behind, went_on_again}
use Rattle.renewal.proofs.meeting.is_waiting.Goals as goal

pub returns-clause-looked : goal.returns-clause-looked
returns-clause-looked c =
    let l = c.sees_waiting.ensures.looked.1 in
    let met = c.meet_all.ensures in
    record {
      found = l.control;
      found_is = l.control_is ∙ ap (λ (r : RingValue). control r.made_with.geometry (world c.sees_waiting.new.engine.consumer.history)) (ap (λ (d : ConsumerValue UnitValue). d.ring) met.consumer_is ∙ c.requires.ring);
      ring_is = refl;
      senders_are = met.senders_are;
      unit_is = l.unit_is ∙ met.unit_is;
      consumer_is = l.consumer_is ∙ ap (λ (d : ConsumerValue UnitValue). with_trail d (Look l.control ∷ d.trail)) met.consumer_is;
      grew = record { before = l.grew.before; went_on = went_on_again Consumer _ _ _ met.went_on l.grew.went_on; run_is = l.grew.run_is };
      known = λ k s there.
          let below : k < length c.args.queue.now.senders.items = subst (λ (n : ℕ). k < n) (as_many _ _ met.senders_are) (slice_get_within _ k s there) in
          still_behind (Sender k) Consumer (Look l.control) s.trail _ _ l.grew (met.known k s below there);
    }
