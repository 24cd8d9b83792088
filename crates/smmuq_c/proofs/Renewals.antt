-- An engine goes on in a new ring.
use Rattle.std.proofs.Common.{◌≡◌, ℕ, List, length, map, refl, sym, subst, inl, inr}
use Rattle.std.specs.Prelude.{Some}
use Rattle.ringcore.specs.world.World.{world, control}
use Rattle.ring.specs.Rings.{RingValue}
use Rattle.ring.specs.NewRings.{IsNewRing}
use Rattle.ring.specs.sender.Senders.{SenderValue}
use Rattle.ring.specs.consumer.Completing.{taken_of}
use Rattle.caches.specs.Held.{AreOwn}
use Rattle.engine.specs.Settled.{IsSettled}
use Rattle.engine.specs.Units.{UnitValue}
use Rattle.engine.specs.Engines.{EngineValue}
use Rattle.renewal.specs.declared.queue.Sizes.{Sizes}
use Rattle.renewal.specs.declared.queue.Queue.{Queue}
use Rattle.renewal.specs.Queues.{EngineHasLooked, AreAtOnePlace, SawWaiting}
use Rattle.renewal.specs.Carried.{IsCarried}
use Rattle.smmuq_c.specs.declared.status.Status.{Status}
use Rattle.smmuq_c.specs.declared.status.Status.TheVariants.{NoMemory}
use Rattle.smmuq_c.specs.declared.object.Object.{Object}
use Rattle.smmuq_c.specs.declared.object.Object.TheVariants.{Sender as SenderOf, Engine as EngineOf}
use Rattle.smmuq_c.specs.declared.handle.Handle.{Handle}
use Rattle.smmuq_c.specs.MakingRings.{objects_in, sender_count}
use Rattle.smmuq_c.specs.Renewing.{IsRenewed, IsNotRenewed, HasRenewed, HasGoneOn}

-- What is carried is what the engine held before its look.
pub renewed : (sizes : Sizes) (many : ℕ) (senders : List Handle) (old last new : EngineValue) (ring : RingValue) (all : List SenderValue) (seats : List Object)
    → EngineHasLooked old last → AreAtOnePlace (control old.consumer.ring.made_with.geometry (world last.consumer.history))
    → IsSettled old.unit.caches.entries (taken_of old.consumer.trail) → AreOwn old.unit.caches.entries
    → IsNewRing sizes.log2 many sizes.max_batches ring all new.consumer → IsCarried sizes.capacity last.unit new.unit → length senders ≡ many
    → objects_in senders ≡ map Some seats → seats ≡ map SenderOf all → IsRenewed sizes senders old new
renewed sizes many senders old last new ring all seats looked none settled own unused carried as_many filled seats_are = record {
  last = last;
  looked = looked;
  none_waits = none;
  settled = settled;
  own = own;
  goes_on = (
    seats,
    EngineOf new,
    record {
      ring = ring;
      all = all;
      consumer = new.consumer;
      new_ring = subst (λ (n : ℕ). IsNewRing sizes.log2 n sizes.max_batches ring all new.consumer) (sym as_many) unused;
      seats_are = seats_are;
      taker_is = (new.unit, subst (λ (u : UnitValue). IsCarried sizes.capacity u new.unit) looked.1.unit_is carried, refl);
    },
    filled,
    refl,
  );
}

-- Nothing waited when the engine looked. It goes on in a new queue, or there is no memory for the seats.
pub gone_on : (sizes : Sizes) (queue : Queue) (old_senders senders : List Handle) (old last new : EngineValue) (status : Status)
    → EngineHasLooked old last → (¬ SawWaiting last.consumer.trail) → AreAtOnePlace (control old.consumer.ring.made_with.geometry (world last.consumer.history))
    → IsSettled old.unit.caches.entries (taken_of old.consumer.trail) → AreOwn old.unit.caches.entries
    → IsNewRing sizes.log2 (sender_count old_senders) sizes.max_batches queue.ring queue.senders.items queue.engine.consumer
    → IsCarried sizes.capacity last.unit queue.engine.unit → length senders ≡ sender_count old_senders → IsNotRenewed sizes (sender_count old_senders) old NoMemory
    → HasGoneOn queue old_senders senders last new status → HasRenewed sizes old_senders senders old new status
gone_on sizes queue old_senders senders old last new status looked unseen none settled own unused carried as_many possible (inl (is_done, new_is, filled)) =
    subst (λ (s : Status). HasRenewed sizes old_senders senders old new s) (sym is_done)
    (subst (λ (e : EngineValue). IsRenewed sizes senders old e) (sym new_is)
    (renewed sizes _ senders old last queue.engine queue.ring queue.senders.items _ looked none settled own unused carried as_many filled refl))
gone_on sizes queue old_senders senders old last new status looked unseen none settled own unused carried as_many possible (inr (no_memory, new_is, kept)) =
    subst (λ (s : Status). HasRenewed sizes old_senders senders old new s) (sym no_memory)
    (subst (λ (e : EngineValue). EngineHasLooked old e) (sym new_is) looked, subst (λ (e : EngineValue). ¬ SawWaiting e.consumer.trail) (sym new_is) unseen, possible, kept)
