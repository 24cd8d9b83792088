-- The queue that comes back, and the new one, have all senders of their ring.
use Rattle.std.proofs.Common.{◌≡◌, ℕ, zero, suc, List, [], ◌∷◌, ◌++◌, length, Some, refl, sym, ap, ◌∙◌, subst, length-append, ⊎_elim, inl, inr, ◌⊎◌, arith}
use Rattle.std.specs.Prelude.{slice_get}
use Rattle.ringcore.specs.world.Allowed.{Ring}
use Rattle.ring.specs.Rings.{RingValue}
use Rattle.ring.specs.NewRings.{IsNewRing, new_sender, new_senders}
use Rattle.ring.specs.sender.Senders.{SenderValue}
use Rattle.ring.specs.consumer.Consumers.{ConsumerValue}
use Rattle.ring.specs.Finishing.{AreAll}
use Rattle.engine.specs.Units.{UnitValue}
use Rattle.renewal.specs.declared.queue.Queue.{Queue}
use Rattle.renewal.specs.Queues.{IsWhole, HasLooked}
use Rattle.renewal.proofs.Twins.{all_still}

pub still_whole : (old new : Queue) → AreAll old.ring old.senders.items → old.engine.consumer.ring ≡ old.ring → HasLooked old new → IsWhole new
still_whole old new all of_ring is = record {
  senders = subst (λ (r : RingValue). AreAll r new.senders.items) (sym is.ring_is) (all_still old.ring new.senders.items old.senders.items is.senders_are all);
  ring = ap (λ (d : ConsumerValue UnitValue). d.ring) is.consumer_is ∙ of_ring ∙ sym is.ring_is;
}

-- ---- a new one

as_many_new : (ring : RingValue) (n : ℕ) → length (new_senders ring n) ≡ n
as_many_new ring zero = refl
as_many_new ring (suc n) =
    let both = length-append (new_senders ring n) (new_sender ring n ∷ []) in
    let before = as_many_new ring n in
    omega (arith, both, before)

at_end : (xs : List SenderValue) (y s : SenderValue) (k : ℕ) → slice_get (xs ++ y ∷ []) k ≡ Some s → (slice_get xs k ≡ Some s) ⊎ ((k ≡ length xs) × (y ≡ s))
at_end [] y s zero at = inr (refl, cc)
at_end [] y s (suc k) at = absurd (cc)
at_end (x ∷ xs) y s zero at = inl at
at_end (x ∷ xs) y s (suc k) at =
    ⊎_elim
    (λ (old : slice_get xs k ≡ Some s). let is : (slice_get xs k ≡ Some s) ⊎ ((suc k ≡ suc (length xs)) × (y ≡ s)) = inl old in is)
    (λ (new : (k ≡ length xs) × (y ≡ s)). let is : (slice_get xs k ≡ Some s) ⊎ ((suc k ≡ suc (length xs)) × (y ≡ s)) = inr (ap (λ (n : ℕ). suc n) new.0, new.1) in is)
    (at_end xs y s k at)

new_at : (ring : RingValue) (n k : ℕ) (s : SenderValue) → slice_get (new_senders ring n) k ≡ Some s → (s.ring ≡ ring) × (s.number ≡ k)
new_at ring zero k s at = absurd (cc)
new_at ring (suc n) k s at =
    ⊎_elim
    (λ (old : slice_get (new_senders ring n) k ≡ Some s). new_at ring n k s old)
    (λ (new : (k ≡ length (new_senders ring n)) × (new_sender ring n ≡ s)).
    (ap (λ (t : SenderValue). t.ring) (sym new.1), ap (λ (t : SenderValue). t.number) (sym new.1) ∙ sym (as_many_new ring n) ∙ sym new.0))
    (at_end (new_senders ring n) (new_sender ring n) s k at)

pub new_whole : (log2 senders max_batches : ℕ) (new : Queue) → IsNewRing log2 senders max_batches new.ring new.senders.items new.engine.consumer → IsWhole new
new_whole log2 senders max_batches new is =
    let unused = is.unused in
    record {
      senders = subst (AreAll new.ring) (sym unused.senders_are) (record {
        many = as_many_new new.ring senders ∙ sym (ap (λ (r : Ring). r.senders) unused.made_is);
        each = new_at new.ring senders;
      });
      ring = ap (λ (d : ConsumerValue UnitValue). d.ring) unused.consumer_is;
    }
