-- What a consumer that acknowledges later may not have done, what a sender may not be told by it, and what its end says.
use Rattle.std.proofs.Common.{◌≡◌, ℕ, ◌+◌, ◌*◌, ◌≤◌, List, [], ◌∷◌, ◌++◌, length, Some, refl, subst, leb-true, arith}
use Rattle.std.specs.Prelude.{slice_get}
use Rattle.ringcore.specs.declared.world.event.Event.TheVariants.{Advance, Acknowledge, Ask}
use Rattle.ringcore.specs.world.Trails.{Trail, Run}
use Rattle.ringcore.specs.world.World.{sync_raw}
use Rattle.progress.specs.Contention.{all_losses}
use Rattle.ring.specs.Rings.{RingValue}
use Rattle.ring.specs.sender.Senders.{SenderValue}
use Rattle.ring.specs.consumer.Consumers.{ConsumerValue}
use Rattle.ring.specs.consumer.Deferring.{DeferringValue, IsDeferring, settled_raws}
use Rattle.ring.specs.Finishing.{SummaryValue, WasToldOfSettled, IsEnd, IsDeferredEnd}
use Rattle.ring_tests.proofs.WorkedCases.{x}

-- ---- what is acknowledged

-- It took x and the closing sync of sender 1, and has acknowledged that.
abbrev acknowledged_early : Trail
acknowledged_early = Acknowledge 1 1 ∷ Advance (x ∷ sync_raw 1 1 ∷ []) ∷ []

-- Only x is settled, so the sync isn't acknowledged.
pub unsettled_is_not_acknowledged : ¬ IsDeferring acknowledged_early 1
unsettled_is_not_acknowledged is = let same : 1 ≡ 0 = is.current 1 in absurd (omega (arith, same))

-- It took nothing, so nothing is settled.
pub untaken_is_not_settled : ¬ IsDeferring [] 1
untaken_is_not_settled is = let few : 1 ≤ 0 = is.few in absurd (omega (arith, few))

-- ---- what a sender was told

nothing_begins : {A : Type 0} (xs : List A) (a : A) (ys : List A) → ¬ ([] ≡ (xs ++ a ∷ []) ++ ys)
nothing_begins [] a ys is = absurd (cc)
nothing_begins (b ∷ xs) a ys is = absurd (cc)

-- Nothing is settled, not even a CMD_SYNC alone, so no sender was told of one.
pub unsettled_is_not_told : (run : Run) (s : ℕ) (older : Trail) → ¬ WasToldOfSettled [] run s 1 older
unsettled_is_not_told run s older told =
    let some : 1 ≤ 1 = leb-true 1 1 refl in
    let begins = told.settled_are 1 some some in
    nothing_begins _ (sync_raw s 1) begins.0 begins.1

-- ---- an end

-- Two senders lost two exchanges at most, where nothing was reserved or taken: they lost them to the close.
pub idle_ring_loses_few : {D : Type 0} (ring : RingValue) (senders : List SenderValue) (consumer : ConsumerValue D) (summary : SummaryValue) (end : IsEnd ring senders consumer summary)
    → length senders ≡ 2 → summary.reserved ≡ 0 → summary.taken ≡ 0 → all_losses end.run ≤ 2
idle_ring_loses_few ring senders consumer summary end many reserved taken =
    subst (λ most. all_losses end.run ≤ most) (λ j. many j * (reserved j + taken j + 1)) end.lost

-- Sender 1 asked twice. What its first ask was told is settled too.
pub end_tells_of_each_ask : {D : Type 0} (ring : RingValue) (senders : List SenderValue) (consumer : DeferringValue D) (summary : SummaryValue) (end : IsDeferredEnd ring senders consumer summary)
    → (s : SenderValue) (older : Trail) → slice_get senders 1 ≡ Some s → s.trail ≡ Ask 2 ∷ Ask 1 ∷ older → WasToldOfSettled (settled_raws consumer) end.end_is.run 1 1 older
end_tells_of_each_ask ring senders consumer summary end s older at trail_is = end.settled 1 s at (Ask 2 ∷ []) older 1 trail_is
