-- What an end says of the worked run, in which sender 0 sends x, sender 1 sends y with a closing sync, and all three are
-- taken while the ring is open; and what a won exchange and a receipt say.
use Rattle.std.proofs.Common.{◌≡◌, ℕ, ◌<◌, Bool, true, false, List, [], ◌∷◌, ◌++◌, length, Some, None, refl, sym, ap, ◌∙◌, arith}
use Rattle.std.proofs.lemmas.Option.{same_Some}
use Rattle.std.specs.Prelude.{slice_get}
use Rattle.cmdcodec.specs.declared.raw.Raw.{Raw}
use Rattle.qindex.specs.declared.control.Control.{Control}
use Rattle.ringcore.specs.declared.world.event.Who.TheVariants.{Sender}
use Rattle.ringcore.specs.declared.world.event.Event.TheVariants.{Won}
use Rattle.ringcore.specs.world.Trails.{Trail, Run, trail_of, raws_by}
use Rattle.ringcore.specs.world.World.{sync_raw, taken_as, world}
use Rattle.ringcore.specs.world.Delivery.{Batch, batches, joined, has_close}
use Rattle.ringcore.specs.world.Laws.{batches_of, own_batches}
use Rattle.ringcore.specs.world.ConsumerLaws.{SawDrained}
use Rattle.ring.specs.Rings.{RingValue}
use Rattle.ring.specs.sender.Senders.{SenderValue, ReceiptValue}
use Rattle.ring.specs.sender.Reservations.{ReservationValue, IsReceiptOf, reserved_number}
use Rattle.ring.specs.sender.Reserving.{IsWon, control_in}
use Rattle.ring.specs.consumer.Consumers.{ConsumerValue}
use Rattle.ring.specs.consumer.Completing.{taken_of}
use Rattle.ring.specs.Finishing.{SummaryValue, IsEnd}
use Rattle.ring_tests.proofs.WorkedCases.{x, y, shows}
use Rattle.ring_tests.proofs.WorkedTold.{told_22}

-- the low word of the first command
abbrev first_lo : List Raw → ℕ
first_lo [] = 0
first_lo (raw ∷ raws) = raw.lo

-- What was reserved first was taken first.
pub first_reserved_is_first_taken : {D : Type 0} (ring : RingValue) (senders : List SenderValue) (consumer : ConsumerValue D) (summary : SummaryValue) (end : IsEnd ring senders consumer summary)
    → end.run ≡ told_22 → (raw : Raw) (raws : List Raw) → raws_by consumer.trail ≡ raw ∷ raws → raw.lo ≡ 0x500000003
first_reserved_is_first_taken ring senders consumer summary end run_is raw raws taken =
    let begins = end.taken_in_order in
    let all = sym (ap (λ (run : Run). joined (batches run)) run_is) ∙ begins.1 ∙ ap (λ (taken : List Raw). taken ++ begins.0) taken in
    sym (ap first_lo all)

-- The consumer knows what was taken, and how.
pub end_tells_what_was_taken : {D : Type 0} (ring : RingValue) (senders : List SenderValue) (consumer : ConsumerValue D) (summary : SummaryValue) (end : IsEnd ring senders consumer summary)
    → end.run ≡ told_22 → taken_of consumer.trail ≡ taken_as x ∷ taken_as y ∷ taken_as (sync_raw 1 1) ∷ []
end_tells_what_was_taken ring senders consumer summary end run_is = sym end.taken_list ∙ ap (λ (run : Run). (world run).taken) run_is

-- If as many were taken as reserved, they are all that was reserved.
pub all_reserved_is_taken : {D : Type 0} (ring : RingValue) (senders : List SenderValue) (consumer : ConsumerValue D) (summary : SummaryValue) (end : IsEnd ring senders consumer summary)
    → end.run ≡ told_22 → summary.taken ≡ summary.reserved → raws_by consumer.trail ≡ x ∷ y ∷ sync_raw 1 1 ∷ []
all_reserved_is_taken ring senders consumer summary end run_is all = end.whole all ∙ ap (λ (run : Run). joined (batches run)) run_is

-- Nobody closed the ring, so the consumer didn't see it drained.
pub open_ring_was_not_drained : {D : Type 0} (ring : RingValue) (senders : List SenderValue) (consumer : ConsumerValue D) (summary : SummaryValue) (end : IsEnd ring senders consumer summary)
    → end.run ≡ told_22 → ¬ SawDrained consumer.trail
open_ring_was_not_drained ring senders consumer summary end run_is saw =
    let same : true ≡ false = sym (end.drained saw).0 ∙ end.closed ∙ ap has_close run_is in absurd (cc)

-- A sender's steps are those of it in the run.
pub senders_steps_are_in_the_run : {D : Type 0} (ring : RingValue) (senders : List SenderValue) (consumer : ConsumerValue D) (summary : SummaryValue) (end : IsEnd ring senders consumer summary)
    → end.run ≡ told_22 → (s : SenderValue) → slice_get senders 1 ≡ Some s → s.trail ≡ trail_of (Sender 1) told_22
senders_steps_are_in_the_run ring senders consumer summary end run_is s at = sym (end.run_of.of_senders 1 s at) ∙ ap (trail_of (Sender 1)) run_is

abbrev batch_of_y : Batch
batch_of_y = record { sender = 1; number = Some 1; body = y ∷ [] }

-- Sender 1 reserved that batch, and none besides.
pub senders_batches_are_merged : {D : Type 0} (ring : RingValue) (senders : List SenderValue) (consumer : ConsumerValue D) (summary : SummaryValue) (end : IsEnd ring senders consumer summary)
    → end.run ≡ told_22 → (s : SenderValue) → slice_get senders 1 ≡ Some s → own_batches 1 s.trail ≡ batch_of_y ∷ []
senders_batches_are_merged ring senders consumer summary end run_is s at =
    sym (end.merge.each 1 s at) ∙ ap (λ (run : Run). batches_of 1 (batches run)) run_is

-- Whoever reserved is one of the senders.
pub nobody_else_reserved : {D : Type 0} (ring : RingValue) (senders : List SenderValue) (consumer : ConsumerValue D) (summary : SummaryValue) (end : IsEnd ring senders consumer summary)
    → end.run ≡ told_22 → 1 < length senders
nobody_else_reserved ring senders consumer summary end run_is = end.merge.only 1 batch_of_y (ap (λ (run : Run). slice_get (batches run) 1) run_is)

-- ---- reserving

-- Something was reserved since the look, so its exchange isn't won.
pub old_look_wins_nothing : (body : List Raw) (closes : Bool) (s : SenderValue) (r : ReservationValue) (won : IsWon body closes (shows 2 0 0 false) s r)
    → ¬ (control_in s won.grew.before ≡ shows 2 1 0 false)
old_look_wins_nothing body closes s r won now =
    let same : 0 ≡ 1 = ap (λ (c : Control). c.prod.number) (won.stood ∙ now) in absurd (omega (arith, same))

-- ---- a receipt

-- The batch was reserved with number 3, and its receipt tells no other.
pub receipt_tells_the_number : (r : ReservationValue) (receipt : ReceiptValue) (is : IsReceiptOf r receipt)
    → r.trail ≡ Won (y ∷ []) (Some 3) ∷ Won (x ∷ []) (Some 2) ∷ [] → receipt.number ≡ 3
receipt_tells_the_number r receipt is trail = sym (same_Some _ _ (sym (ap reserved_number trail) ∙ is.number_is))
