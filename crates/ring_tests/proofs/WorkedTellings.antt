-- What a sender may not be told, and what an end of a ring may not say.
use Rattle.std.proofs.Common.{◌≡◌, ℕ, ◌≤◌, Bool, true, false, List, [], ◌∷◌, ◌++◌, length, Some, None, refl, sym, ap, ◌∙◌, leb-true, arith}
use Rattle.std.specs.Prelude.{slice_get, nat_le}
use Rattle.ringcore.specs.declared.world.event.Who.TheVariants.{Consumer, Sender}
use Rattle.ringcore.specs.declared.world.event.Event.{Event}
use Rattle.ringcore.specs.declared.world.event.Event.TheVariants.{Won, Advance, Ask}
use Rattle.ringcore.specs.world.Trails.{Trail, Run, trail_of, raws_by}
use Rattle.ringcore.specs.world.World.{sync_raw}
use Rattle.ringcore.specs.world.Delivery.{batches, joined, advanced, has_close}
use Rattle.ring.specs.Rings.{RingValue}
use Rattle.ring.specs.sender.Senders.{SenderValue, HasAsked}
use Rattle.ring.specs.consumer.Consumers.{ConsumerValue}
use Rattle.ring.specs.Finishing.{WasTold, SummaryValue, IsEnd}
use Rattle.ring_tests.proofs.WorkedCases.{x}
use Rattle.ring_tests.proofs.WorkedTold.{told_22}

-- ---- an ask

abbrev found_by : Trail → ℕ
found_by (Ask found ∷ es) = found
found_by es = 0

-- the sender once its ask found this number
abbrev has_found : ℕ → SenderValue → SenderValue
has_found found s = record s { trail = Ask found ∷ s.trail }

the_number : (number found : ℕ) (s : SenderValue) (answer : Bool) (did : HasAsked number s (has_found found s) answer) → found ≡ did.0
the_number number found s answer did = ap (λ (t : SenderValue). found_by t.trail) did.1

-- It found its own number, and is told that it isn't done.
pub done_is_not_open : (s : SenderValue) → ¬ HasAsked 1 s (has_found 1 s) false
done_is_not_open s did = let same : false ≡ true = did.2 ∙ ap (λ found. nat_le 1 found) (sym (the_number 1 1 s false did)) in absurd (cc)

-- It found the number before its own, and is told that its own is done.
pub open_is_not_done : (s : SenderValue) → ¬ HasAsked 2 s (has_found 1 s) true
open_is_not_done s did = let same : true ≡ false = did.2 ∙ ap (λ found. nat_le 2 found) (sym (the_number 2 1 s true did)) in absurd (cc)

-- ---- what was told of an ask

-- Sender 1 asks twice, and is told number 1 both times. When it asked first nothing of its batch was taken.
abbrev told_too_early : Run
told_too_early = (Sender 1, Ask 1) ∷ (Consumer, Advance (x ∷ sync_raw 1 1 ∷ [])) ∷ (Sender 1, Ask 1) ∷ (Sender 1, Won (x ∷ []) (Some 1)) ∷ []

abbrev before_first_ask : Run
before_first_ask = (Sender 1, Won (x ∷ []) (Some 1)) ∷ []

nothing_is_more : {A : Type 0} (xs : List A) (a : A) (ys : List A) → ¬ ([] ≡ xs ++ a ∷ ys)
nothing_is_more [] a ys is = absurd (cc)
nothing_is_more (b ∷ xs) a ys is = absurd (cc)

abbrev behind_newest : Run → Run
behind_newest [] = []
behind_newest (e ∷ run) = run

abbrev newest : Run → Event
newest [] = Ask 0
newest (e ∷ run) = e.1

abbrev is_ask : Event → Bool
is_ask (Ask number) = true
is_ask e = false

-- The first ask is the one after which this trail stands, so that it can't be taken for the second, which was told
-- rightly.
at_first : (later earlier : Run) → told_too_early ≡ later ++ (Sender 1, Ask 1) ∷ earlier → trail_of (Sender 1) earlier ≡ trail_of (Sender 1) before_first_ask → earlier ≡ before_first_ask
at_first [] earlier is trail_is =
    let run_is = ap behind_newest is in
    let many : 2 ≡ 1 = ap (λ run. length (trail_of (Sender 1) run)) run_is ∙ ap length trail_is in absurd (omega (arith, many))
at_first (a ∷ []) earlier is trail_is = let none : false ≡ true = ap (λ run. is_ask (newest (behind_newest run))) is in absurd (cc)
at_first (a ∷ b ∷ []) earlier is trail_is = sym (ap (λ run. behind_newest (behind_newest (behind_newest run))) is)
at_first (a ∷ b ∷ c ∷ []) earlier is trail_is =
    let none : false ≡ true = ap (λ run. is_ask (newest (behind_newest (behind_newest (behind_newest run))))) is in absurd (cc)
at_first (a ∷ b ∷ c ∷ d ∷ later) earlier is trail_is =
    absurd (nothing_is_more later (Sender 1, Ask 1) earlier (ap (λ run. behind_newest (behind_newest (behind_newest (behind_newest run)))) is))

pub first_ask_was_not_told_rightly : ¬ WasTold told_too_early 1 1 (trail_of (Sender 1) before_first_ask)
first_ask_was_not_told_rightly told =
    let some : 1 ≤ 1 = leb-true 1 1 refl in
    let then = at_first told.later told.earlier told.run_is told.trail_is in
    let completed = (told.applied 1 some some).completed in
    let sync_at = length (joined completed.ahead ++ completed.body) in
    let none : None ≡ Some (sync_raw 1 1) = sym (ap (λ run. slice_get (advanced run) sync_at) then) ∙ completed.sync in
    absurd (cc)

-- ---- an end

-- Nobody closed the ring, and the summary says that it is closed.
pub open_ring_is_not_told_as_closed : {D : Type 0} (ring : RingValue) (senders : List SenderValue) (consumer : ConsumerValue D) (summary : SummaryValue) (end : IsEnd ring senders consumer summary)
    → end.run ≡ told_22 → ¬ (summary.closed ≡ true)
open_ring_is_not_told_as_closed ring senders consumer summary end run_is says =
    let same : true ≡ false = sym says ∙ end.closed ∙ ap has_close run_is in absurd (cc)

-- Three commands were reserved, and three taken: no other numbers are told.
pub end_tells_how_many : {D : Type 0} (ring : RingValue) (senders : List SenderValue) (consumer : ConsumerValue D) (summary : SummaryValue) (end : IsEnd ring senders consumer summary)
    → end.run ≡ told_22 → (summary.reserved ≡ 3) × (summary.taken ≡ 3)
end_tells_how_many ring senders consumer summary end run_is =
    (end.reserved ∙ ap (λ run. length (joined (batches run))) run_is, end.taken ∙ ap (λ trail. length (raws_by trail)) (sym end.run_of.of_consumer) ∙ ap (λ run. length (raws_by (trail_of Consumer run))) run_is)
