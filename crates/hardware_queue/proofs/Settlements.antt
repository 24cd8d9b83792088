-- What is settled, command by command.
use Rattle.std.proofs.Common.{◌≡◌, ℕ, suc, ◌+◌, ◌<◌, ◌≤◌, List, [], ◌∷◌, ◌++◌, length, map, Some, None, refl, ap, sym, subst, ◌∙◌, arith, append_assoc, length-append}
use Rattle.std.proofs.lemmas.List.{append-nil}
use Rattle.std.specs.Prelude.{slice_get, drop}
use Rattle.circular_buffer.specs.Buffer.{Buffer, buffer}
use Rattle.cmdcodec.specs.declared.raw.Raw.{Raw}
use Rattle.cmdcodec.specs.Legality.{first_ill}
use Rattle.qindex.specs.Positions.{size}
use Rattle.ringcore.specs.declared.world.event.Outcome.{Outcome}
use Rattle.ringcore.specs.declared.world.event.Outcome.TheVariants.{Applied, Replaced}
use Rattle.ringcore.specs.world.Trails.{Trail, raws_by}
use Rattle.ringcore.specs.world.World.{taken_as, outcome_of}
use Rattle.ring.specs.consumer.PendingConsumers.{IsFirst}
use Rattle.ring.specs.consumer.Completing.{acknowledged, all_acknowledged}
use Rattle.ring.specs.consumer.Deferring.{DeferringValue, settled_raws, unsettled_raws}
use Rattle.hardware_queue.specs.declared.flight.InFlight.{InFlight}
use Rattle.hardware_queue.specs.declared.state.QueueState.{QueueState}
use Rattle.hardware_queue.specs.declared.state.QueueState.TheVariants as state
use Rattle.hardware_queue.specs.declared.queue_progress.Progress.{Progress}
use Rattle.hardware_queue.specs.declared.queue_progress.Progress.TheVariants as progress
use Rattle.hardware_queue.specs.Queues.{QueueValue}
use Rattle.hardware_queue.specs.Owners.{HasConsumed, HasPolled, IsSameButSeen}
use Rattle.hardware_queue.specs.Flights.{count_passed, passed_for, HasConsumedAll, NoSyncIsLost, BeginsLegal}
use Rattle.hardware_queue.specs.Kept.{IsInFlight, IsBeingSettled, in_flight}
use Rattle.hardware_queue.specs.Steps.{HasSettled, HasSettledOne, HasSettledAll}
use Rattle.hardware_queue.proofs.Forwards.{passed_for-append, passed_applied, passed_replaced, passed_in_two, in_two, legal_of, syncs_kept}

-- ---- the oldest

unsettled_first : (raws : List Raw) (first : InFlight) → slice_get (map in_flight raws) 0 ≡ Some first → (raws ≡ first.raw ∷ drop 1 raws) × (first ≡ in_flight first.raw)
unsettled_first [] first at = absurd (cc)
unsettled_first (raw ∷ raws) first at =
    let one : in_flight raw ≡ first = cc in
    let same : raw ≡ first.raw = ap (λ (c : InFlight). c.raw) one in
    (ap (λ (r : Raw). r ∷ raws) same, sym one ∙ ap in_flight same)

-- The oldest in flight is the first that isn't settled.
pub oldest : {D : Type 0} (q : QueueValue) (c : DeferringValue D) (kept : Buffer InFlight) (left : ℕ) (first : InFlight) → IsBeingSettled q c kept left → slice_get kept.items 0 ≡ Some first
    → IsFirst first.raw (unsettled_raws c)
oldest q c kept left first is at =
    (drop 1 (unsettled_raws c), (unsettled_first (unsettled_raws c) first (ap (λ (l : List InFlight). slice_get l 0) (sym is.kept_are) ∙ at)).0)

pub outcome_is : {D : Type 0} (q : QueueValue) (c : DeferringValue D) (kept : Buffer InFlight) (left : ℕ) (first : InFlight) → IsBeingSettled q c kept left → slice_get kept.items 0 ≡ Some first
    → first.outcome ≡ outcome_of first.raw
outcome_is q c kept left first is at =
    ap (λ (f : InFlight). f.outcome) (unsettled_first (unsettled_raws c) first (ap (λ (l : List InFlight). slice_get l 0) (sym is.kept_are) ∙ at)).1

count_by : (o : Outcome) (raw : Raw) → o ≡ outcome_of raw → length (passed_for (raw ∷ [])) ≡ count_passed o
count_by Applied raw is = ap (λ (l : List Raw). length l) (passed_applied raw [] is)
count_by Replaced raw is = ap (λ (l : List Raw). length l) (passed_replaced raw [] is)

pub settled_more : (settled : List Raw) (raw : Raw) (o : Outcome) → o ≡ outcome_of raw → length (passed_for (settled ++ raw ∷ [])) ≡ length (passed_for settled) + count_passed o
settled_more settled raw o is =
    ap (λ (l : List Raw). length l) (passed_for-append settled (raw ∷ []))
    ∙ length-append (passed_for settled) (passed_for (raw ∷ []))
    ∙ ap (λ (n : ℕ). length (passed_for settled) + n) (count_by o raw is)

-- It may be settled, if it is illegal or one of those that were consumed.
pub may_settle : {D : Type 0} (q : QueueValue) (c : DeferringValue D) (kept : Buffer InFlight) (left : ℕ) (first : InFlight) → IsBeingSettled q c kept left → slice_get kept.items 0 ≡ Some first
    → count_passed first.outcome ≤ left → HasConsumedAll q (map taken_as (settled_raws c ++ first.raw ∷ []))
may_settle q c kept left first is at enough =
    let raw : Raw = first.raw in
    let found = oldest q c kept left first is at in
    let rest : List Raw = found.0 in
    let unsettled : unsettled_raws c ≡ raw ∷ rest = found.1 in
    let whole : settled_raws c ++ unsettled_raws c ≡ (settled_raws c ++ raw ∷ []) ++ rest =
    ap (λ (l : List Raw). settled_raws c ++ l) unsettled ∙ sym (append_assoc (settled_raws c) (raw ∷ []) rest) in
    let more = settled_more (settled_raws c) raw first.outcome (outcome_is q c kept left first is at) in
    let consumed = is.consumed in
    record {
      rest = passed_for rest;
      shown = is.shown ∙ ap passed_for (in_two c ∙ whole) ∙ passed_for-append (settled_raws c ++ raw ∷ []) rest;
      consumed = omega (arith, more, consumed, enough);
    }

-- ---- one is settled

pub one_settled : {D : Type 0} (q : QueueValue) (old new : DeferringValue D) (kept next : Buffer InFlight) (left rest : ℕ) (first : InFlight) → IsBeingSettled q old kept left → slice_get kept.items 0 ≡ Some first
    → left ≡ rest + count_passed first.outcome → settled_raws new ≡ settled_raws old ++ first.raw ∷ [] → unsettled_raws old ≡ first.raw ∷ unsettled_raws new → next ≡ buffer (drop 1 kept.items) kept.capacity
    → IsBeingSettled q new next rest
one_settled q old new kept next left rest first is at left_is settled unsettled kept_is =
    let raw : Raw = first.raw in
    let same : raws_by old.consumer.trail ≡ raws_by new.consumer.trail =
    in_two old ∙ ap (λ (l : List Raw). settled_raws old ++ l) unsettled ∙ sym (append_assoc (settled_raws old) (raw ∷ []) (unsettled_raws new))
    ∙ ap (λ (l : List Raw). l ++ unsettled_raws new) (sym settled) ∙ sym (in_two new) in
    let more = ap (λ (l : List Raw). length (passed_for l)) settled ∙ settled_more (settled_raws old) raw first.outcome (outcome_is q old kept left first is at) in
    let consumed = is.consumed in
    record {
      shown = is.shown ∙ ap passed_for same;
      consumed = omega (arith, more, consumed, left_is);
      kept_are = ap (λ (b : Buffer InFlight). b.items) kept_is ∙ ap (drop 1) (is.kept_are ∙ ap (map in_flight) unsettled);
      capacity = ap (λ (b : Buffer InFlight). b.capacity) kept_is ∙ is.capacity;
    }

-- ---- none can be settled

no_first : (raws : List Raw) → None ≡ slice_get (map in_flight raws) 0 → raws ≡ []
no_first [] at = refl
no_first (raw ∷ raws) at = absurd (cc)

-- Nothing is in flight, so that all that was consumed is settled.
pub none_left : {D : Type 0} (q : QueueValue) (c : DeferringValue D) (kept : Buffer InFlight) (left : ℕ) → IsBeingSettled q c kept left → q.consumed ≤ length q.shown → None ≡ slice_get kept.items 0
    → (left ≡ 0) × BeginsLegal (unsettled_raws c)
none_left q c kept left is order at =
    let empty : unsettled_raws c ≡ [] = no_first (unsettled_raws c) (at ∙ ap (λ (l : List InFlight). slice_get l 0) is.kept_are) in
    let shown : length q.shown ≡ length (passed_for (settled_raws c)) + length (passed_for (unsettled_raws c)) =
    ap (λ (l : List Raw). length l) (is.shown ∙ passed_in_two c) ∙ length-append (passed_for (settled_raws c)) (passed_for (unsettled_raws c)) in
    let none : length (passed_for (unsettled_raws c)) ≡ 0 = ap (λ (l : List Raw). length (passed_for l)) empty in
    let consumed = is.consumed in (
      omega (arith, shown, none, consumed, order),
      λ raw first. let never : [] ≡ raw ∷ first.0 = sym empty ∙ first.1 in absurd (cc),
    )

waits_by : (o : Outcome) (left : ℕ) → left < count_passed o → (left ≡ 0) × (Applied ≡ o)
waits_by Applied left few = (omega (arith, few), refl)
waits_by Replaced left few = absurd (omega (arith, few))

-- The oldest is for the hardware, which hasn't consumed it.
pub waits : {D : Type 0} (q : QueueValue) (c : DeferringValue D) (kept : Buffer InFlight) (left : ℕ) (first : InFlight) → IsBeingSettled q c kept left → slice_get kept.items 0 ≡ Some first
    → left < count_passed first.outcome → (left ≡ 0) × BeginsLegal (unsettled_raws c)
waits q c kept left first is at few =
    let by = waits_by first.outcome left few in
    let found = oldest q c kept left first is at in
    let legal = legal_of first.raw (by.1 ∙ outcome_is q c kept left first is at) in (
      by.0,
      λ raw begins.
          let both : first.raw ∷ found.0 ≡ raw ∷ begins.0 = sym found.1 ∙ begins.1 in
          let same : first.raw ≡ raw = cc in
          subst (λ (r : Raw). first_ill r ≡ None) same legal,
    )

-- ---- several

pub none_settled : {D : Type 0} (c : DeferringValue D) → HasSettled [] c c
none_settled c = record { settled = sym (append-nil (settled_raws c)); unsettled = refl; acknowledged = refl }

all_but_last : (now : List Raw) (raw : Raw) (t : Trail) → all_acknowledged (now ++ raw ∷ []) t ≡ acknowledged raw (all_acknowledged now t)
all_but_last [] raw t = refl
all_but_last (x ∷ now) raw t = all_but_last now raw (acknowledged x t)

pub settled_then : {D : Type 0} (now : List Raw) (raw : Raw) (first second third : DeferringValue D) → HasSettled now first second → HasSettled (raw ∷ []) second third → HasSettled (now ++ raw ∷ []) first third
settled_then now raw first second third a b = record {
  settled = b.settled ∙ ap (λ (l : List Raw). l ++ raw ∷ []) a.settled ∙ append_assoc (settled_raws first) now (raw ∷ []);
  unsettled = a.unsettled ∙ ap (λ (l : List Raw). now ++ l) b.unsettled ∙ sym (append_assoc now (raw ∷ []) (unsettled_raws third));
  acknowledged = b.acknowledged ∙ ap (acknowledged raw) a.acknowledged ∙ sym (all_but_last now raw first.consumer.trail);
}

-- One fewer is in flight.
pub one_fewer : {D : Type 0} (old new : DeferringValue D) → HasSettledOne old new → length (unsettled_raws old) ≡ suc (length (unsettled_raws new))
one_fewer old new (raw, is) = ap (λ (l : List Raw). length l) is.unsettled

-- ---- a look

-- What was consumed in a look isn't settled yet.
pub consumed_more : {D : Type 0} (q r : QueueValue) (found : QueueState) (c : DeferringValue D) (kept : Buffer InFlight) (word count : ℕ) → IsInFlight q found c kept → HasConsumed word q r count
    → IsBeingSettled r c kept count
consumed_more q r found c kept word count is more = record {
  shown = ap (λ (x : QueueValue). x.shown) more.new_is ∙ is.shown;
  consumed = ap (λ (x : QueueValue). x.consumed) more.new_is ∙ ap (λ (n : ℕ). n + count) is.consumed;
  kept_are = is.kept_are;
  capacity = is.capacity ∙ ap (λ (x : QueueValue). size x.geometry) (sym more.new_is);
}

-- What a look leaves as it is.
pub record IsLeft (q r : QueueValue) : Type 0 where
  pub shown : r.shown ≡ q.shown
  pub lost : r.lost ≡ q.lost
  pub repeated : r.repeated ≡ q.repeated

pub left : (q r : QueueValue) (found : Progress) → HasPolled q r found → IsLeft q r
left q r (progress.Consumed count) p = record {
  shown = ap (λ (x : QueueValue). x.shown) p.found.0.new_is;
  lost = ap (λ (x : QueueValue). x.lost) p.found.0.new_is;
  repeated = ap (λ (x : QueueValue). x.repeated) p.found.0.new_is;
}
left q r (progress.Stopped count error) p = record {
  shown = ap (λ (x : QueueValue). x.shown) p.found.0.new_is;
  lost = ap (λ (x : QueueValue). x.lost) p.found.0.new_is;
  repeated = ap (λ (x : QueueValue). x.repeated) p.found.0.new_is;
}
left q r (progress.Broken word) p = record {
  shown = ap (λ (x : QueueValue). x.shown) p.found.2;
  lost = ap (λ (x : QueueValue). x.lost) p.found.2;
  repeated = ap (λ (x : QueueValue). x.repeated) p.found.2;
}

pub syncs_left : (q r : QueueValue) → IsLeft q r → NoSyncIsLost q → NoSyncIsLost r
syncs_left q r is none = syncs_kept q r [] (is.shown ∙ sym (append-nil q.shown)) is.lost none

-- Where it found what no working queue has, all is in flight as before.
pub broken_still : {D : Type 0} (q r : QueueValue) (found : QueueState) (c : DeferringValue D) (kept : Buffer InFlight) (word : ℕ) → IsInFlight q found c kept → IsSameButSeen q r
    → IsInFlight r (state.Broken word) c kept
broken_still q r found c kept word is same = record {
  shown = ap (λ (x : QueueValue). x.shown) same ∙ is.shown;
  consumed = ap (λ (x : QueueValue). x.consumed) same ∙ is.consumed;
  kept_are = is.kept_are;
  capacity = is.capacity ∙ ap (λ (x : QueueValue). size x.geometry) (sym same);
  stopped = λ at. let never : state.Broken word ≡ state.Stopped at.0 = at.1 in absurd (cc);
}

pub consumed_within : (q r : QueueValue) (word count : ℕ) → HasConsumed word q r count → r.consumed ≤ length r.shown
consumed_within q r word count more =
    let shown : length r.shown ≡ length q.shown = ap (λ (x : QueueValue). length x.shown) more.new_is in
    let consumed : r.consumed ≡ q.consumed + count = ap (λ (x : QueueValue). x.consumed) more.new_is in
    let within = more.believed.within in
    let count_is = more.count_is in
    omega (arith, shown, consumed, within, count_is)

pub all_settled : {D : Type 0} (q : QueueValue) (found : QueueState) (old new : DeferringValue D) (kept : Buffer InFlight) → IsBeingSettled q new kept 0 → HasSettledAll q old new → IsInFlight q found new kept
all_settled q found old new kept is all = record { shown = is.shown; consumed = all.consumed; kept_are = is.kept_are; capacity = is.capacity; stopped = λ at. all.next }
