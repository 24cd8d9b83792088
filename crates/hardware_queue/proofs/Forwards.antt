-- What the hardware gets, and what is in flight once more is taken.
use Rattle.std.proofs.Common.{◌≡◌, ℕ, true, false, zero, suc, ◌+◌, ◌-◌, ◌<◌, ◌≤◌, List, [], ◌∷◌, ◌++◌, length, map, Option, Some, None, refl, ap, ap₂, sym, subst, ◌∙◌, arith, append_assoc, length-append}
use Rattle.std.proofs.lemmas.List.{append-nil, map-append, length-map, length-take-le, take-append-drop}
use Rattle.std.specs.Prelude.{slice_get, take, drop, Contains, is_none, min, if◌then◌else◌, ◌==◌}
use Rattle.std.proofs.lemmas.Bool.Decides.{Decides-eqb}
use Rattle.circular_buffer.specs.Buffer.{Buffer, buffer}
use Rattle.cmdcodec.specs.declared.raw.Raw.{Raw}
use Rattle.cmdcodec.specs.declared.ill.Ill.{Ill}
use Rattle.cmdcodec.specs.Legality.{first_ill}
use Rattle.qindex.specs.Positions.{size}
use Rattle.ringcore.specs.declared.world.event.Outcome.{Outcome}
use Rattle.ringcore.specs.declared.world.event.Outcome.TheVariants.{Applied, Replaced}
use Rattle.ringcore.specs.declared.world.event.Event.TheVariants.{Advance}
use Rattle.ringcore.specs.world.Trails.{Trail, raws_by}
use Rattle.ringcore.specs.world.World.{Taken, taken_as, outcome_of}
use Rattle.ring.specs.consumer.Consumers.{ConsumerValue}
use Rattle.ring.specs.consumer.Pendings.{PendingValue, reads_from}
use Rattle.ring.specs.consumer.Taking.{TookRun}
use Rattle.ring.specs.consumer.Completing.{taken_of, with_outcome, HasOutcome}
use Rattle.ring.specs.consumer.Deferring.{DeferringValue, deferring, settled_raws, unsettled_raws}
use Rattle.hardware_queue.specs.declared.flight.InFlight.{InFlight}
use Rattle.hardware_queue.specs.declared.command_error.CommandError.{CommandError}
use Rattle.hardware_queue.specs.declared.forwarded.Forwarded.{Forwarded}
use Rattle.hardware_queue.specs.declared.forwarded.Forwarded.TheVariants as answer
use Rattle.hardware_queue.specs.declared.state.QueueState.{QueueState}
use Rattle.hardware_queue.specs.declared.state.QueueState.TheVariants as state
use Rattle.hardware_queue.specs.Queues.{QueueValue}
use Rattle.hardware_queue.specs.Owners.{IsStoppedState, IsStoppedHere, HasPushed, room}
use Rattle.hardware_queue.specs.Flights.{hardware_form, passed_as, passed_on, passed_for, HasConsumedAll, IsPassing, IsOtherAt, NoSyncIsLost, BeginsLegal}
use Rattle.hardware_queue.specs.Kept.{IsInFlight, in_flight, IsForwarder}
use Rattle.hardware_queue.specs.Steps.{ForwarderValue, HasTaken, HasServed, HasForwarded, room_for}
use Rattle.hardware_queue.proofs.PassLemmas.{take_more}

-- ---- what the hardware gets

pub passed_on-append : (a b : List Taken) → passed_on (a ++ b) ≡ passed_on a ++ passed_on b
passed_on-append [] b = refl
passed_on-append (t ∷ ts) b = ap (λ (xs : List Raw). passed_as t.outcome t.raw ++ xs) (passed_on-append ts b) ∙ sym (append_assoc (passed_as t.outcome t.raw) (passed_on ts) (passed_on b))

pub passed_for-append : (a b : List Raw) → passed_for (a ++ b) ≡ passed_for a ++ passed_for b
passed_for-append a b = ap passed_on (map-append taken_as a b) ∙ passed_on-append (map taken_as a) (map taken_as b)

pub passed_for_legal : (raws : List Raw) → HasOutcome Applied raws → passed_for raws ≡ map hardware_form raws
passed_for_legal [] all = refl
passed_for_legal (raw ∷ raws) all =
    ap (λ (o : Outcome). passed_as o raw ++ passed_for raws) (sym (all 0 raw refl))
    ∙ ap (λ (l : List Raw). hardware_form raw ∷ l) (passed_for_legal raws (λ i r at. all (suc i) r at))

-- A command that is for the hardware, and one that isn't.
pub passed_applied : (raw : Raw) (raws : List Raw) → Applied ≡ outcome_of raw → passed_for (raw ∷ raws) ≡ hardware_form raw ∷ passed_for raws
passed_applied raw raws is = ap (λ (o : Outcome). passed_as o raw ++ passed_for raws) (sym is)

pub passed_replaced : (raw : Raw) (raws : List Raw) → Replaced ≡ outcome_of raw → passed_for (raw ∷ raws) ≡ passed_for raws
passed_replaced raw raws is = ap (λ (o : Outcome). passed_as o raw ++ passed_for raws) (sym is)

one_at_most : (o : Outcome) (raw : Raw) (xs : List Raw) (n : ℕ) → length xs ≤ n → length (passed_as o raw ++ xs) ≤ suc n
one_at_most Applied raw xs n few = omega (arith, few)
one_at_most Replaced raw xs n few = omega (arith, few)

pub passed_few : (raws : List Raw) → length (passed_for raws) ≤ length raws
passed_few [] = omega arith
passed_few (raw ∷ raws) = one_at_most (outcome_of raw) raw (passed_for raws) (length raws) (passed_few raws)

-- What was taken is what is settled and what isn't.
pub in_two : {D : Type 0} (c : DeferringValue D) → raws_by c.consumer.trail ≡ settled_raws c ++ unsettled_raws c
in_two c = sym (take-append-drop c.settled (raws_by c.consumer.trail))

pub passed_in_two : {D : Type 0} (c : DeferringValue D) → passed_on (taken_of c.consumer.trail) ≡ passed_for (settled_raws c) ++ passed_for (unsettled_raws c)
passed_in_two c = ap passed_for (in_two c) ∙ passed_for-append (settled_raws c) (unsettled_raws c)

-- ---- outcomes

legal_in : (o : Option Ill) → Applied ≡ (if is_none o then Applied else Replaced) → o ≡ None
legal_in None e = refl
legal_in (Some ill) e = absurd (cc)

pub legal_of : (raw : Raw) → Applied ≡ outcome_of raw → first_ill raw ≡ None
legal_of raw e = legal_in (first_ill raw) e

pub applied_of : (raw : Raw) → first_ill raw ≡ None → Applied ≡ outcome_of raw
applied_of raw e = ap (λ (o : Option Ill). let k : Outcome = if is_none o then Applied else Replaced in k) (sym e)

ill_in : (o : Option Ill) → Replaced ≡ (if is_none o then Applied else Replaced) → (ill : Ill) × (o ≡ Some ill)
ill_in (Some ill) e = (ill, refl)
ill_in other e = absurd (cc)

pub ill_of : (raw : Raw) → Replaced ≡ outcome_of raw → (ill : Ill) × (first_ill raw ≡ Some ill)
ill_of raw e = ill_in (first_ill raw) e

pub with_outcomes : (outcome : Outcome) (raws : List Raw) → HasOutcome outcome raws → map taken_as raws ≡ map (with_outcome outcome) raws
with_outcomes outcome [] all = refl
with_outcomes outcome (raw ∷ raws) all =
    ap₂ (λ (o : Outcome) (l : List Taken). with_outcome o raw ∷ l) (sym (all 0 raw refl)) (with_outcomes outcome raws (λ i r at. all (suc i) r at))

pub is_zero : (n : ℕ) → true ≡ (n == 0) → n ≡ 0
is_zero n e = (Decides-eqb n 0).0 (sym e)

-- ---- lists

get_into_take : {A : Type 0} (xs : List A) (n i : ℕ) (x : A) → slice_get xs i ≡ Some x → i < n → slice_get (take n xs) i ≡ Some x
get_into_take [] n i x at less = absurd (cc)
get_into_take (y ∷ xs) zero i x at less = absurd (omega (arith, less))
get_into_take (y ∷ xs) (suc n) zero x at less = at
get_into_take (y ∷ xs) (suc n) (suc i) x at less = get_into_take xs n i x at (omega (arith, less))

-- ---- a run is kept

pub kept_more : (kept now next : Buffer InFlight) (raws : List Raw) (n count : ℕ) (raw : Raw) → now ≡ buffer (kept.items ++ map in_flight (take n raws)) kept.capacity
    → slice_get raws n ≡ Some raw → n < count → HasOutcome Applied (take count raws)
    → next ≡ buffer (now.items ++ record { raw = raw; outcome = Applied } ∷ []) now.capacity → next ≡ buffer (kept.items ++ map in_flight (take (n + 1) raws)) kept.capacity
kept_more kept now next raws n count raw is at less legal more =
    let one : record { raw = raw; outcome = Applied } ≡ in_flight raw =
    ap (λ (o : Outcome). let c : InFlight = record { raw = raw; outcome = o } in c) (legal n raw (get_into_take raws count n raw at less)) in
    let longer : map in_flight (take (n + 1) raws) ≡ map in_flight (take n raws) ++ in_flight raw ∷ [] =
    ap (map in_flight) (take_more raws n raw at) ∙ map-append in_flight (take n raws) (raw ∷ []) in
    more
    ∙ ap (λ (b : Buffer InFlight). buffer (b.items ++ record { raw = raw; outcome = Applied } ∷ []) b.capacity) is
    ∙ ap (λ (c : InFlight). buffer ((kept.items ++ map in_flight (take n raws)) ++ c ∷ []) kept.capacity) one
    ∙ ap (λ (l : List InFlight). buffer l kept.capacity) (append_assoc kept.items (map in_flight (take n raws)) (in_flight raw ∷ []))
    ∙ ap (λ (l : List InFlight). buffer (kept.items ++ l) kept.capacity) (sym longer)

pub kept_room : (kept now : Buffer InFlight) (raws : List Raw) (n count : ℕ) → now ≡ buffer (kept.items ++ map in_flight (take n raws)) kept.capacity
    → n < count → count ≤ length raws → length kept.items + count ≤ kept.capacity → length now.items < now.capacity
kept_room kept now raws n count is less few room =
    let long : length now.items ≡ length kept.items + length (map in_flight (take n raws)) =
    ap (λ (b : Buffer InFlight). length b.items) is ∙ length-append kept.items (map in_flight (take n raws)) in
    let more : length (map in_flight (take n raws)) ≡ n = length-map (take n raws) in_flight ∙ length-take-le n raws (omega (arith, less, few)) in
    let most : now.capacity ≡ kept.capacity = ap (λ (b : Buffer InFlight). b.capacity) is in
    omega (arith, long, more, most, less, room)

-- ---- more is taken

-- A run fits into the hardware's queue if it fits behind what isn't settled.
pub fits : {D : Type 0} (q : QueueValue) (found : QueueState) (c : DeferringValue D) (kept : Buffer InFlight) (raws all : List Raw) (count : ℕ) → IsInFlight q found c kept → IsPassing raws all
    → length kept.items + length raws ≤ kept.capacity → count ≡ min (length all) (room q) → count ≡ length all
fits q found c kept raws all count is passing within count_is =
    let shown : length q.shown ≡ length (passed_for (settled_raws c)) + length (passed_for (unsettled_raws c)) =
    ap (λ (l : List Raw). length l) (is.shown ∙ passed_in_two c) ∙ length-append (passed_for (settled_raws c)) (passed_for (unsettled_raws c)) in
    let consumed : q.consumed ≡ length (passed_for (settled_raws c)) = is.consumed in
    let kept_long : length kept.items ≡ length (unsettled_raws c) = ap (λ (l : List InFlight). length l) is.kept_are ∙ length-map (unsettled_raws c) in_flight in
    let few = passed_few (unsettled_raws c) in
    let slots : kept.capacity ≡ size q.geometry = is.capacity in
    let fewer = passing.few in
    omega (arith, shown, consumed, kept_long, few, slots, fewer, within, count_is)

begins_legal_longer : (raws more : List Raw) → BeginsLegal raws → 1 ≤ length raws → BeginsLegal (raws ++ more)
begins_legal_longer [] more is some = absurd (omega (arith, some))
begins_legal_longer (x ∷ raws) more is some = λ raw first.
    let e = first.1 in
    let same : x ≡ raw = cc in
    subst (λ (r : Raw). first_ill r ≡ None) same (is x (raws, refl))

-- These were taken, and the hardware was shown what it gets for them.
pub taken_in : {D : Type 0} (q r : QueueValue) (found : QueueState) (old new : DeferringValue D) (kept next : Buffer InFlight) (more : List Raw) → IsInFlight q found old kept
    → r.shown ≡ q.shown ++ passed_for more → r.consumed ≡ q.consumed → r.geometry ≡ q.geometry → raws_by new.consumer.trail ≡ raws_by old.consumer.trail ++ more
    → settled_raws new ≡ settled_raws old → unsettled_raws new ≡ unsettled_raws old ++ more → next ≡ buffer (kept.items ++ map in_flight more) kept.capacity
    → (IsStoppedState found → q.consumed < length q.shown) → IsInFlight r found new next
taken_in q r found old new kept next more is shown consumed geometry raws settled unsettled kept_is inside = record {
  shown = shown ∙ ap (λ (l : List Raw). l ++ passed_for more) is.shown ∙ sym (passed_for-append (raws_by old.consumer.trail) more) ∙ ap passed_for (sym raws);
  consumed = consumed ∙ is.consumed ∙ ap (λ (l : List Raw). length (passed_for l)) (sym settled);
  kept_are = ap (λ (b : Buffer InFlight). b.items) kept_is ∙ ap (λ (l : List InFlight). l ++ map in_flight more) is.kept_are
      ∙ sym (map-append in_flight (unsettled_raws old) more) ∙ ap (map in_flight) (sym unsettled);
  capacity = ap (λ (b : Buffer InFlight). b.capacity) kept_is ∙ is.capacity ∙ ap size (sym geometry);
  stopped = λ at.
      let long : length q.shown ≡ length (passed_for (settled_raws old)) + length (passed_for (unsettled_raws old)) =
      ap (λ (l : List Raw). length l) (is.shown ∙ passed_in_two old) ∙ length-append (passed_for (settled_raws old)) (passed_for (unsettled_raws old)) in
      let few = passed_few (unsettled_raws old) in
      let ahead : q.consumed ≡ length (passed_for (settled_raws old)) = is.consumed in
      let within = inside at in
      subst BeginsLegal (sym unsettled) (begins_legal_longer (unsettled_raws old) more (is.stopped at) (omega (arith, long, few, ahead, within)));
}

-- A run is taken with one outcome.
pub taken_with : {D : Type 0} (outcome : Outcome) (run : PendingValue D) (new : ConsumerValue D) (count : ℕ)
    → record new { history = [] } ≡ record run.consumer { trail = Advance (take count run.raws) ∷ run.consumer.trail; history = [] } → HasOutcome outcome (take count run.raws) → HasTaken outcome count run new
taken_with {D} outcome run new count advanced all = record {
  advanced = advanced;
  taken = ap (λ (x : ConsumerValue D). taken_of x.trail) advanced
      ∙ map-append taken_as (raws_by run.consumer.trail) (take count run.raws)
      ∙ ap (λ (l : List Taken). taken_of run.consumer.trail ++ l) (with_outcomes outcome (take count run.raws) all);
}

take_one : {A : Type 0} (xs : List A) (x : A) → slice_get xs 0 ≡ Some x → take 1 xs ≡ x ∷ []
take_one [] x at = absurd (cc)
take_one (y ∷ xs) x at = let same : y ≡ x = cc in ap (λ z. z ∷ []) same

outcome_of_one : (o : Outcome) (raw : Raw) → o ≡ outcome_of raw → HasOutcome o (raw ∷ [])
outcome_of_one o raw is zero other at = let same : raw ≡ other = cc in is ∙ ap outcome_of same
outcome_of_one o raw is (suc i) other at = absurd (cc)

pub one_is_replaced : (raws : List Raw) (raw : Raw) → slice_get raws 0 ≡ Some raw → Replaced ≡ outcome_of raw → HasOutcome Replaced (take 1 raws)
one_is_replaced raws raw at is = subst (HasOutcome Replaced) (sym (take_one raws raw at)) (outcome_of_one Replaced raw is)

pub replaced_in : {D : Type 0} (q : QueueValue) (found : QueueState) (old new : DeferringValue D) (kept next : Buffer InFlight) (raws : List Raw) (raw : Raw) → IsInFlight q found old kept
    → record new.consumer { history = [] } ≡ record old.consumer { trail = Advance (take 1 raws) ∷ old.consumer.trail; history = [] } → settled_raws new ≡ settled_raws old
    → unsettled_raws new ≡ unsettled_raws old ++ take 1 raws → next ≡ buffer (kept.items ++ record { raw = raw; outcome = Replaced } ∷ []) kept.capacity
    → slice_get raws 0 ≡ Some raw → Replaced ≡ outcome_of raw → (IsStoppedState found → q.consumed < length q.shown) → IsInFlight q found new next
replaced_in {D} q found old new kept next raws raw is advanced settled unsettled kept_is at ill inside =
    let one : take 1 raws ≡ raw ∷ [] = take_one raws raw at in
    let none : passed_for (raw ∷ []) ≡ [] = passed_replaced raw [] ill in
    let command : record { raw = raw; outcome = Replaced } ≡ in_flight raw = ap (λ (o : Outcome). let c : InFlight = record { raw = raw; outcome = o } in c) ill in
    taken_in q q found old new kept next (raw ∷ []) is
    (sym (append-nil q.shown) ∙ ap (λ (l : List Raw). q.shown ++ l) (sym none)) refl refl
    (ap (λ (x : ConsumerValue D). raws_by x.trail) advanced ∙ ap (λ (l : List Raw). raws_by old.consumer.trail ++ l) one)
    settled (unsettled ∙ ap (λ (l : List Raw). unsettled_raws old ++ l) one)
    (kept_is ∙ ap (λ (c : InFlight). buffer (kept.items ++ c ∷ []) kept.capacity) command) inside

pub all_legal : (raws all : List Raw) (count : ℕ) → IsPassing raws all → count ≡ length all → HasOutcome Applied (take count raws)
all_legal raws all count passing count_is = subst (λ (n : ℕ). HasOutcome Applied (take n raws)) (sym count_is) passing.legal

take_whole : {A : Type 0} (xs : List A) → take (length xs) xs ≡ xs
take_whole [] = refl
take_whole (x ∷ xs) = ap (λ l. x ∷ l) (take_whole xs)

pub shown_in : {D : Type 0} (q r : QueueValue) (found now : QueueState) (old new : DeferringValue D) (kept next : Buffer InFlight) (raws all : List Raw) (count : ℕ) → IsInFlight q found old kept
    → IsPassing raws all → count ≡ length all → HasPushed all q r count → now ≡ found
    → record new.consumer { history = [] } ≡ record old.consumer { trail = Advance (take count raws) ∷ old.consumer.trail; history = [] } → settled_raws new ≡ settled_raws old
    → unsettled_raws new ≡ unsettled_raws old ++ take count raws → next ≡ buffer (kept.items ++ map in_flight (take count raws)) kept.capacity
    → (IsStoppedState found → q.consumed < length q.shown) → IsInFlight r now new next
shown_in {D} q r found now old new kept next raws all count is passing count_is pushed state_is advanced settled unsettled kept_is inside =
    let forms : take count all ≡ passed_for (take count raws) =
    ap (λ (n : ℕ). take n all) count_is ∙ take_whole all ∙ passing.forms ∙ sym (passed_for_legal (take (length all) raws) passing.legal) ∙ ap (λ (n : ℕ). passed_for (take n raws)) (sym count_is) in
    subst (λ (s : QueueState). IsInFlight r s new next) (sym state_is)
    (taken_in q r found old new kept next (take count raws) is
    (ap (λ (x : QueueValue). x.shown) pushed.new_is ∙ ap (λ (l : List Raw). q.shown ++ l) forms)
    (ap (λ (x : QueueValue). x.consumed) pushed.new_is) (ap (λ (x : QueueValue). x.geometry) pushed.new_is)
    (ap (λ (x : ConsumerValue D). raws_by x.trail) advanced) settled unsettled kept_is inside)

pub not_zero : (n : ℕ) → false ≡ (n == 0) → 1 ≤ n
not_zero zero e = absurd (cc)
not_zero (suc n) e = omega arith

pub stopped_inside : (q : QueueValue) (found : QueueState) → ((error : CommandError) → found ≡ state.Stopped error → IsStoppedHere q error) → IsStoppedState found → q.consumed < length q.shown
stopped_inside q found here at = (here at.0 at.1).shown

-- ---- a run is read

reads_keep : (offset : ℕ) (raws : List Raw) (t : Trail) → raws_by (reads_from offset raws t) ≡ raws_by t
reads_keep offset [] t = refl
reads_keep offset (raw ∷ raws) t = reads_keep (suc offset) raws _

pub raws_before : {D : Type 0} (d : ConsumerValue D) (most : ℕ) (p : PendingValue D) → TookRun most d p → raws_by p.consumer.trail ≡ raws_by d.trail
raws_before {D} d most p took = ap (λ (x : ConsumerValue D). raws_by x.trail) took.trail_is ∙ reads_keep 0 p.raws _

pub settled_before : {D : Type 0} (old new : DeferringValue D) → raws_by new.consumer.trail ≡ raws_by old.consumer.trail → new.settled ≡ old.settled → settled_raws new ≡ settled_raws old
settled_before old new raws settled = ap₂ (λ (n : ℕ) (l : List Raw). take n l) settled raws

pub read_still : {D : Type 0} (q : QueueValue) (found : QueueState) (old new : DeferringValue D) (kept : Buffer InFlight) → IsInFlight q found old kept
    → raws_by new.consumer.trail ≡ raws_by old.consumer.trail → new.settled ≡ old.settled → IsInFlight q found new kept
read_still q found old new kept is raws settled =
    let unsettled : unsettled_raws new ≡ unsettled_raws old = ap₂ (λ (n : ℕ) (l : List Raw). drop n l) settled raws in
    record {
      shown = is.shown ∙ ap passed_for (sym raws);
      consumed = is.consumed ∙ ap (λ (l : List Raw). length (passed_for l)) (sym (settled_before old new raws settled));
      kept_are = is.kept_are ∙ ap (map in_flight) (sym unsettled);
      capacity = is.capacity;
      stopped = λ at. subst BeginsLegal (sym unsettled) (is.stopped at);
    }

-- Only what it knows of the run changed.
pub met_still : {D : Type 0} (q : QueueValue) (found : QueueState) (old new : DeferringValue D) (kept : Buffer InFlight) → IsInFlight q found old kept
    → record new.consumer { history = [] } ≡ record old.consumer { history = [] } → new.settled ≡ old.settled → IsInFlight q found new kept
met_still {D} q found old new kept is same settled = read_still q found old new kept is (ap (λ (x : ConsumerValue D). raws_by x.trail) same) settled

pub room_is : {D : Type 0} (q : QueueValue) (found : QueueState) (c : DeferringValue D) (kept : Buffer InFlight) (n : ℕ) → IsInFlight q found c kept → n ≡ kept.capacity - length kept.items → n ≡ room_for q c
room_is q found c kept n is n_is =
    let long : length kept.items ≡ length (unsettled_raws c) = ap (λ (l : List InFlight). length l) is.kept_are ∙ length-map (unsettled_raws c) in_flight in
    let slots = is.capacity in
    omega (arith, n_is, long, slots)

pub forwarded_of : {Q : Type 0} (queue : Q → QueueValue) (old new : ForwarderValue Q) (done : Forwarded) → HasServed old.consumer new.consumer (queue old.owner.queue) (queue new.owner.queue) done
    → HasForwarded queue old new done
forwarded_of queue old new answer.Empty served = absurd served.done
forwarded_of queue old new answer.Drained served = absurd served.done
forwarded_of queue old new answer.Unwritten served = absurd served.done
forwarded_of queue old new answer.Full served = absurd served.done
forwarded_of queue old new (answer.Broken word) served = absurd served.done
forwarded_of queue old new (answer.Shown count) served = served
forwarded_of queue old new (answer.Replaced raw) served = served

-- ---- the command at which it stopped

at_seam : (xs ys : List Raw) (y : Raw) → slice_get (xs ++ (y ∷ ys)) (length xs) ≡ Some y
at_seam [] ys y = refl
at_seam (x ∷ xs) ys y = at_seam xs ys y

kept_first : (raws : List Raw) (first : InFlight) → slice_get (map in_flight raws) 0 ≡ Some first → raws ≡ first.raw ∷ drop 1 raws
kept_first [] first at = absurd (cc)
kept_first (raw ∷ raws) first at =
    let one : in_flight raw ≡ first = cc in
    ap (λ (c : InFlight). c.raw ∷ raws) one

pub stopped_command : {D : Type 0} (q : QueueValue) (found : QueueState) (c : DeferringValue D) (kept : Buffer InFlight) (first : InFlight) → IsInFlight q found c kept → slice_get kept.items 0 ≡ Some first
    → IsStoppedState found → slice_get q.shown q.consumed ≡ Some (hardware_form first.raw)
stopped_command q found c kept first is at stop =
    let rest : List Raw = drop 1 (unsettled_raws c) in
    let begins : unsettled_raws c ≡ first.raw ∷ rest = kept_first (unsettled_raws c) first (ap (λ (l : List InFlight). slice_get l 0) (sym is.kept_are) ∙ at) in
    let legal = applied_of first.raw (is.stopped stop first.raw (rest, begins)) in
    let shown : q.shown ≡ passed_for (settled_raws c) ++ (hardware_form first.raw ∷ passed_for rest) =
    is.shown ∙ passed_in_two c ∙ ap (λ (l : List Raw). passed_for (settled_raws c) ++ l) (ap passed_for begins ∙ passed_applied first.raw rest legal) in
    ap₂ (λ (l : List Raw) (n : ℕ). slice_get l n) shown is.consumed ∙ at_seam (passed_for (settled_raws c)) (passed_for rest) (hardware_form first.raw)

-- ---- what was settled is consumed

pub settled_of : {D : Type 0} (q : QueueValue) (found : QueueState) (c : DeferringValue D) (kept : Buffer InFlight) → IsInFlight q found c kept → HasConsumedAll q (map taken_as (settled_raws c))
settled_of q found c kept is = record {
  rest = passed_for (unsettled_raws c);
  shown = is.shown ∙ passed_in_two c;
  consumed = let n = is.consumed in omega (arith, n);
}

-- ---- what stays

get_longer : (xs ys : List Raw) (i : ℕ) (x : Raw) → slice_get xs i ≡ Some x → slice_get (xs ++ ys) i ≡ Some x
get_longer [] ys i x at = absurd (cc)
get_longer (y ∷ xs) ys zero x at = at
get_longer (y ∷ xs) ys (suc i) x at = get_longer xs ys i x at

pub syncs_kept : (q r : QueueValue) (more : List Raw) → r.shown ≡ q.shown ++ more → r.lost ≡ q.lost → NoSyncIsLost q → NoSyncIsLost r
syncs_kept q r more shown lost none position lost_there =
    let at = none position (subst (λ (l : List ℕ). Contains l position) lost lost_there) in
    record { raw = at.raw; shown = ap (λ (l : List Raw). slice_get l position) shown ∙ get_longer q.shown more position at.raw at.shown; other = at.other }

pub syncs_pushed : (q r : QueueValue) (all : List Raw) (count : ℕ) → HasPushed all q r count → NoSyncIsLost q → NoSyncIsLost r
syncs_pushed q r all count pushed none =
    syncs_kept q r (take count all) (ap (λ (x : QueueValue). x.shown) pushed.new_is) (ap (λ (x : QueueValue). x.lost) pushed.new_is) none

-- ---- before the first call

abbrev none_of : (A : Type 0) → List A
none_of A = []

no_lost : (q : QueueValue) (position : ℕ) → q.lost ≡ [] → Contains q.lost position → IsOtherAt q position
no_lost q position none there = let at : Contains (none_of ℕ) position = subst (λ (l : List ℕ). Contains l position) none there in let inside = at.1 in absurd (omega (arith, inside))

none_taken : (raws : List Raw) → map taken_as raws ≡ [] → raws ≡ []
none_taken [] e = refl
none_taken (raw ∷ raws) e = absurd (cc)

take_nil : (n : ℕ) → take n (none_of Raw) ≡ []
take_nil zero = refl
take_nil (suc n) = refl

drop_nil : (n : ℕ) → drop n (none_of Raw) ≡ []
drop_nil zero = refl
drop_nil (suc n) = refl

pub forwarder_begins : {D : Type 0} (q : QueueValue) (found : QueueState) (c : ConsumerValue D) (f : DeferringValue D) (kept : Buffer InFlight) (slots : ℕ) → f ≡ deferring c → taken_of c.trail ≡ [] → q.shown ≡ []
    → q.consumed ≡ 0 → q.lost ≡ [] → slots ≡ size q.geometry → kept ≡ buffer [] slots → IsForwarder q found f kept 0
forwarder_begins {D} q found c f kept slots f_is taken shown consumed lost slots_are kept_is =
    let trail : f.consumer.trail ≡ c.trail = ap (λ (x : DeferringValue D). x.consumer.trail) f_is in
    let raws : raws_by f.consumer.trail ≡ [] = ap raws_by trail ∙ none_taken (raws_by c.trail) taken in
    let settled : settled_raws f ≡ [] = ap (take f.settled) raws ∙ take_nil f.settled in
    let unsettled : unsettled_raws f ≡ [] = ap (drop f.settled) raws ∙ drop_nil f.settled in
    record {
      in_flight = record {
        shown = shown ∙ ap passed_for (sym raws);
        consumed = consumed ∙ ap (λ (l : List Raw). length (passed_for l)) (sym settled);
        kept_are = ap (λ (b : Buffer InFlight). b.items) kept_is ∙ ap (map in_flight) (sym unsettled);
        capacity = ap (λ (b : Buffer InFlight). b.capacity) kept_is ∙ slots_are;
        stopped = λ at raw first. let never : [] ≡ raw ∷ first.0 = sym unsettled ∙ first.1 in absurd (cc);
      };
      syncs = λ position there. no_lost q position lost there;
      lost_are = let none : length q.lost ≡ 0 = ap (λ (l : List ℕ). length l) lost in omega (arith, none);
    }
