-- What the keeper knows of a call for which it lent a sender its seat.
use Rattle.std.proofs.Common.{rules, ◌≡◌, ◌≢◌, ℕ, refl, ap, sym, ◌∙◌, subst, arith, Bool, true, false, not, zero, suc, ◌+◌, ◌-◌, ◌<◌, ◌≤◌, List, [], ◌∷◌, ◌++◌, length, inl, inr, ap₂}
use Rattle.std.proofs.lemmas.Bool.{cases_lt, cases_eq, lt-leb}
use Rattle.std.proofs.lemmas.List.{length-set, get_or-set_same, get_or-set_other, get_or-append_right, length_push}
use Rattle.std.proofs.Math.ListN.{get_or-append}
use Rattle.std.specs.Prelude.{None, ◌⊎◌, ◌||◌, nat_lt, slice_index_or, slice_set}
use Rattle.ring.specs.Runs.{Raw, Who, Sender, Trail, trail_of, reserved_length, has_flipped, IsSettled, Ring, length_with}
use Rattle.ringcore.specs.machine.Open.{some_below, is_open}
use Rattle.ring.specs.Rings.{RingValue}
use Rattle.ring.specs.NewRings.{made_with}
use Rattle.ring.specs.declared.sender.tally.Tally.{Tally}
use Rattle.ring.specs.table.Keeping.{RunStands}
use Rattle.ring.specs.sender.Reservations.{reserved_number, number_when}
use Rattle.ring.specs.Keepers.{KeeperValue, IdleReservationValue, Adds, has_lent, has_back, KeepsOthers, IsIdleSender, IsIdleReservation}
use Rattle.simulator.specs.declared.queue.Queue.TheInside.{Inside}
use Rattle.simulator.specs.declared.queue.Seat.{Seat}
use Rattle.simulator.specs.declared.queue.Seat.TheVariants.{Idle, Open}
use Rattle.simulator.specs.queue.{QueueValue, ring_in, IsIdleSeat, IsOpenSeat, IsSeatOf, IsNewSeat, AreNew, IsQueue, IsBack}

-- ---- a seat is lent, and comes back

-- What is left of the others stays, whomever the keeper had lent a seat.
pub others_stay : (who : Who) (old lent new : KeeperValue) → lent ≡ has_lent who old → KeepsOthers who lent new → KeepsOthers who old new
others_stay who old lent new lent_is is = let kept : KeepsOthers who (has_lent who old) new = subst (λ (k : KeeperValue). KeepsOthers who k new) lent_is is in search rules

-- The run has the events more that the trail has, and stands; and the seat is back.
pub record IsCall (s : ℕ) (trail : Trail) (old new : KeeperValue) : Type 0 where
  pub adds : Adds (Sender s) trail old.run new.run
  pub stands : RunStands old.ring.made_with new.run
  pub back : IsBack s old new

-- whoever came back was the one to whom the seat was lent
pub is_call : (s t : ℕ) (trail : Trail) (old lent new : KeeperValue) → lent ≡ has_lent (Sender s) old → t ≡ s → new ≡ has_back (Sender t) trail lent
    → Adds (Sender t) trail lent.run new.run → RunStands new.ring.made_with new.run → KeepsOthers (Sender t) lent new → IsCall s trail old new
is_call s t trail old lent new lent_is one back adds stands others =
    let ring_stays : new.ring ≡ old.ring = ap (λ (k : KeeperValue). k.ring) back ∙ ap (λ (k : KeeperValue). k.ring) lent_is in record {
      adds = subst (λ (q : ℕ × KeeperValue). Adds (Sender q.0) trail q.1.run new.run) (λ k. (one k, lent_is k)) adds;
      stands = subst (λ (r : RingValue). RunStands r.made_with new.run) ring_stays stands;
      back = record { ring_is = ring_stays; whole = ap (λ (k : KeeperValue). k.lent) back; others = others_stay (Sender s) old lent new lent_is (subst (λ (n : ℕ). KeepsOthers (Sender n) lent new) one others) };
    }

-- ---- which seats have an open reservation

none_is : (n : ℕ) (f : ℕ → Bool) → ((k : ℕ) → k < n → f k ≡ false) → some_below n f ≡ false
none_is zero f never = refl
none_is (suc n) f never = ap₂ (λ (a b : Bool). a || b) (never n (omega arith)) (none_is n f (λ k less. never k (omega (arith, less))))

pub some_is : (n : ℕ) (f : ℕ → Bool) → 1 ≤ n → ((k : ℕ) → f k ≡ true) → some_below n f ≡ true
some_is zero f low all = absurd (omega (arith, low))
some_is (suc n) f low all = ap (λ (a : Bool). a || some_below n f) (all n)

length_some : (body : List Raw) (closes : Bool) → 1 ≤ length body → 1 ≤ length_with closes body
length_some body true some = omega (arith, some)
length_some body false some = some

pub idle_is_shut : (keeper : KeeperValue) (s : ℕ) (tally : Tally) → IsIdleSeat keeper s tally → is_open (trail_of (Sender s) keeper.run) ≡ false
idle_is_shut keeper s tally is = subst (λ (n : ℕ). is_open (trail_of (Sender n) keeper.run) ≡ false) is.sender_is (shut (trail_of (Sender tally.sender) keeper.run) is.idle.settled)
  where
    shut : (mine : Trail) → IsSettled mine → is_open mine ≡ false
    shut mine settled = none_is (reserved_length mine) (λ k. not (has_flipped k mine)) (λ k less. ap not (settled k less))

pub open_is_open : (keeper : KeeperValue) (s : ℕ) (body : List Raw) (idle : IdleReservationValue) → IsOpenSeat keeper s body idle → is_open (trail_of (Sender s) keeper.run) ≡ true
open_is_open keeper s body idle is =
    let mine : Trail = trail_of (Sender idle.tally.sender) keeper.run in
    let some : 1 ≤ reserved_length mine = subst (λ (n : ℕ). 1 ≤ n) (sym is.open_is.many) (length_some body idle.closes is.open_is.body_is.some) in
    subst (λ (n : ℕ). is_open (trail_of (Sender n) keeper.run) ≡ true) is.sender_is
    (some_is (reserved_length mine) (λ k. not (has_flipped k mine)) some
    (λ k. ap not (is.open_is.in_flipped k ∙ ap (λ (n : ℕ). nat_lt k n) is.unflipped ∙ lt-leb (suc k) 0 (omega arith))))

-- the number of what is open there
pub last_is : (keeper : KeeperValue) (s : ℕ) (body : List Raw) (idle : IdleReservationValue) → idle.tally.sender ≡ s → IsIdleReservation keeper body idle
    → number_when idle.closes idle.tally.numbers ≡ reserved_number (trail_of (Sender s) keeper.run)
last_is keeper s body idle sender_is is =
    sym is.number_is ∙ ap (λ (n : ℕ). reserved_number (trail_of (Sender n) keeper.run)) sender_is

-- ---- the others' seats

not_his : (s t n : ℕ) → (t ≡ s → ⊥) → n ≡ t → Sender n ≢ Sender s
not_his s t n other is e = let same : n ≡ s = cc in other (sym is ∙ same)

-- If another's seat was lent one's own stays.
seat_stays : (s t : ℕ) (old new : KeeperValue) (seat : Seat) → (t ≡ s → ⊥) → KeepsOthers (Sender s) old new → IsSeatOf old t seat → IsSeatOf new t seat
seat_stays s t old new (Idle tally) other keeps is = record { sender_is = is.sender_is; idle = keeps.senders tally (not_his s t tally.sender other is.sender_is) is.idle }
seat_stays s t old new (Open idle body) other keeps is =
    record { sender_is = is.sender_is; open_is = keeps.reservations body idle (not_his s t idle.tally.sender other is.sender_is) is.open_is; unwritten = is.unwritten; unflipped = is.unflipped }

-- One seat is another's now, and the rest stay.
is_queue : (ring : RingValue) (old : QueueValue) (s : ℕ) (new : KeeperValue) (seat : Seat) → IsQueue ring old → s < length old.seats → IsBack s old.keeper new → IsSeatOf new s seat
    → IsQueue ring (record { keeper = new; seats = slice_set old.seats s seat })
is_queue ring old s new seat is known back mine = record {
  ring_is = back.ring_is ∙ is.ring_is;
  whole = back.whole;
  many = length-set old.seats s seat ∙ is.many ∙ ap (λ (r : RingValue). r.made_with.senders) (sym back.ring_is);
  each = λ t other less. by_one t other (subst (λ (n : ℕ). t < n) (length-set old.seats s seat) less) (cases_eq t s);
}
  where
    by_one : (t : ℕ) (other : Seat) → t < length old.seats → (t ≡ s) ⊎ (t ≡ s → ⊥) → IsSeatOf new t (slice_index_or (slice_set old.seats s seat) t other)
    by_one t other less (inl same) =
        subst (λ (n : ℕ). IsSeatOf new n (slice_index_or (slice_set old.seats s seat) n other)) (sym same) (subst (IsSeatOf new s) (sym (get_or-set_same old.seats s seat other known)) mine)
    by_one t other less (inr else) =
        subst (IsSeatOf new t) (sym (get_or-set_other old.seats s t seat other else)) (seat_stays s t old.keeper new (slice_index_or old.seats t other) else back.others (is.each t other less))

-- ---- new seats

pub new_seat : (s : ℕ) (tally : Tally) → tally.sender ≡ s → ((keeper : KeeperValue) → keeper.run ≡ [] → IsIdleSender keeper tally) → IsNewSeat s (Idle tally)
new_seat s tally is idle keeper none = record { sender_is = is; idle = idle keeper none }

pub one_more_seat : (s : ℕ) (seats : List Seat) (seat : Seat) → AreNew s seats → IsNewSeat s seat → AreNew (s + 1) (seats ++ seat ∷ [])
one_more_seat s seats seat is one = record {
  many = length_push seats seat ∙ ap (λ (n : ℕ). n + 1) is.many;
  each = λ t other less. by_last t other (subst (λ (n : ℕ). t < n) (length_push seats seat) less) (cases_lt t (length seats));
}
  where
    by_last : (t : ℕ) (other : Seat) → t < length seats + 1 → (t < length seats) ⊎ (length seats ≤ t) → IsNewSeat t (slice_index_or (seats ++ seat ∷ []) t other)
    by_last t other less (inl before) = subst (IsNewSeat t) (sym (get_or-append seats (seat ∷ []) other t before)) (is.each t other before)
    by_last t other less (inr last) =
        let many = is.many in
        let here : t ≡ s = omega (arith, less, last, many) in
        let zero_left : t - length seats ≡ 0 = omega (arith, less, last) in
        subst (IsNewSeat t) (sym (get_or-append_right seats (seat ∷ []) (length seats) t other refl last ∙ ap (λ (n : ℕ). slice_index_or (seat ∷ []) n other) zero_left))
        (subst (λ (n : ℕ). IsNewSeat n seat) (sym here) one)

-- ---- the seat of a sender

abbrev pub queue_in : Inside → QueueValue
queue_in q = record { keeper = q.keeper; seats = q.seats.items }

inside : (ring : RingValue) (queue : QueueValue) (s : ℕ) → IsQueue ring queue → s < (ring_in queue).senders → s < length queue.seats
inside ring queue s is known = subst (λ (n : ℕ). s < n) (sym is.many) known

-- what was found at its place
pub seat_at : (q : Inside) (now : QueueValue) (s : ℕ) (found seat : Seat) → queue_in q ≡ now → IsQueue q.ring (queue_in q) → s < (ring_in now).senders
    → found ≡ slice_index_or q.seats.items s found → found ≡ seat → IsSeatOf now.keeper s seat
seat_at q now s found seat same is known at found_is =
    let here : IsQueue q.ring now = subst (IsQueue q.ring) same is in
    let there = at ∙ ap (λ (v : QueueValue). slice_index_or v.seats s found) same in
    subst (IsSeatOf now.keeper s) (sym there ∙ found_is) (here.each s found (inside q.ring now s here known))

pub new_queue : (log2 senders max_batches : ℕ) (ring : RingValue) (keeper : KeeperValue) (seats : List Seat) → ring.made_with ≡ made_with log2 senders max_batches
    → keeper ≡ record { ring = ring; lent = None; run = [] } → AreNew senders seats → IsQueue ring (record { keeper = keeper; seats = seats })
new_queue log2 senders max_batches ring keeper seats made is all = record {
  ring_is = ap (λ (k : KeeperValue). k.ring) is;
  whole = ap (λ (k : KeeperValue). k.lent) is;
  many = all.many ∙ sym (ap (λ (k : KeeperValue). k.ring.made_with.senders) is ∙ ap (λ (r : Ring). r.senders) made);
  each = λ s other less. all.each s other less keeper (ap (λ (k : KeeperValue). k.run) is);
}

-- the seat was lent, by whoever sat there
pub is_queue_after : (q : Inside) (now : QueueValue) (s t : ℕ) (new : KeeperValue) (seat : Seat) → queue_in q ≡ now → IsQueue q.ring (queue_in q) → s < (ring_in now).senders
    → t ≡ s → IsBack t q.keeper new → IsSeatOf new t seat → IsQueue q.ring (record { keeper = new; seats = slice_set q.seats.items s seat })
is_queue_after q now s t new seat same is known one back mine =
    is_queue q.ring (queue_in q) s new seat is (inside q.ring (queue_in q) s is (subst (λ (v : QueueValue). s < (ring_in v).senders) (sym same) known))
    (subst (λ (n : ℕ). IsBack n q.keeper new) one back) (subst (λ (n : ℕ). IsSeatOf new n seat) one mine)
