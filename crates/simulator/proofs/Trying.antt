-- What a try by the sender of the ring comes to, by the run that it left.
use Rattle.std.proofs.Common.{◌≡◌, refl, ap, ap₂, append_assoc, sym, ◌∙◌, subst, arith, eq-eqb, ℕ, suc, ◌+◌, ◌<◌, ◌≤◌, Bool, true, false, cond, List, [], ◌∷◌, ◌++◌, length, Option, Some, None, Result, Ok, Err}
use Rattle.std.specs.Prelude.{nat_lt}
use Rattle.std.proofs.lemmas.Bool.{lt-leb, lt-ltb, le-leb}
use Rattle.ring.specs.Runs.{Raw, Control, Event, control, Sender, Look, Won, Lost, Trail, Run, trail_of, batches_made, start_index, World, tail, head, world, Ring, IsRun, length_with, NeverMoreThanFull}
use Rattle.qindex.specs.Positions.{size, index_of}
use Rattle.qindex.specs.Indexes.{IsGeometry, distance}
use Rattle.qindex.specs.Laws.{IndexesTellTheQueue}
use Rattle.ringcore.specs.machine.Open.{is_open}
use Rattle.ringcore.specs.machine.StepAnswers.{next_number}
use Rattle.ring.specs.table.Keeping.{run_by}
use Rattle.ring.specs.Keepers.{KeeperValue, IdleReservationValue, own_sender, IsIdleReservation, IsLeftOf, IsIdleSender}
use Rattle.ring.specs.declared.sender.tally.Tally.{Tally}
use Rattle.ring.specs.declared.sender.cause.Cause.{Cause}
use Rattle.ring.specs.declared.sender.cause.Cause.TheVariants.{TooLong, Exhausted, Closed, Full, Contended}
use Rattle.ring.specs.sender.Senders.{SenderValue}
use Rattle.ring.specs.sender.Reservations.{ReservationValue, reserved_number, number_when}
use Rattle.ring.specs.sender.Publishing.{handing_over}
use Rattle.ring.specs.sender.Reserving.{IsReserved, IsRefused}
use Rattle.simulator.specs.declared.queue.reserved.Reserved.{Reserved}
use Rattle.simulator.specs.queue.{looked_by, cause_ahead, cause_seen, Try, refused_for, won, unless_seen, unless_ahead, try_to_reserve, tried_by, Ran, handed_over, published, sent_by, IsTriedWell, IsTriedInVain}
use Rattle.simulator.proofs.SeatLemmas.{IsCall, last_is, some_is}
use Rattle.simulator.proofs.Looks.{behind, closed_is, far_is}

-- ---- which ways a try goes

module _ (ring : Ring) (s : ℕ) (body : List Raw) (closes : Bool) (run : Run) where
  -- It is refused before a look or after one, or it is won.
  pub by_way : (P : Try → Type 0) → ((cause : Cause) → P (refused_for cause run)) → ((cause : Cause) → P (refused_for cause (looked_by (Sender s) ring.geometry run)))
      → P (won ring s body closes run (looked_by (Sender s) ring.geometry run)) → P (try_to_reserve ring s body closes run)
  unfolding try_to_reserve
  by_way P ahead seen wins = by_ahead (cause_ahead ring (trail_of (Sender s) run) (length_with closes body))
    where
      by_seen : (cause : Option Cause) → P (unless_seen ring s body closes run cause)
      by_seen (Some cause) = seen cause
      by_seen None = wins

      by_ahead : (cause : Option Cause) → P (unless_ahead ring s body closes run cause)
      by_ahead (Some cause) = ahead cause
      by_ahead None = by_seen (cause_seen ring (world run) (length_with closes body))

  won_is_open : (number : Option ℕ) (es : Trail) → 1 ≤ length body → is_open (Won body number ∷ es) ≡ true
  won_is_open None es some = some_is (length body) (λ offset. true) some (λ k. refl)
  won_is_open (Some number) es some = some_is (length body + 1) (λ offset. true) (omega arith) (λ k. refl)

  -- A sender that has just reserved a batch has an open reservation.
  pub try_is_open : (r : Reserved) → 1 ≤ length body → (try_to_reserve ring s body closes run).answer ≡ Ok r → is_open (trail_of (Sender s) (try_to_reserve ring s body closes run).run) ≡ true
  try_is_open r some =
      let number = next_number (trail_of (Sender s) run) closes in
      let before : Trail = trail_of (Sender s) (looked_by (Sender s) ring.geometry run) in
      by_way (λ t. t.answer ≡ Ok r → is_open (trail_of (Sender s) t.run) ≡ true) (λ cause e. absurd cc) (λ cause e. absurd cc)
      (λ e. ap (λ own. is_open (cond own (Won body number ∷ before) before)) (eq-eqb s s refl) ∙ won_is_open number before some)

-- ---- by the contracts of the ring

module _ (tells : IndexesTellTheQueue) (within : NeverMoreThanFull) (old new : KeeperValue) (s : ℕ) (body : List Raw) (closes : Bool) (lent : SenderValue) (lent_is : lent ≡ own_sender s old) where
  abbrev made : Ring
  made = old.ring.made_with

  abbrev mine : Trail
  mine = trail_of (Sender s) old.run

  abbrev w : World
  w = world old.run

  abbrev many : ℕ
  many = length_with closes body

  abbrev Comes : Try → Type 0
  Comes t = tried_by old s body closes ≡ t

  fits_so : many ≤ size made.geometry → nat_lt (size made.geometry) many ≡ false
  fits_so fits = lt-leb (suc (size made.geometry)) many (omega (arith, fits))

  refused_ahead : (cause : Cause) → cause_ahead made mine many ≡ Some cause → Comes (refused_for cause old.run)
  unfolding try_to_reserve
  refused_ahead cause is = ap (unless_ahead made s body closes old.run) is

  has_looked : (cause : Option Cause) → many ≤ size made.geometry → batches_made mine < made.max_batches → cause_seen made w many ≡ cause → Comes (unless_seen made s body closes old.run cause)
  unfolding try_to_reserve
  has_looked cause fits left is =
      let none : cause_ahead made mine many ≡ None = rw (fits_so fits, lt-leb made.max_batches (batches_made mine) left) in
      ap (unless_ahead made s body closes old.run) none ∙ ap (unless_seen made s body closes old.run) is

  module _ (x : Trail) (call : IsCall s x old new) where
    ran : (more : Trail) → x ≡ more ++ mine → new.run ≡ run_by (Sender s) more ++ old.run
    ran more is = (call.adds more is).run_is

    allowed : (more : Trail) → x ≡ more ++ mine → IsRun made (run_by (Sender s) more ++ old.run)
    allowed more is = subst (IsRun made) (ran more is) call.stands.after.run_is

    -- without a step
    stayed : (cause : Cause) → x ≡ mine → cause_ahead made mine many ≡ Some cause → Comes (refused_for cause new.run)
    stayed cause stays is = refused_ahead cause is ∙ ap (refused_for cause) (sym (ran [] stays))

    -- after a look
    refused_so : (cause : Cause) (seen : Control) → x ≡ Look seen ∷ mine → many ≤ size made.geometry → batches_made mine < made.max_batches → cause_seen made w many ≡ Some cause
        → Comes (refused_for cause new.run)
    refused_so cause seen x_is fits left is =
        has_looked (Some cause) fits left is ∙ (λ k. refused_for cause ((Sender s, Look (sym (allowed (Look seen ∷ []) x_is).1 k)) ∷ old.run)) ∙ ap (refused_for cause) (sym (ran (Look seen ∷ []) x_is))

  -- what a look after this run finds
  module _ (geometry_is : IsGeometry made.geometry) (seen : Control) (looks : IsRun made ((Sender s, Look seen) ∷ old.run)) where
    sees_closed : (b : Bool) → seen.closed ≡ b → w.closed ≡ b
    sees_closed b closed = closed_is tells within made geometry_is (Sender s) old.run seen looks ∙ closed

    sees_full : seen.closed ≡ false → size made.geometry < distance seen.prod seen.cons + many → cause_seen made w many ≡ Some Full
    sees_full unclosed over =
        let far = far_is tells within made geometry_is (Sender s) old.run seen looks in let low = behind tells within made geometry_is (Sender s) old.run seen looks in
        rw (sees_closed false unclosed, lt-ltb (head w + size made.geometry) (tail w + many) (omega (arith, far, low, over)))

    sees_room : seen.closed ≡ false → distance seen.prod seen.cons + many ≤ size made.geometry → cause_seen made w many ≡ None
    sees_room unclosed room =
        let far = far_is tells within made geometry_is (Sender s) old.run seen looks in let low = behind tells within made geometry_is (Sender s) old.run seen looks in
        rw (sees_closed false unclosed, lt-leb (suc (head w + size made.geometry)) (tail w + many) (omega (arith, far, low, room)))

  module _ (t : SenderValue) (call : IsCall s t.trail old new) where
    -- If it looked this is what is known of that.
    seen_in : (seen : Control) → t.trail ≡ Look seen ∷ mine → IsRun made ((Sender s, Look seen) ∷ old.run)
    seen_in seen x_is = allowed t.trail call (Look seen ∷ []) x_is

    right : (cause : Cause) → IsRefused body closes (own_sender s old) cause t → Comes (refused_for cause new.run)
    right TooLong is = stayed t.trail call TooLong (ap (λ (u : SenderValue). u.trail) is.stays) (rw (lt-ltb (size made.geometry) many is.long))
    right Exhausted is = stayed t.trail call Exhausted (ap (λ (u : SenderValue). u.trail) is.stays) (rw (fits_so is.fits, le-leb made.max_batches (batches_made mine) (omega (arith, is.all))))
    right Closed is =
        let x_is = ap (λ (u : SenderValue). u.trail) is.looked.trail_is in
        refused_so t.trail call Closed is.seen x_is is.fits is.left (rw (sees_closed call.stands.after.geometry_is is.seen (seen_in is.seen x_is) true is.closed))
    right Full is =
        let x_is = ap (λ (u : SenderValue). u.trail) is.looked.trail_is in
        refused_so t.trail call Full is.seen x_is is.fits is.left (sees_full call.stands.after.geometry_is is.seen (seen_in is.seen x_is) is.unclosed is.full)
    -- It is never another's exchange, since nobody else took a step.
    right Contended is =
        let x_is = ap (λ (u : SenderValue). u.trail) is.lost.trail_is ∙ ap (λ (u : SenderValue). let x : Trail = Lost body closes is.lost.found ∷ u.trail in x) is.looked.trail_is in
        let ok = allowed t.trail call (Lost body closes is.lost.found ∷ Look is.seen ∷ []) x_is in
        absurd (is.lost.other (ok.1.found_is ∙ sym ok.0.1))

    pub in_vain : (cause : Cause) (tally : Tally) → IsRefused body closes lent cause t → tally.sender ≡ s → IsIdleSender new tally → IsTriedInVain old new s body closes tally cause
    in_vain cause tally is sender_is idle =
        let all = right cause (subst (λ (u : SenderValue). IsRefused body closes u cause t) lent_is is) in record {
          run_is = ap (λ (q : Try). q.run) (sym all);
          answer_is = ap (λ (q : Try). q.answer) all;
          seat = record { sender_is = sender_is; idle = idle };
        }

  module _ (r : ReservationValue) (is : IsReserved body closes (own_sender s old) r) where
    abbrev number : Option ℕ
    number = next_number mine closes

    won_is : r.trail ≡ Won body number ∷ Look is.seen ∷ mine
    won_is = ap (λ (q : ReservationValue). q.trail) is.won.trail_is ∙ ap (λ (u : SenderValue). let y : Trail = Won body (next_number u.trail closes) ∷ u.trail in y) is.looked.trail_is

    all_is : IsGeometry made.geometry → IsRun made ((Sender s, Look is.seen) ∷ old.run) → Comes (won made s body closes old.run (looked_by (Sender s) made.geometry old.run))
    all_is geometry_is looks = has_looked None is.fits is.left (sees_room geometry_is is.seen looks is.room.unclosed is.room.room)

  module _ (r : ReservationValue) (call : IsCall s r.trail old new) (is : IsReserved body closes (own_sender s old) r) where
    looks : IsRun made ((Sender s, Look is.seen) ∷ old.run)
    looks = (allowed r.trail call (Won body (number r is) ∷ Look is.seen ∷ []) (won_is r is)).0

    won_trail : trail_of (Sender s) new.run ≡ Won body (number r is) ∷ Look is.seen ∷ mine
    won_trail = (call.adds (Won body (number r is) ∷ Look is.seen ∷ []) (won_is r is)).trail_is

    -- The first slot is that of the tail.
    answers : (idle : IdleReservationValue) → idle.tally.sender ≡ s → IsIdleReservation new body idle
        → (idle.start ≡ index_of made.geometry (tail w)) × (number_when idle.closes idle.tally.numbers ≡ number r is)
    answers idle sender_is there = (
      there.start_is ∙ (λ k. start_index (call.back.ring_is k).made_with.geometry (trail_of (Sender (sender_is k)) new.run)) ∙ ap (start_index made.geometry) won_trail ∙ ap (λ (c : Control). c.prod) looks.1,
      last_is new s body idle sender_is there ∙ ap reserved_number won_trail,
    )

  pub well : (r : ReservationValue) (idle : IdleReservationValue) → IsCall s r.trail old new → IsReserved body closes lent r → IsLeftOf r idle → idle.tally.sender ≡ s → IsIdleReservation new r.body idle
      → IsTriedWell old new s body closes idle
  well r idle call is left sender_is there =
      let own : IsReserved body closes (own_sender s old) r = subst (λ (u : SenderValue). IsReserved body closes u r) lent_is is in
      let opened = own.won.trail_is in
      let now : IsIdleReservation new body idle = subst (λ (b : List Raw). IsIdleReservation new b idle) (ap (λ (q : ReservationValue). q.body) opened) there in
      let all = all_is r own call.stands.after.geometry_is (looks r call own) in
      let told = answers r call own idle sender_is now in record {
        run_is = ran r.trail call (Won body (next_number mine closes) ∷ Look own.seen ∷ []) (won_is r own)
            ∙ (λ k. let q : Run = (Sender s, Won body (next_number mine closes)) ∷ (Sender s, Look ((looks r call own).1 k)) ∷ old.run in q) ∙ ap (λ (q : Try). q.run) (sym all);
        answer_is = ap (λ (q : Try). q.answer) all ∙ (λ k. let q : Result Reserved Cause = Ok (record { first = sym told.0 k; number = sym told.1 k }) in q);
        closes_is = left.closes_is ∙ ap (λ (q : ReservationValue). q.closes) opened;
        seat = record {
          sender_is = sender_is;
          open_is = now;
          unwritten = left.written_is ∙ ap (λ (q : ReservationValue). q.written) opened;
          unflipped = left.flipped_is ∙ ap (λ (q : ReservationValue). q.flipped) opened;
        };
      }

  -- The steps before some others of a run that is allowed are allowed.
  earlier : (more : Trail) (run : Run) → IsRun made (run_by (Sender s) more ++ run) → IsRun made run
  earlier [] run is = is
  earlier (e ∷ more) run is = earlier more run is.0

  run_by_both : (more less : Trail) (run : Run) → run_by (Sender s) (more ++ less) ++ run ≡ run_by (Sender s) more ++ (run_by (Sender s) less ++ run)
  run_by_both [] less run = refl
  run_by_both (e ∷ more) less run = ap (λ q. (Sender s, e) ∷ q) (run_by_both more less run)

  -- its own newest event
  own_event : (e : Event) (run : Run) → trail_of (Sender s) ((Sender s, e) ∷ run) ≡ e ∷ trail_of (Sender s) run
  own_event e run = ap (λ own. cond own (e ∷ trail_of (Sender s) run) (trail_of (Sender s) run)) (eq-eqb s s refl)

  -- What is reserved is handed over before the seat is back.
  module _ (r : ReservationValue) (is : IsReserved body closes lent r) (t : SenderValue) (call : IsCall s t.trail old new) (handed : t.trail ≡ handing_over made.geometry r.trail 0 0 ++ r.trail) where
    own : IsReserved body closes (own_sender s old) r
    own = subst (λ (u : SenderValue). IsReserved body closes u r) lent_is is

    abbrev reserving : Trail
    reserving = Won body (number r own) ∷ Look own.seen ∷ []

    abbrev handing : Trail
    handing = handing_over made.geometry r.trail 0 0

    ran_is : new.run ≡ run_by (Sender s) handing ++ (run_by (Sender s) reserving ++ old.run)
    ran_is = ran t.trail call (handing ++ reserving) (handed ∙ ap (λ x. handing ++ x) (won_is r own) ∙ sym (append_assoc handing reserving mine)) ∙ run_by_both handing reserving old.run

    looks_ahead : IsRun made ((Sender s, Look own.seen) ∷ old.run)
    looks_ahead = (earlier handing (run_by (Sender s) reserving ++ old.run) (subst (IsRun made) ran_is call.stands.after.run_is)).0

    abbrev reserved_run : Run
    reserved_run = (Sender s, Won body (number r own)) ∷ looked_by (Sender s) made.geometry old.run

    reserves : run_by (Sender s) reserving ++ old.run ≡ reserved_run
    reserves = λ k. let q : Run = (Sender s, Won body (number r own)) ∷ (Sender s, Look (looks_ahead.1 k)) ∷ old.run in q

    trail_is : trail_of (Sender s) reserved_run ≡ r.trail
    trail_is =
        own_event (Won body (number r own)) (looked_by (Sender s) made.geometry old.run)
        ∙ ap (λ x. Won body (number r own) ∷ x) (own_event (Look (control made.geometry w)) old.run ∙ (λ k. let x : Trail = Look (sym looks_ahead.1 k) ∷ mine in x))
        ∙ sym (won_is r own)

    pub sent_well : sent_by made s body closes old.run ≡ record { answer = Ok (reserved_number r.trail); run = new.run }
    unfolding published
    sent_well =
        let told : (x : Trail) (run : Run) → Ran (Result (Option ℕ) Cause) = λ x run. record { answer = Ok (reserved_number x); run = run } in
        ap (λ (q : Try). handed_over made s q.answer q.run) (all_is r own call.stands.after.geometry_is looks_ahead)
        ∙ ap (λ x. told x (run_by (Sender s) (handing_over made.geometry x 0 0) ++ reserved_run)) trail_is
        ∙ ap (told r.trail) (ap (λ q. run_by (Sender s) handing ++ q) (sym reserves) ∙ sym ran_is)

  -- What is refused is sent in vain.
  pub sent_in_vain : (tally : Tally) (cause : Cause) → IsTriedInVain old new s body closes tally cause → sent_by made s body closes old.run ≡ record { answer = Err cause; run = new.run }
  sent_in_vain tally cause is = ap₂ (λ answer run. handed_over made s answer run) is.answer_is (sym is.run_is)
