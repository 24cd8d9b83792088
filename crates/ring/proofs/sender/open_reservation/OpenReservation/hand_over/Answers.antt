use Rattle.std.proofs.Common.{[], ◌≡◌, ◌+◌, ℕ, suc, add-one, ap, sym, subst, arith, ◌∙◌}
use Rattle.ring.specs.Runs.{Sender, reserved_length}
use Rattle.ring.specs.table.{Grew}
use Rattle.ring.specs.sender.{SenderValue, ReservationValue, wrote_one, wrote_many, flipped_left, sender_of, ReservesNone}
use Rattle.ring.proofs.TableLemmas.Grown.{grew_none, grew_more}
use Rattle.ring.proofs.SenderLemmas.ReservesNone.{after_writes}
use Rattle.ring.proofs.SenderLemmas.TwoRuns.{published_stays, all_handed_over}
use Rattle.ring.proofs.sender.open_reservation.OpenReservation.hand_over.Goals as goal

-- ---- what is left is written

pub write_next-requires-clause-ring : goal.write_next-requires-clause-ring
write_next-requires-clause-ring g c = ap (λ (r : ReservationValue). r.ring) c.loop-done.invariant.is ∙ c.requires

pub write_next-requires-clause-left : goal.write_next-requires-clause-left
write_next-requires-clause-left g c =
    let written = ap (λ (r : ReservationValue). r.written) c.loop-done.invariant.is in
    let length = ap (λ (r : ReservationValue). reserved_length r.trail) c.loop-done.invariant.is ∙ (after_writes c.args.self.written c.loop-done.done c.args.self.trail).length in
    let u = c.unwritten-done-end.ensures in let t = c.loop-done-test.true in let a = c.loop-done.auto.done-end in omega arith

pub loop-done-init : goal.loop-done-init
loop-done-init g c =
    let e : c.args.self.written ≡ c.args.self.written + 0 = omega arith in
    record { is = ap (λ (n : ℕ). record c.args.self { history = []; written = n }) e; history = grew_none _ _ _ }

pub loop-done-preserved : goal.loop-done-preserved
loop-done-preserved g c =
    let old : ReservationValue = record c.args.self { history = [] } in
    let same = ap (λ (r : ReservationValue). r.sender) c.loop-done.invariant.is in
    let further : old.written + c.loop-done.done + 1 ≡ old.written + suc c.loop-done.done = omega arith in
    record {
      is = c.write_next.ensures.new ∙ ap wrote_one c.loop-done.invariant.is ∙ ap (λ (n : ℕ). record (wrote_many (suc c.loop-done.done) old) { written = n }) further
          ∙ ap (λ (k : ℕ). wrote_many k old) (sym (add-one c.loop-done.done));
      history = grew_more _ _ _ _ _ _ _ c.loop-done.invariant.history
          (subst (λ (s : ℕ). Grew (Sender s) c.loop-done.reservation.trail c.write_next.new.self.trail c.loop-done.reservation.history c.write_next.new.self.history) same c.write_next.ensures.history);
    }

-- ---- and flipped

pub flip_left-requires : goal.flip_left-requires
flip_left-requires g c = ap (λ (r : ReservationValue). r.ring) c.loop-done.invariant.is ∙ c.requires

pub flip_left-requires-2 : goal.flip_left-requires-2
flip_left-requires-2 g c = ap (λ (r : ReservationValue). r.ring) (c.flip_left.ensures.new ∙ ap flipped_left c.loop-done.invariant.is) ∙ c.requires

pub into_sender-requires : goal.into_sender-requires
into_sender-requires g c =
    let s : ReservationValue = record c.args.self { history = [] } in
    let laws = c.sender_trail.ensures in let len = c.len.ensures in let left = c.unwritten-done-end.ensures in let end = c.loop-done.auto.done-end in let out = c.loop-done-test.false in
    subst (λ (r : ReservationValue). r.flipped ≡ reserved_length r.trail)
    (sym (c.flip_left-2.ensures.new ∙ ap flipped_left (c.flip_left.ensures.new ∙ ap flipped_left c.loop-done.invariant.is)
    ∙ all_handed_over s laws.shared_words laws.flag_words (omega arith) (omega arith) (omega arith) c.loop-done.done (omega arith)))
    (sym (published_stays s).length)

pub returns-clause-sender : goal.returns-clause-sender
returns-clause-sender g c =
    let s : ReservationValue = record c.args.self { history = [] } in
    let laws = c.sender_trail.ensures in let len = c.len.ensures in let left = c.unwritten-done-end.ensures in let end = c.loop-done.auto.done-end in let out = c.loop-done-test.false in
    ap (λ (t : SenderValue). record t { history = [] }) c.into_sender.ensures.sender
    ∙ ap sender_of (c.flip_left-2.ensures.new ∙ ap flipped_left (c.flip_left.ensures.new ∙ ap flipped_left c.loop-done.invariant.is)
    ∙ all_handed_over s laws.shared_words laws.flag_words (omega arith) (omega arith) (omega arith) c.loop-done.done (omega arith))

pub returns-clause-batches : goal.returns-clause-batches
returns-clause-batches g c =
    subst (λ (t : SenderValue). ReservesNone c.args.self.trail t.trail) (sym (returns-clause-sender g c)) (published_stays (record c.args.self { history = [] })).none

pub returns-clause-history : goal.returns-clause-history
returns-clause-history g c =
    let first : ReservationValue = c.loop-done.reservation in let second : ReservationValue = c.flip_left.new.self in let third : ReservationValue = c.flip_left-2.new.self in
    let once : first.sender ≡ c.args.self.sender = ap (λ (r : ReservationValue). r.sender) c.loop-done.invariant.is in
    let twice : second.sender ≡ c.args.self.sender = ap (λ (r : ReservationValue). r.sender) c.flip_left.ensures.new ∙ once in
    let flipped = subst (λ (s : ℕ). Grew (Sender s) first.trail second.trail first.history second.history) once c.flip_left.ensures.history in
    let all = subst (λ (s : ℕ). Grew (Sender s) second.trail third.trail second.history third.history) twice c.flip_left-2.ensures.history in
    subst (λ (t : SenderValue). Grew (Sender c.args.self.sender) c.args.self.trail t.trail c.args.self.history t.history) (sym c.into_sender.ensures.sender)
    (grew_more _ _ _ _ _ _ _ c.loop-done.invariant.history (grew_more _ _ _ _ _ _ _ flipped all))
