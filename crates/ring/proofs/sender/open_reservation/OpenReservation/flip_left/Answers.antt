use Rattle.std.proofs.Common.{rules, arith, ◌≡◌, ℕ, zero, suc, ◌+◌, ◌≤◌, [], ◌∷◌, ◌++◌, ap, ◌∙◌, subst}
use Rattle.ring.specs.Runs.{Sender, Flip}
use Rattle.ring.specs.table.{Grew}
use Rattle.ring.specs.sender.{ReservationValue, flips_from, next_run, flipped_left}
use Rattle.ring.proofs.TableLemmas.Grown.{port_step}
use Rattle.ring.proofs.SenderLemmas.InOrder.{fewer_share, may_flip, flipped_is}
use Rattle.ring.proofs.sender.open_reservation.OpenReservation.flip_left.Goals as goal

-- ---- the result of a flip, and of none

some_left : (r new : ReservationValue) (n : ℕ) → new ≡ record r { trail = Flip r.flipped n ∷ r.trail; flipped = r.flipped + n } → n ≡ next_run r → 1 ≤ n → new ≡ flipped_left r
some_left r new zero new_is is some = absurd (omega arith)
some_left r new (suc k) new_is is some = new_is ∙ ap (λ (n : ℕ). record r { trail = flips_from r.flipped n ++ r.trail; flipped = r.flipped + n }) is

none_left : (r : ReservationValue) → r.written ≤ r.flipped → r ≡ flipped_left r
none_left r done =
    let none : 0 ≡ next_run r = omega arith in
    let same : r.flipped ≡ r.flipped + 0 = omega arith in
    ap (λ (n : ℕ). record r { flipped = n }) same ∙ ap (λ (n : ℕ). record r { trail = flips_from r.flipped n ++ r.trail; flipped = r.flipped + n }) none

pub flip-requires-clause-may : goal.flip-requires-clause-may
flip-requires-clause-may g c =
    let n = c.min-count.ensures in let word = c.shared_word.ensures in let some = word.some in let most = word.most in
    may_flip c.self.inside.port c.self.inside.tally _ _ _ _ _ c.self.invariant c.min-count.result (omega arith) (omega arith) (omega arith)

pub invariant_of-self : goal.invariant_of-self
invariant_of-self g c =
    let n = c.min-count.ensures in
    flipped_is c.self.inside.port c.self.inside.tally _ _ _ _ _ c.self.invariant c.min-count.result (omega arith) c.flip.new.self c.flip.ensures.trail

pub flip-requires-clause-share : goal.flip-requires-clause-share
flip-requires-clause-share g c = let n = c.min-count.ensures in fewer_share _ _ c.shared_word.result c.min-count.result (omega arith) c.shared_word.ensures.share

pub returns-then-self-clause-new : goal.returns-then-self-clause-new
returns-then-self-clause-new g c =
    let n = c.min-count.ensures in let some = c.shared_word.ensures.some in
    some_left (record c.args.self.now { history = [] }) _ c.min-count.result (search rules) (search rules) (omega arith)

pub returns-else-self-clause-new : goal.returns-else-self-clause-new
returns-else-self-clause-new g c = none_left (record c.args.self.now { history = [] }) (subst (λ (r : ReservationValue). r.written ≤ r.flipped) c.self.view_is c.if-self.false)

pub returns-then-self-clause-history : goal.returns-then-self-clause-history
returns-then-self-clause-history g c =
    subst (λ (r : ReservationValue). Grew (Sender r.sender) r.trail c.flip.new.self.trail r.history c.flip.new.self.history) c.self.view_is
    (port_step c.self.inside.port c.flip.new.self _ _ c.self.invariant.tallied.who_is c.flip.ensures.trail c.flip.ensures.history)
