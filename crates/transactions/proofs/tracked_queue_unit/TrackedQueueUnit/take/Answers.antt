use Rattle.std.proofs.Common.{◌≡◌, ◌≤◌, ◌+◌, ◌-◌, ℕ, refl, ap, subst, ◌∙◌, arith}
use Rattle.engine.specs.declared.verdict.Judgement.{Judgement}
use Rattle.engine.specs.declared.verdict.Judgement.TheVariants as judgement
use Rattle.engine.specs.Counting.{taken}
use Rattle.engine.specs.QueueUnits.{HasJudgedNext}
use Rattle.transactions.specs.Between.{HasTakenQueue}
use Rattle.transactions.specs.TrackedQueueUnits.{TrackedQueueValue}
use Rattle.transactions.proofs.Queued.{taken_queue, some_taken, none_noted}
use Rattle.transactions.proofs.tracked_queue_unit.TrackedQueueUnit.take.Goals as goal

before_it : (n m : ℕ) → n ≡ m → 1 ≤ m → n - 1 + 1 ≡ m
before_it n m is some = omega (arith, is, some)

pub returns-in-Applied-clause-ok : goal.returns-in-Applied-clause-ok
returns-in-Applied-clause-ok c =
    let tracking = c.self.inside.tracking in
    let noted = c.note.new.self in
    let walks = c.self.inside.walks in
    let old : TrackedQueueValue = record { queue = c.self.inside.queue; recent = tracking.recent; outstanding = tracking.outstanding; next_number = tracking.next_number; walks = walks } in
    let new : TrackedQueueValue = record { queue = c.judge.new.self; recent = noted.recent; outstanding = noted.outstanding; next_number = noted.next_number; walks = walks } in
    let answer = judgement.Applied c.in-Applied.removed in
    let judged = subst (λ (j : Judgement). HasJudgedNext c.args.raw old.queue new.queue j) c.in-Applied.is c.in_ok-other.ensures.ok in
    let next = before_it _ _ (c.taken-place.ensures.value ∙ ap taken c.counts.ensures) (some_taken c.args.raw old.queue new.queue c.in-Applied.removed judged) in
    subst (λ (q : TrackedQueueValue). HasTakenQueue c.args.raw q new answer) c.self.view_is (taken_queue c.args.raw old new answer judged (c.taken-place.result - 1, next, c.note.ensures.noted) refl)

pub returns-in_default-clause-ok : goal.returns-in_default-clause-ok
returns-in_default-clause-ok c =
    let tracking = c.self.inside.tracking in
    let walks = c.self.inside.walks in
    let old : TrackedQueueValue = record { queue = c.self.inside.queue; recent = tracking.recent; outstanding = tracking.outstanding; next_number = tracking.next_number; walks = walks } in
    let new : TrackedQueueValue = record old { queue = c.judge.new.self } in
    let answer = c.in_ok-other.other in
    subst (λ (q : TrackedQueueValue). HasTakenQueue c.args.raw q new answer) c.self.view_is
    (taken_queue c.args.raw old new answer c.in_ok-other.ensures.ok (none_noted c.args.raw answer c.judge.new.self.unit tracking c.in_default.not-Applied) refl)
