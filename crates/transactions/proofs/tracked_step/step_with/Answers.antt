use Rattle.std.proofs.Common.{ap, subst, ◌∙◌}
use Rattle.ringcore.specs.declared.world.event.Outcome.TheVariants.{Applied as AsApplied, Replaced as AsReplaced}
use Rattle.engine.specs.declared.verdict.Verdict.{Verdict}
use Rattle.engine.specs.Stops.{StopValue}
use Rattle.engine.specs.Units.{UnitValue, HasJudged, IsApplied, IsStoppedAt, IsReplaced, took}
use Rattle.transactions.specs.Tracking.{StaysTracked}
use Rattle.transactions.proofs.Unstopped.{goes_on, has_more}
use Rattle.transactions.proofs.Together.{one_tracked, taken_together, stopped_together, waiting_together}
use Rattle.transactions.proofs.tracked_step.step_with.Goals as goal

pub judge-requires-clause-next : goal.judge-requires-clause-next
judge-requires-clause-next c awaited is = c.raw.ensures ∙ c.in-Ready.ensures.again awaited (c.requires.together.seen awaited is)

pub complete-requires-clause-settled : goal.complete-requires-clause-settled
complete-requires-clause-settled c =
    one_tracked _ _ c.requires.together 1 _ c.in-Ready.ensures.taken c.judge.new.self AsApplied _ _ c.raw.ensures
    (subst (λ (v : Verdict). StaysTracked c.args.tracked.now c.judge.new.self (took c.raw.result v)) c.in-Judged-Applied.field-0-is c.in-Judged-Applied.ensures.tracked)

pub complete-requires-in-Judged-Replaced-clause-settled : goal.complete-requires-in-Judged-Replaced-clause-settled
complete-requires-in-Judged-Replaced-clause-settled c =
    one_tracked _ _ c.requires.together 1 _ c.in-Ready.ensures.taken c.judge.new.self AsReplaced _ _ c.raw.ensures
    (subst (λ (v : Verdict). StaysTracked c.args.tracked.now c.judge.new.self (took c.raw.result v)) c.in-Judged-Replaced.field-0-is c.in-Judged-Replaced.ensures.tracked)

pub returns-in-Judged-Applied-clause-together : goal.returns-in-Judged-Applied-clause-together
returns-in-Judged-Applied-clause-together c =
    let judged : IsApplied c.raw.result c.in-Judged-Applied.command c.in-Judged-Applied.removed c.args.tracked.now.unit c.judge.new.self.unit =
    subst (λ (v : Verdict). HasJudged c.raw.result c.args.tracked.now.unit c.judge.new.self.unit v) c.in-Judged-Applied.field-0-is c.in-Judged-Applied.ensures.judged.judged in
    taken_together _ _ c.requires.together 1 _ c.in-Ready.ensures.taken c.complete.result c.judge.new.self AsApplied _ _ c.raw.ensures
    (subst (λ (v : Verdict). StaysTracked c.args.tracked.now c.judge.new.self (took c.raw.result v)) c.in-Judged-Applied.field-0-is c.in-Judged-Applied.ensures.tracked)
    c.complete.ensures.taken (ap (λ (s : StopValue). s.next) judged.stop)

pub returns-in-Judged-Replaced-clause-together : goal.returns-in-Judged-Replaced-clause-together
returns-in-Judged-Replaced-clause-together c =
    let judged : IsReplaced c.raw.result c.in-Judged-Replaced.ill c.args.tracked.now.unit c.judge.new.self.unit =
    subst (λ (v : Verdict). HasJudged c.raw.result c.args.tracked.now.unit c.judge.new.self.unit v) c.in-Judged-Replaced.field-0-is c.in-Judged-Replaced.ensures.judged.judged in
    taken_together _ _ c.requires.together 1 _ c.in-Ready.ensures.taken c.complete-in-Judged-Replaced.result c.judge.new.self AsReplaced _ _ c.raw.ensures
    (subst (λ (v : Verdict). StaysTracked c.args.tracked.now c.judge.new.self (took c.raw.result v)) c.in-Judged-Replaced.field-0-is c.in-Judged-Replaced.ensures.tracked)
    c.complete-in-Judged-Replaced.ensures.taken (ap (λ (u : UnitValue). u.stop.next) judged.new_is)

pub returns-in-Judged-Stopped-clause-together : goal.returns-in-Judged-Stopped-clause-together
returns-in-Judged-Stopped-clause-together c =
    let judged : IsStoppedAt c.raw.result c.in-Judged-Stopped.ill c.args.tracked.now.unit c.judge.new.self.unit =
    subst (λ (v : Verdict). HasJudged c.raw.result c.args.tracked.now.unit c.judge.new.self.unit v) c.in-Judged-Stopped.field-0-is c.in-Judged-Stopped.ensures.judged.judged in
    stopped_together _ _ c.requires.together 1 _ c.in-Ready.ensures.taken c.put_back.result c.judge.new.self _ _ _ c.raw.ensures c.put_back.ensures.consumer c.put_back.ensures.seen judged
    (subst (λ (v : Verdict). StaysTracked c.args.tracked.now c.judge.new.self (took c.raw.result v)) c.in-Judged-Stopped.field-0-is c.in-Judged-Stopped.ensures.tracked)

pub returns-in-Waiting-clause-together : goal.returns-in-Waiting-clause-together
returns-in-Waiting-clause-together c =
    waiting_together _ _ c.requires.together 1 _ c.in-Ready.ensures.taken c.put_back-in-Waiting.result c.judge.new.self _ _ c.raw.ensures
    c.put_back-in-Waiting.ensures.consumer c.put_back-in-Waiting.ensures.seen
    (λ awaited is. c.raw.ensures ∙ c.in-Ready.ensures.again awaited (c.requires.together.seen awaited is)) c.in-Waiting.ensures.judged.0 c.in-Waiting.ensures.tracked

pub returns-in-Judged-Applied-clause-history : goal.returns-in-Judged-Applied-clause-history
returns-in-Judged-Applied-clause-history c = c.growth_adds_up.ensures.sum _ _ _ _ _ _ _ c.in-Ready.ensures.taken.grew c.complete.ensures.history

pub returns-in-Judged-Replaced-clause-history : goal.returns-in-Judged-Replaced-clause-history
returns-in-Judged-Replaced-clause-history c = c.growth_adds_up.ensures.sum _ _ _ _ _ _ _ c.in-Ready.ensures.taken.grew c.complete-in-Judged-Replaced.ensures.history

-- ---- it was neither stopped nor exhausted

pub returns-in-Empty-clause-still : goal.returns-in-Empty-clause-still
returns-in-Empty-clause-still c = goes_on _ _ c.stopped.result c.unit.ensures (λ is. cc) c.stopped.ensures c.if-stopped.false

pub returns-in-Empty-clause-exhausted : goal.returns-in-Empty-clause-exhausted
returns-in-Empty-clause-exhausted c = has_more _ _ _ _ c.unit-2.ensures c.counts.ensures c.taken.ensures.value (λ is. cc) c.if-taken-eq-MOST_RESERVED.false

pub returns-in-Drained-clause-still : goal.returns-in-Drained-clause-still
returns-in-Drained-clause-still c = goes_on _ _ c.stopped.result c.unit.ensures (λ is. cc) c.stopped.ensures c.if-stopped.false

pub returns-in-Drained-clause-exhausted : goal.returns-in-Drained-clause-exhausted
returns-in-Drained-clause-exhausted c = has_more _ _ _ _ c.unit-2.ensures c.counts.ensures c.taken.ensures.value (λ is. cc) c.if-taken-eq-MOST_RESERVED.false

pub returns-in-Unwritten-clause-still : goal.returns-in-Unwritten-clause-still
returns-in-Unwritten-clause-still c = goes_on _ _ c.stopped.result c.unit.ensures (λ is. cc) c.stopped.ensures c.if-stopped.false

pub returns-in-Unwritten-clause-exhausted : goal.returns-in-Unwritten-clause-exhausted
returns-in-Unwritten-clause-exhausted c = has_more _ _ _ _ c.unit-2.ensures c.counts.ensures c.taken.ensures.value (λ is. cc) c.if-taken-eq-MOST_RESERVED.false

pub returns-in-Judged-Applied-clause-still : goal.returns-in-Judged-Applied-clause-still
returns-in-Judged-Applied-clause-still c = goes_on _ _ c.stopped.result c.unit.ensures (λ is. cc) c.stopped.ensures c.if-stopped.false

pub returns-in-Judged-Applied-clause-exhausted : goal.returns-in-Judged-Applied-clause-exhausted
returns-in-Judged-Applied-clause-exhausted c = has_more _ _ _ _ c.unit-2.ensures c.counts.ensures c.taken.ensures.value (λ is. cc) c.if-taken-eq-MOST_RESERVED.false

pub returns-in-Judged-Replaced-clause-still : goal.returns-in-Judged-Replaced-clause-still
returns-in-Judged-Replaced-clause-still c = goes_on _ _ c.stopped.result c.unit.ensures (λ is. cc) c.stopped.ensures c.if-stopped.false

pub returns-in-Judged-Replaced-clause-exhausted : goal.returns-in-Judged-Replaced-clause-exhausted
returns-in-Judged-Replaced-clause-exhausted c = has_more _ _ _ _ c.unit-2.ensures c.counts.ensures c.taken.ensures.value (λ is. cc) c.if-taken-eq-MOST_RESERVED.false

pub returns-in-Judged-Stopped-clause-still : goal.returns-in-Judged-Stopped-clause-still
returns-in-Judged-Stopped-clause-still c = goes_on _ _ c.stopped.result c.unit.ensures (λ is. cc) c.stopped.ensures c.if-stopped.false

pub returns-in-Judged-Stopped-clause-exhausted : goal.returns-in-Judged-Stopped-clause-exhausted
returns-in-Judged-Stopped-clause-exhausted c = has_more _ _ _ _ c.unit-2.ensures c.counts.ensures c.taken.ensures.value (λ is. cc) c.if-taken-eq-MOST_RESERVED.false

pub returns-in-Waiting-clause-still : goal.returns-in-Waiting-clause-still
returns-in-Waiting-clause-still c = goes_on _ _ c.stopped.result c.unit.ensures (λ is. cc) c.stopped.ensures c.if-stopped.false

pub returns-in-Waiting-clause-exhausted : goal.returns-in-Waiting-clause-exhausted
returns-in-Waiting-clause-exhausted c = has_more _ _ _ _ c.unit-2.ensures c.counts.ensures c.taken.ensures.value (λ is. cc) c.if-taken-eq-MOST_RESERVED.false
