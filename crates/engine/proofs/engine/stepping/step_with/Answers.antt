use Rattle.std.proofs.Common.{true, false, ap, ◌∙◌}
use Rattle.engine.specs.Stops.{StopValue}
use Rattle.engine.specs.Counting.{taken}
use Rattle.engine.specs.Units.{UnitValue}
use Rattle.engine.proofs.Counted.{applied_counted, replaced_counted, same_words, applied_removes, stopped_removes, replaced_removes}
use Rattle.engine.proofs.Stepping.{still_none, still_unwritten, one_settled, one_unit, taken_together, stopped_together, applied_more, replaced_more}
use Rattle.engine.proofs.Unstopped.{not_still, not_exhausted}
use Rattle.engine.proofs.engine.stepping.step_with.Goals as goal

pub judge-requires-clause-next : goal.judge-requires-clause-next
judge-requires-clause-next c awaited is = c.raw.ensures ∙ c.in-Ready.ensures.again awaited (c.requires.together.seen awaited is)

pub complete-requires-clause-settled : goal.complete-requires-clause-settled
complete-requires-clause-settled c =
    one_unit _ _ c.requires.together 1 _ c.in-Ready.ensures.taken c.judge.new.self _ _ _ c.raw.ensures c.in-Applied.ensures.settled
    (applied_counted _ _ _ _ _ c.in-Applied.ensures.judged)

pub complete-requires-in-Replaced-clause-settled : goal.complete-requires-in-Replaced-clause-settled
complete-requires-in-Replaced-clause-settled c =
    one_unit _ _ c.requires.together 1 _ c.in-Ready.ensures.taken c.judge.new.self _ _ _ c.raw.ensures c.in-Replaced.ensures.settled
    (replaced_counted _ _ _ _ c.in-Replaced.ensures.judged)

pub returns-in-Empty-clause-together : goal.returns-in-Empty-clause-together
returns-in-Empty-clause-together c = still_none _ _ c.requires.together false _ c.in-Empty.ensures.taken

pub returns-in-Drained-clause-together : goal.returns-in-Drained-clause-together
returns-in-Drained-clause-together c = still_none _ _ c.requires.together true _ c.in-Drained.ensures.taken

pub returns-in-Unwritten-clause-together : goal.returns-in-Unwritten-clause-together
returns-in-Unwritten-clause-together c = still_unwritten _ _ c.requires.together 1 _ c.in-Unwritten.ensures.taken

pub returns-in-Applied-clause-together : goal.returns-in-Applied-clause-together
returns-in-Applied-clause-together c =
    let settled = one_settled _ _ c.requires.together 1 _ c.in-Ready.ensures.taken c.judge.new.self _ _ _ c.raw.ensures c.in-Applied.ensures.settled in
    taken_together _ _ c.requires.together 1 _ c.in-Ready.ensures.taken _ _ _ c.complete.ensures.taken settled
    (applied_more _ _ _ _ _ c.in-Applied.ensures.judged) (same_words c.args.unit.now c.judge.new.self _ _ _ c.raw.ensures (applied_counted _ _ _ _ _ c.in-Applied.ensures.judged)) (ap (λ (s : StopValue). s.next) c.in-Applied.ensures.judged.stop)

pub returns-in-Replaced-clause-together : goal.returns-in-Replaced-clause-together
returns-in-Replaced-clause-together c =
    let settled = one_settled _ _ c.requires.together 1 _ c.in-Ready.ensures.taken c.judge.new.self _ _ _ c.raw.ensures c.in-Replaced.ensures.settled in
    taken_together _ _ c.requires.together 1 _ c.in-Ready.ensures.taken _ _ _ c.complete-in-Replaced.ensures.taken settled
    (replaced_more _ _ _ _ c.in-Replaced.ensures.judged) (same_words c.args.unit.now c.judge.new.self _ _ _ c.raw.ensures (replaced_counted _ _ _ _ c.in-Replaced.ensures.judged)) (ap (λ (u : UnitValue). u.stop.next) c.in-Replaced.ensures.judged.new_is)

pub returns-in-Stopped-clause-together : goal.returns-in-Stopped-clause-together
returns-in-Stopped-clause-together c =
    stopped_together _ _ c.requires.together 1 _ c.in-Ready.ensures.taken _ _ _ _ _ c.raw.ensures c.put_back.ensures.consumer c.put_back.ensures.seen c.in-Stopped.ensures.judged

pub returns-in-Applied-clause-history : goal.returns-in-Applied-clause-history
returns-in-Applied-clause-history c = c.growth_adds_up.ensures.sum _ _ _ _ _ _ _ c.in-Ready.ensures.taken.grew c.complete.ensures.history

pub returns-in-Replaced-clause-history : goal.returns-in-Replaced-clause-history
returns-in-Replaced-clause-history c = c.growth_adds_up.ensures.sum _ _ _ _ _ _ _ c.in-Ready.ensures.taken.grew c.complete-in-Replaced.ensures.history

pub returns-in-Applied-clause-removes : goal.returns-in-Applied-clause-removes
returns-in-Applied-clause-removes c = applied_removes _ _ _ _ _ c.in-Applied.ensures.judged

pub returns-in-Replaced-clause-removes : goal.returns-in-Replaced-clause-removes
returns-in-Replaced-clause-removes c = replaced_removes _ _ _ _ c.in-Replaced.ensures.judged

pub returns-in-Stopped-clause-removes : goal.returns-in-Stopped-clause-removes
returns-in-Stopped-clause-removes c = stopped_removes _ _ _ _ c.in-Stopped.ensures.judged

-- ---- it was neither stopped nor exhausted

pub returns-in-Empty-clause-still : goal.returns-in-Empty-clause-still
returns-in-Empty-clause-still c = not_still c.stopped.result (λ is. cc) c.stopped.ensures c.if-stopped.false

pub returns-in-Empty-clause-exhausted : goal.returns-in-Empty-clause-exhausted
returns-in-Empty-clause-exhausted c = not_exhausted (λ is. cc) (λ most. c.if-taken-eq-MOST_RESERVED.false (c.taken.ensures.value ∙ ap taken c.counts.ensures ∙ most))

pub returns-in-Drained-clause-still : goal.returns-in-Drained-clause-still
returns-in-Drained-clause-still c = not_still c.stopped.result (λ is. cc) c.stopped.ensures c.if-stopped.false

pub returns-in-Drained-clause-exhausted : goal.returns-in-Drained-clause-exhausted
returns-in-Drained-clause-exhausted c = not_exhausted (λ is. cc) (λ most. c.if-taken-eq-MOST_RESERVED.false (c.taken.ensures.value ∙ ap taken c.counts.ensures ∙ most))

pub returns-in-Unwritten-clause-still : goal.returns-in-Unwritten-clause-still
returns-in-Unwritten-clause-still c = not_still c.stopped.result (λ is. cc) c.stopped.ensures c.if-stopped.false

pub returns-in-Unwritten-clause-exhausted : goal.returns-in-Unwritten-clause-exhausted
returns-in-Unwritten-clause-exhausted c = not_exhausted (λ is. cc) (λ most. c.if-taken-eq-MOST_RESERVED.false (c.taken.ensures.value ∙ ap taken c.counts.ensures ∙ most))

pub returns-in-Applied-clause-still : goal.returns-in-Applied-clause-still
returns-in-Applied-clause-still c = not_still c.stopped.result (λ is. cc) c.stopped.ensures c.if-stopped.false

pub returns-in-Applied-clause-exhausted : goal.returns-in-Applied-clause-exhausted
returns-in-Applied-clause-exhausted c = not_exhausted (λ is. cc) (λ most. c.if-taken-eq-MOST_RESERVED.false (c.taken.ensures.value ∙ ap taken c.counts.ensures ∙ most))

pub returns-in-Replaced-clause-still : goal.returns-in-Replaced-clause-still
returns-in-Replaced-clause-still c = not_still c.stopped.result (λ is. cc) c.stopped.ensures c.if-stopped.false

pub returns-in-Replaced-clause-exhausted : goal.returns-in-Replaced-clause-exhausted
returns-in-Replaced-clause-exhausted c = not_exhausted (λ is. cc) (λ most. c.if-taken-eq-MOST_RESERVED.false (c.taken.ensures.value ∙ ap taken c.counts.ensures ∙ most))

pub returns-in-Stopped-clause-still : goal.returns-in-Stopped-clause-still
returns-in-Stopped-clause-still c = not_still c.stopped.result (λ is. cc) c.stopped.ensures c.if-stopped.false

pub returns-in-Stopped-clause-exhausted : goal.returns-in-Stopped-clause-exhausted
returns-in-Stopped-clause-exhausted c = not_exhausted (λ is. cc) (λ most. c.if-taken-eq-MOST_RESERVED.false (c.taken.ensures.value ∙ ap taken c.counts.ensures ∙ most))
