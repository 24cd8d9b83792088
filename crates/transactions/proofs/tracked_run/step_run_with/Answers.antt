use Rattle.std.proofs.Common.{List, [], map, false, true, length, sym, subst, ap, ◌∙◌, arith}
use Rattle.std.proofs.lemmas.List.{length-take-le}
use Rattle.std.specs.Prelude.{take, drop}
use Rattle.cmdcodec.specs.declared.raw.Raw.{Raw}
use Rattle.ringcore.specs.declared.world.event.Outcome.TheVariants.{Replaced as AsReplaced}
use Rattle.ringcore.specs.world.World.{Taken}
use Rattle.ring.specs.consumer.Completing.{with_outcome}
use Rattle.engine.specs.declared.verdict.Verdict.{Verdict}
use Rattle.engine.specs.declared.verdict.Verdict.TheVariants.{Stopped, Replaced}
use Rattle.engine.specs.Units.{UnitValue, took}
use Rattle.engine.proofs.Counted.{as_applied}
use Rattle.engine.proofs.Running.{all_legal, none_kept, has_first, first_is, first_and_rest, take_first, first_replaced}
use Rattle.transactions.specs.Tracking.{TrackedValue, StaysTracked}
use Rattle.transactions.specs.TrackedVerdicts.{HasJudgedTracked, HasToWaitFor}
use Rattle.transactions.proofs.Unstopped.{goes_on, has_more}
use Rattle.transactions.proofs.Together.{still_none, still_unwritten, taken_before, run_tracked, run_together, stopped_together, waiting_together}
use Rattle.transactions.proofs.TrackedRuns.{to_its_unit, none_applied, ends_or_applies, first_at}
use Rattle.transactions.proofs.tracked_run.step_run_with.Goals as goal
use Rattle.transactions.proofs.tracked_run.step_run_with.Goals.{In-Judged-Replaced, In-Judged-Stopped, In-Waiting}

pub unwrap-requires : goal.unwrap-requires
unwrap-requires c = has_first c.in-Ready.run'.raws _ c.get.ensures c.in-Ready.ensures.taken.some

-- After a stop the words at which it stopped are read again.
pub apply_ready-count-requires-clause-next : goal.apply_ready-count-requires-clause-next
apply_ready-count-requires-clause-next c raw at awaited is =
    let begins = c.in-Ready.ensures.again awaited (c.requires.together.seen awaited is) in
    first_is c.in-Ready.run'.raws begins.0 raw awaited at begins.1

pub apply_ready-count-requires-clause-counted : goal.apply_ready-count-requires-clause-counted
apply_ready-count-requires-clause-counted c =
    let many = c.requires.together.tracked_is.many in
    let before = ap (λ (l : List Taken). length l) (taken_before _ _ c.requires.together _ _ c.in-Ready.ensures.taken) in
    omega (arith, many, before)

-- ---- commands were applied

pub complete_run-consumer-requires-clause-outcome : goal.complete_run-consumer-requires-clause-outcome
complete_run-consumer-requires-clause-outcome c = all_legal _ _ _ _ (to_its_unit _ _ _ _ c.apply_ready-count.ensures.applied)

pub complete_run-consumer-requires-clause-settled : goal.complete_run-consumer-requires-clause-settled
complete_run-consumer-requires-clause-settled c =
    run_tracked _ _ c.requires.together _ _ c.in-Ready.ensures.taken c.apply_ready-count.new.tracked _ c.apply_ready-count.ensures.tracked

pub returns-then-count-gt0-clause-together : goal.returns-then-count-gt0-clause-together
returns-then-count-gt0-clause-together c =
    run_together _ _ c.requires.together _ _ c.in-Ready.ensures.taken c.complete_run-consumer.result c.apply_ready-count.new.tracked
    (as_applied (take c.apply_ready-count.result.0 c.in-Ready.run'.raws)) c.apply_ready-count.ensures.tracked c.complete_run-consumer.ensures.taken
    (none_kept _ _ _ _ (to_its_unit _ _ _ _ c.apply_ready-count.ensures.applied)
    (let long = length-take-le c.apply_ready-count.result.0 c.in-Ready.run'.raws c.apply_ready-count.ensures.within in let some = c.if-count-gt0.true in omega (arith, long, some)))

pub returns-then-count-gt0-clause-history : goal.returns-then-count-gt0-clause-history
returns-then-count-gt0-clause-history c = c.growth_adds_up.ensures.sum _ _ _ _ _ _ _ c.in-Ready.ensures.taken.grew c.complete_run-consumer.ensures.history

pub returns-then-count-gt0-clause-told : goal.returns-then-count-gt0-clause-told
returns-then-count-gt0-clause-told c room = (
  record {
    pending = c.in-Ready.run';
    read = c.in-Ready.ensures.taken;
    some = (let some = c.if-count-gt0.true in omega (arith, some));
    within = c.apply_ready-count.ensures.within;
    applied = c.apply_ready-count.ensures.applied;
    longest = c.apply_ready-count.ensures.longest;
    completed_are = record { consumer_is = c.complete_run-consumer.ensures.consumer; grew = c.complete_run-consumer.ensures.history };
  },
  c.tell_completions-many.ensures (let within = c.apply_ready-count.ensures.within in let few = c.in-Ready.ensures.taken.few in omega (arith, within, few, room)),
)

-- ---- none was

pub judge-requires-clause-next : goal.judge-requires-clause-next
judge-requires-clause-next c awaited is =
    let unchanged = none_applied c.in-Ready.run'.raws _ _ _ _ c.apply_ready-count.ensures.applied c.if-count-gt0.false in
    let begins = c.in-Ready.ensures.again awaited (c.requires.together.seen awaited (ap (λ (t : TrackedValue). t.unit.stop.next) (sym unchanged) ∙ is)) in
    first_is c.in-Ready.run'.raws begins.0 c.unwrap.result awaited (sym c.get.ensures ∙ c.unwrap.ensures) begins.1

-- Where none was applied, the run ends ahead of the first: so that one isn't applied now.
pub unreachable-requires : goal.unreachable-requires
unreachable-requires c =
    ends_or_applies c.unwrap.result c.apply_ready-count.new.tracked c.judge.new.self _ _
    (c.apply_ready-count.ensures.longest c.unwrap.result (first_at c.in-Ready.run'.raws _ c.unwrap.result c.if-count-gt0.false (sym c.get.ensures ∙ c.unwrap.ensures)))
    (subst (λ (v : Verdict). HasJudgedTracked c.unwrap.result c.apply_ready-count.new.tracked c.judge.new.self v) c.in-Judged-Applied.field-0-is c.in-Judged-Applied.ensures.judged)

-- ---- the first was replaced

-- No command was applied, so the unit judges as it came.
judged : (c : In-Judged-Replaced) → HasJudgedTracked c.unwrap.result c.args.tracked.now c.judge.new.self (Replaced c.in-Judged-Replaced.ill)
judged c =
    subst (λ (x : TrackedValue × Verdict). HasJudgedTracked c.unwrap.result x.0 c.judge.new.self x.1)
    (λ k. (none_applied c.in-Ready.run'.raws _ _ _ _ c.apply_ready-count.ensures.applied c.if-count-gt0.false k, c.in-Judged-Replaced.field-0-is k)) c.in-Judged-Replaced.ensures.judged

tracked : (c : In-Judged-Replaced) → StaysTracked c.args.tracked.now c.judge.new.self (map (with_outcome AsReplaced) (take 1 c.in-Ready.run'.raws))
tracked c =
    subst (λ (raws : List Raw). StaysTracked c.args.tracked.now c.judge.new.self (map (with_outcome AsReplaced) raws)) (sym (take_first c.in-Ready.run'.raws c.unwrap.result (sym c.get.ensures ∙ c.unwrap.ensures)))
    (subst (λ (x : TrackedValue × Verdict). StaysTracked x.0 c.judge.new.self (took c.unwrap.result x.1))
    (λ k. (none_applied c.in-Ready.run'.raws _ _ _ _ c.apply_ready-count.ensures.applied c.if-count-gt0.false k, c.in-Judged-Replaced.field-0-is k)) c.in-Judged-Replaced.ensures.tracked)

pub complete_run-requires-clause-outcome : goal.complete_run-requires-clause-outcome
complete_run-requires-clause-outcome c = first_replaced c.in-Ready.run'.raws c.unwrap.result _ (sym c.get.ensures ∙ c.unwrap.ensures) (judged c).judged.first

pub complete_run-requires-clause-settled : goal.complete_run-requires-clause-settled
complete_run-requires-clause-settled c = run_tracked _ _ c.requires.together _ _ c.in-Ready.ensures.taken c.judge.new.self _ (tracked c)

pub returns-in-Judged-Replaced-clause-stepped : goal.returns-in-Judged-Replaced-clause-stepped
returns-in-Judged-Replaced-clause-stepped c =
    let raws = first_and_rest c.in-Ready.run'.raws c.unwrap.result (sym c.get.ensures ∙ c.unwrap.ensures) in
    (c.in-Ready.run', c.unwrap.result, record { read = c.in-Ready.ensures.taken; rest = drop 1 c.in-Ready.run'.raws; raws_are = raws }, judged c.before, record { consumer_is = c.complete_run.ensures.consumer; grew = c.complete_run.ensures.history })

pub returns-in-Judged-Replaced-clause-together : goal.returns-in-Judged-Replaced-clause-together
returns-in-Judged-Replaced-clause-together c =
    run_together _ _ c.requires.together _ _ c.in-Ready.ensures.taken c.complete_run.result c.judge.new.self
    (map (with_outcome AsReplaced) (take 1 c.in-Ready.run'.raws)) (tracked c.before) c.complete_run.ensures.taken (ap (λ (u : UnitValue). u.stop.next) (judged c.before).judged.new_is)

pub returns-in-Judged-Replaced-clause-history : goal.returns-in-Judged-Replaced-clause-history
returns-in-Judged-Replaced-clause-history c = c.growth_adds_up.ensures.sum _ _ _ _ _ _ _ c.in-Ready.ensures.taken.grew c.complete_run.ensures.history

-- ---- it stopped at the first

stopped : (c : In-Judged-Stopped) → HasJudgedTracked c.unwrap.result c.args.tracked.now c.judge.new.self (Stopped c.in-Judged-Stopped.ill)
stopped c =
    subst (λ (x : TrackedValue × Verdict). HasJudgedTracked c.unwrap.result x.0 c.judge.new.self x.1)
    (λ k. (none_applied c.in-Ready.run'.raws _ _ _ _ c.apply_ready-count.ensures.applied c.if-count-gt0.false k, c.in-Judged-Stopped.field-0-is k)) c.in-Judged-Stopped.ensures.judged

pub returns-in-Judged-Stopped-clause-stepped : goal.returns-in-Judged-Stopped-clause-stepped
returns-in-Judged-Stopped-clause-stepped c =
    let raws = first_and_rest c.in-Ready.run'.raws c.unwrap.result (sym c.get.ensures ∙ c.unwrap.ensures) in
    (c.in-Ready.run', c.unwrap.result, record { read = c.in-Ready.ensures.taken; rest = drop 1 c.in-Ready.run'.raws; raws_are = raws }, stopped c.before, c.put_back.ensures.consumer)

pub returns-in-Judged-Stopped-clause-together : goal.returns-in-Judged-Stopped-clause-together
returns-in-Judged-Stopped-clause-together c =
    let raws = first_and_rest c.in-Ready.run'.raws c.unwrap.result (sym c.get.ensures ∙ c.unwrap.ensures) in
    stopped_together _ _ c.requires.together _ _ c.in-Ready.ensures.taken c.put_back.result c.judge.new.self c.unwrap.result _ _ (λ _. c.unwrap.result) c.put_back.ensures.consumer
    (c.put_back.ensures.seen c.unwrap.result _ raws) (stopped c.before).judged
    (subst (λ (x : TrackedValue × Verdict). StaysTracked x.0 c.judge.new.self (took c.unwrap.result x.1))
    (λ k. (none_applied c.in-Ready.run'.raws _ _ _ _ c.apply_ready-count.ensures.applied c.if-count-gt0.false k, c.in-Judged-Stopped.field-0-is k)) c.in-Judged-Stopped.ensures.tracked)

-- ---- the first has to wait

waits : (c : In-Waiting) → HasToWaitFor c.unwrap.result c.args.tracked.now c.judge.new.self c.in-Waiting.transactions
waits c =
    subst (λ (t : TrackedValue). HasToWaitFor c.unwrap.result t c.judge.new.self c.in-Waiting.transactions)
    (none_applied c.in-Ready.run'.raws _ _ _ _ c.apply_ready-count.ensures.applied c.if-count-gt0.false) c.in-Waiting.ensures.judged

pub returns-in-Waiting-clause-stepped : goal.returns-in-Waiting-clause-stepped
returns-in-Waiting-clause-stepped c =
    let raws = first_and_rest c.in-Ready.run'.raws c.unwrap.result (sym c.get.ensures ∙ c.unwrap.ensures) in
    (c.in-Ready.run', c.unwrap.result, record { read = c.in-Ready.ensures.taken; rest = drop 1 c.in-Ready.run'.raws; raws_are = raws }, waits c.before, c.put_back-in-Waiting.ensures.consumer)

pub returns-in-Waiting-clause-together : goal.returns-in-Waiting-clause-together
returns-in-Waiting-clause-together c =
    let raws = first_and_rest c.in-Ready.run'.raws c.unwrap.result (sym c.get.ensures ∙ c.unwrap.ensures) in
    let unchanged = none_applied c.in-Ready.run'.raws _ _ _ _ c.apply_ready-count.ensures.applied c.if-count-gt0.false in
    waiting_together _ _ c.requires.together _ _ c.in-Ready.ensures.taken c.put_back-in-Waiting.result c.judge.new.self c.unwrap.result _ (λ _. c.unwrap.result) c.put_back-in-Waiting.ensures.consumer
    (c.put_back-in-Waiting.ensures.seen c.unwrap.result _ raws)
    (λ awaited is.
    let begins = c.in-Ready.ensures.again awaited (c.requires.together.seen awaited is) in
    first_is c.in-Ready.run'.raws begins.0 c.unwrap.result awaited (sym c.get.ensures ∙ c.unwrap.ensures) begins.1)
    (waits c.before).0
    (subst (λ (t : TrackedValue). StaysTracked t c.judge.new.self []) unchanged c.in-Waiting.ensures.tracked)

-- ---- nothing was taken

pub returns-in-Empty-clause-together : goal.returns-in-Empty-clause-together
returns-in-Empty-clause-together c = still_none _ _ c.requires.together false _ c.in-Empty.ensures.taken

pub returns-in-Drained-clause-together : goal.returns-in-Drained-clause-together
returns-in-Drained-clause-together c = still_none _ _ c.requires.together true _ c.in-Drained.ensures.taken

pub returns-in-Unwritten-clause-together : goal.returns-in-Unwritten-clause-together
returns-in-Unwritten-clause-together c = still_unwritten _ _ c.requires.together _ _ c.in-Unwritten.ensures.taken

-- ---- it was neither stopped nor exhausted

pub returns-in-Empty-clause-still : goal.returns-in-Empty-clause-still
returns-in-Empty-clause-still c = goes_on _ _ c.stopped.result c.unit.ensures (λ is. cc) c.stopped.ensures c.if-stopped.false

pub returns-in-Empty-clause-exhausted : goal.returns-in-Empty-clause-exhausted
returns-in-Empty-clause-exhausted c = has_more _ _ _ _ c.unit-2.ensures c.counts.ensures c.taken.ensures.value (λ is. cc) c.if-taken-eq-MOST_RESERVED.false

pub returns-in-Drained-clause-still : goal.returns-in-Drained-clause-still
returns-in-Drained-clause-still c = goes_on _ _ c.stopped.result c.unit.ensures (λ is. cc) c.stopped.ensures c.if-stopped.false

pub returns-in-Drained-clause-exhausted : goal.returns-in-Drained-clause-exhausted
returns-in-Drained-clause-exhausted c = has_more _ _ _ _ c.unit-2.ensures c.counts.ensures c.taken.ensures.value (λ is. cc) c.if-taken-eq-MOST_RESERVED.false

pub returns-in-Unwritten-clause-still : goal.returns-in-Unwritten-clause-still
returns-in-Unwritten-clause-still c = goes_on _ _ c.stopped.result c.unit.ensures (λ is. cc) c.stopped.ensures c.if-stopped.false

pub returns-in-Unwritten-clause-exhausted : goal.returns-in-Unwritten-clause-exhausted
returns-in-Unwritten-clause-exhausted c = has_more _ _ _ _ c.unit-2.ensures c.counts.ensures c.taken.ensures.value (λ is. cc) c.if-taken-eq-MOST_RESERVED.false

pub returns-then-count-gt0-clause-still : goal.returns-then-count-gt0-clause-still
returns-then-count-gt0-clause-still c = goes_on _ _ c.stopped.result c.unit.ensures (λ is. cc) c.stopped.ensures c.if-stopped.false

pub returns-then-count-gt0-clause-exhausted : goal.returns-then-count-gt0-clause-exhausted
returns-then-count-gt0-clause-exhausted c = has_more _ _ _ _ c.unit-2.ensures c.counts.ensures c.taken.ensures.value (λ is. cc) c.if-taken-eq-MOST_RESERVED.false

pub returns-in-Judged-Replaced-clause-still : goal.returns-in-Judged-Replaced-clause-still
returns-in-Judged-Replaced-clause-still c = goes_on _ _ c.stopped.result c.unit.ensures (λ is. cc) c.stopped.ensures c.if-stopped.false

pub returns-in-Judged-Replaced-clause-exhausted : goal.returns-in-Judged-Replaced-clause-exhausted
returns-in-Judged-Replaced-clause-exhausted c = has_more _ _ _ _ c.unit-2.ensures c.counts.ensures c.taken.ensures.value (λ is. cc) c.if-taken-eq-MOST_RESERVED.false

pub returns-in-Judged-Stopped-clause-still : goal.returns-in-Judged-Stopped-clause-still
returns-in-Judged-Stopped-clause-still c = goes_on _ _ c.stopped.result c.unit.ensures (λ is. cc) c.stopped.ensures c.if-stopped.false

pub returns-in-Judged-Stopped-clause-exhausted : goal.returns-in-Judged-Stopped-clause-exhausted
returns-in-Judged-Stopped-clause-exhausted c = has_more _ _ _ _ c.unit-2.ensures c.counts.ensures c.taken.ensures.value (λ is. cc) c.if-taken-eq-MOST_RESERVED.false

pub returns-in-Waiting-clause-still : goal.returns-in-Waiting-clause-still
returns-in-Waiting-clause-still c = goes_on _ _ c.stopped.result c.unit.ensures (λ is. cc) c.stopped.ensures c.if-stopped.false

pub returns-in-Waiting-clause-exhausted : goal.returns-in-Waiting-clause-exhausted
returns-in-Waiting-clause-exhausted c = has_more _ _ _ _ c.unit-2.ensures c.counts.ensures c.taken.ensures.value (λ is. cc) c.if-taken-eq-MOST_RESERVED.false
