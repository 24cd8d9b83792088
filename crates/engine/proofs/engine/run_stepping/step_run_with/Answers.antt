use Rattle.std.proofs.Common.{◌≡◌, ◌++◌, List, [], ◌∷◌, map, true, false, length, sym, subst, ap, ◌∙◌, arith}
use Rattle.std.proofs.lemmas.List.{length-map, length-take-le}
use Rattle.std.specs.Prelude.{take, drop}
use Rattle.cmdcodec.specs.declared.raw.Raw.{Raw}
use Rattle.ringcore.specs.declared.world.event.Outcome.TheVariants.{Applied, Replaced}
use Rattle.ringcore.specs.world.World.{Taken}
use Rattle.ring.specs.consumer.Completing.{taken_of, with_outcome}
use Rattle.engine.specs.Counting.{taken}
use Rattle.engine.specs.Units.{UnitValue, IsSettledUnit, IsStoppedAt, IsReplaced, StaysSettled}
use Rattle.engine.proofs.Counted.{StaysCounted, run_counted, replaced_counted, run_removes, stopped_removes, replaced_removes}
use Rattle.engine.proofs.Stepping.{still_none, still_unwritten, taken_before, taken_settled, taken_unit, taken_together, stopped_together, replaced_more}
use Rattle.engine.proofs.Running.{all_legal, all_settled, all_counted, none_kept, none_applied, has_first, first_is, first_and_rest, take_first, first_replaced}
use Rattle.engine.proofs.Unstopped.{not_still, not_exhausted}
use Rattle.engine.proofs.engine.run_stepping.step_run_with.Goals as goal
use Rattle.engine.proofs.engine.run_stepping.step_run_with.Goals.{In-Replaced, In-Stopped}

pub unwrap-requires : goal.unwrap-requires
unwrap-requires c = has_first c.in-Ready.run'.raws _ c.get.ensures c.in-Ready.ensures.taken.some

-- After a stop the words at which it stopped are read again.
pub apply_legal-count-requires-clause-next : goal.apply_legal-count-requires-clause-next
apply_legal-count-requires-clause-next c raw at awaited is =
    let begins = c.in-Ready.ensures.again awaited (c.requires.together.seen awaited is) in
    first_is c.in-Ready.run'.raws begins.0 raw awaited at begins.1

pub apply_legal-count-requires-clause-counted : goal.apply_legal-count-requires-clause-counted
apply_legal-count-requires-clause-counted c =
    let many = c.requires.together.many in
    let before = ap (λ (l : List Taken). length l) (taken_before _ _ c.requires.together _ _ c.in-Ready.ensures.taken) in
    omega (arith, many, before)

-- ---- commands were applied

pub complete_run-consumer-requires-clause-outcome : goal.complete_run-consumer-requires-clause-outcome
complete_run-consumer-requires-clause-outcome c = all_legal _ _ _ _ c.apply_legal-count.ensures.applied

pub complete_run-consumer-requires-clause-settled : goal.complete_run-consumer-requires-clause-settled
complete_run-consumer-requires-clause-settled c =
    let applied = c.apply_legal-count.ensures.applied in
    taken_unit _ _ c.requires.together _ _ c.in-Ready.ensures.taken c.apply_legal-count.new.unit _ (all_settled _ _ _ _ applied) (run_counted _ _ _ _ applied)

pub returns-then-count-gt0-clause-together : goal.returns-then-count-gt0-clause-together
returns-then-count-gt0-clause-together c =
    let raws : List Raw = take c.apply_legal-count.result.0 c.in-Ready.run'.raws in
    let applied = c.apply_legal-count.ensures.applied in
    taken_together _ _ c.requires.together _ _ c.in-Ready.ensures.taken c.complete_run-consumer.result c.apply_legal-count.new.unit (map (with_outcome Applied) raws) c.complete_run-consumer.ensures.taken
    (taken_settled _ _ c.requires.together _ _ c.in-Ready.ensures.taken c.apply_legal-count.new.unit _ (all_settled _ _ _ _ applied))
    (let counted = all_counted _ _ _ _ applied in let same = length-map raws (with_outcome Applied) in omega (arith, counted, same))
    (run_counted _ _ _ _ applied)
    (none_kept _ _ _ _ applied (let long = length-take-le c.apply_legal-count.result.0 c.in-Ready.run'.raws c.apply_legal-count.ensures.within in let some = c.if-count-gt0.true in omega (arith, long, some)))

pub returns-then-count-gt0-clause-history : goal.returns-then-count-gt0-clause-history
returns-then-count-gt0-clause-history c = c.growth_adds_up.ensures.sum _ _ _ _ _ _ _ c.in-Ready.ensures.taken.grew c.complete_run-consumer.ensures.history

pub returns-then-count-gt0-clause-removes : goal.returns-then-count-gt0-clause-removes
returns-then-count-gt0-clause-removes c = run_removes _ _ _ _ c.apply_legal-count.ensures.applied

pub returns-then-count-gt0-clause-told : goal.returns-then-count-gt0-clause-told
returns-then-count-gt0-clause-told c room = (
  record {
    pending = c.in-Ready.run';
    read = c.in-Ready.ensures.taken;
    some = (let some = c.if-count-gt0.true in omega (arith, some));
    within = c.apply_legal-count.ensures.within;
    applied = c.apply_legal-count.ensures.applied;
    longest = c.apply_legal-count.ensures.longest;
    completed_are = record { consumer_is = c.complete_run-consumer.ensures.consumer; grew = c.complete_run-consumer.ensures.history };
  },
  c.tell_completions-many.ensures (let within = c.apply_legal-count.ensures.within in let few = c.in-Ready.ensures.taken.few in omega (arith, within, few, room)),
)

-- ---- the first is illegal

pub judge-requires-clause-next : goal.judge-requires-clause-next
judge-requires-clause-next c awaited is =
    let unchanged = none_applied c.in-Ready.run'.raws _ _ _ _ c.apply_legal-count.ensures.applied c.if-count-gt0.false in
    let begins = c.in-Ready.ensures.again awaited (c.requires.together.seen awaited (ap (λ (u : UnitValue). u.stop.next) (sym unchanged) ∙ is)) in
    first_is c.in-Ready.run'.raws begins.0 c.unwrap.result awaited (sym c.get.ensures ∙ c.unwrap.ensures) begins.1

-- ---- the first was replaced

-- No command was applied, so the unit is judged as it came.
unchanged : (c : In-Replaced) → c.apply_legal-count.new.unit ≡ c.args.unit.now
unchanged c = none_applied c.in-Ready.run'.raws _ _ _ _ c.apply_legal-count.ensures.applied c.if-count-gt0.false

replaced : (c : In-Replaced) → IsReplaced c.unwrap.result c.in-Replaced.ill c.args.unit.now c.judge.new.self
replaced c = subst (λ (u : UnitValue). IsReplaced c.unwrap.result c.in-Replaced.ill u c.judge.new.self) (unchanged c) c.in-Replaced.ensures.judged

first_alone : (c : In-Replaced) → take 1 c.in-Ready.run'.raws ≡ c.unwrap.result ∷ []
first_alone c = take_first c.in-Ready.run'.raws c.unwrap.result (sym c.get.ensures ∙ c.unwrap.ensures)

settled : (c : In-Replaced) → IsSettledUnit c.judge.new.self (taken_of c.in-Ready.run'.consumer.trail ++ map (with_outcome Replaced) (take 1 c.in-Ready.run'.raws))
settled c =
    subst (λ (raws : List Raw). IsSettledUnit c.judge.new.self (taken_of c.in-Ready.run'.consumer.trail ++ map (with_outcome Replaced) raws)) (sym (first_alone c))
    (taken_unit _ _ c.requires.together _ _ c.in-Ready.ensures.taken c.judge.new.self _
    (subst (λ (u : UnitValue). StaysSettled u c.judge.new.self (with_outcome Replaced c.unwrap.result ∷ [])) (unchanged c) c.in-Replaced.ensures.settled) (replaced_counted _ _ _ _ (replaced c)))

pub complete_run-requires-clause-outcome : goal.complete_run-requires-clause-outcome
complete_run-requires-clause-outcome c = first_replaced c.in-Ready.run'.raws c.unwrap.result _ (sym c.get.ensures ∙ c.unwrap.ensures) c.in-Replaced.ensures.judged.first

pub complete_run-requires-clause-settled : goal.complete_run-requires-clause-settled
complete_run-requires-clause-settled c = settled c

pub returns-in-Replaced-clause-stepped : goal.returns-in-Replaced-clause-stepped
returns-in-Replaced-clause-stepped c =
    let raws = first_and_rest c.in-Ready.run'.raws c.unwrap.result (sym c.get.ensures ∙ c.unwrap.ensures) in
    (c.in-Ready.run', c.unwrap.result, record { read = c.in-Ready.ensures.taken; rest = drop 1 c.in-Ready.run'.raws; raws_are = raws }, replaced c.before, record { consumer_is = c.complete_run.ensures.consumer; grew = c.complete_run.ensures.history })

pub returns-in-Replaced-clause-together : goal.returns-in-Replaced-clause-together
returns-in-Replaced-clause-together c =
    let raws : List Raw = take 1 c.in-Ready.run'.raws in
    taken_together _ _ c.requires.together _ _ c.in-Ready.ensures.taken c.complete_run.result c.judge.new.self (map (with_outcome Replaced) raws) c.complete_run.ensures.taken
    (settled c.before).entries
    (let counted = replaced_more _ _ _ _ (replaced c.before) in
    let same = length-map raws (with_outcome Replaced) in
    let one = ap (λ (l : List Raw). length l) (first_alone c.before) in
    omega (arith, counted, same, one))
    (subst (λ (xs : List Raw). StaysCounted c.args.unit.now c.judge.new.self (map (with_outcome Replaced) xs)) (sym (first_alone c.before)) (replaced_counted _ _ _ _ (replaced c.before)))
    (ap (λ (u : UnitValue). u.stop.next) (replaced c.before).new_is)

pub returns-in-Replaced-clause-history : goal.returns-in-Replaced-clause-history
returns-in-Replaced-clause-history c = c.growth_adds_up.ensures.sum _ _ _ _ _ _ _ c.in-Ready.ensures.taken.grew c.complete_run.ensures.history

pub returns-in-Replaced-clause-removes : goal.returns-in-Replaced-clause-removes
returns-in-Replaced-clause-removes c = replaced_removes _ _ _ _ (replaced c.before)

-- ---- it stopped at the first

stopped : (c : In-Stopped) → IsStoppedAt c.unwrap.result c.in-Stopped.ill c.args.unit.now c.judge.new.self
stopped c =
    subst (λ (u : UnitValue). IsStoppedAt c.unwrap.result c.in-Stopped.ill u c.judge.new.self)
    (none_applied c.in-Ready.run'.raws _ _ _ _ c.apply_legal-count.ensures.applied c.if-count-gt0.false) c.in-Stopped.ensures.judged

pub returns-in-Stopped-clause-stepped : goal.returns-in-Stopped-clause-stepped
returns-in-Stopped-clause-stepped c =
    let raws = first_and_rest c.in-Ready.run'.raws c.unwrap.result (sym c.get.ensures ∙ c.unwrap.ensures) in
    (c.in-Ready.run', c.unwrap.result, record { read = c.in-Ready.ensures.taken; rest = drop 1 c.in-Ready.run'.raws; raws_are = raws }, stopped c.before, c.put_back.ensures.consumer)

pub returns-in-Stopped-clause-together : goal.returns-in-Stopped-clause-together
returns-in-Stopped-clause-together c =
    let raws = first_and_rest c.in-Ready.run'.raws c.unwrap.result (sym c.get.ensures ∙ c.unwrap.ensures) in
    stopped_together _ _ c.requires.together _ _ c.in-Ready.ensures.taken _ _ c.unwrap.result _ _ (λ _. c.unwrap.result) c.put_back.ensures.consumer
    (c.put_back.ensures.seen c.unwrap.result _ raws) (stopped c.before)

pub returns-in-Stopped-clause-removes : goal.returns-in-Stopped-clause-removes
returns-in-Stopped-clause-removes c = stopped_removes _ _ _ _ (stopped c.before)

-- ---- nothing was taken

pub returns-in-Empty-clause-together : goal.returns-in-Empty-clause-together
returns-in-Empty-clause-together c = still_none _ _ c.requires.together false _ c.in-Empty.ensures.taken

pub returns-in-Drained-clause-together : goal.returns-in-Drained-clause-together
returns-in-Drained-clause-together c = still_none _ _ c.requires.together true _ c.in-Drained.ensures.taken

pub returns-in-Unwritten-clause-together : goal.returns-in-Unwritten-clause-together
returns-in-Unwritten-clause-together c = still_unwritten _ _ c.requires.together _ _ c.in-Unwritten.ensures.taken

-- ---- it was neither stopped nor exhausted

pub returns-in-Empty-clause-still : goal.returns-in-Empty-clause-still
returns-in-Empty-clause-still c = not_still c.stopped.result (λ is. cc) c.stopped.ensures c.if-stopped.false

pub returns-in-Empty-clause-exhausted : goal.returns-in-Empty-clause-exhausted
returns-in-Empty-clause-exhausted c = not_exhausted (λ is. cc) (λ most. c.if-taken-eq-MOST_RESERVED.false (c.taken.ensures.value ∙ ap taken c.counts.ensures ∙ most))

pub returns-in-Drained-clause-still : goal.returns-in-Drained-clause-still
returns-in-Drained-clause-still c = not_still c.stopped.result (λ is. cc) c.stopped.ensures c.if-stopped.false

pub returns-in-Drained-clause-exhausted : goal.returns-in-Drained-clause-exhausted
returns-in-Drained-clause-exhausted c = not_exhausted (λ is. cc) (λ most. c.if-taken-eq-MOST_RESERVED.false (c.taken.ensures.value ∙ ap taken c.counts.ensures ∙ most))

pub returns-in-Unwritten-clause-still : goal.returns-in-Unwritten-clause-still
returns-in-Unwritten-clause-still c = not_still c.stopped.result (λ is. cc) c.stopped.ensures c.if-stopped.false

pub returns-in-Unwritten-clause-exhausted : goal.returns-in-Unwritten-clause-exhausted
returns-in-Unwritten-clause-exhausted c = not_exhausted (λ is. cc) (λ most. c.if-taken-eq-MOST_RESERVED.false (c.taken.ensures.value ∙ ap taken c.counts.ensures ∙ most))

pub returns-then-count-gt0-clause-still : goal.returns-then-count-gt0-clause-still
returns-then-count-gt0-clause-still c = not_still c.stopped.result (λ is. cc) c.stopped.ensures c.if-stopped.false

pub returns-then-count-gt0-clause-exhausted : goal.returns-then-count-gt0-clause-exhausted
returns-then-count-gt0-clause-exhausted c = not_exhausted (λ is. cc) (λ most. c.if-taken-eq-MOST_RESERVED.false (c.taken.ensures.value ∙ ap taken c.counts.ensures ∙ most))

pub returns-in-Replaced-clause-still : goal.returns-in-Replaced-clause-still
returns-in-Replaced-clause-still c = not_still c.stopped.result (λ is. cc) c.stopped.ensures c.if-stopped.false

pub returns-in-Replaced-clause-exhausted : goal.returns-in-Replaced-clause-exhausted
returns-in-Replaced-clause-exhausted c = not_exhausted (λ is. cc) (λ most. c.if-taken-eq-MOST_RESERVED.false (c.taken.ensures.value ∙ ap taken c.counts.ensures ∙ most))

pub returns-in-Stopped-clause-still : goal.returns-in-Stopped-clause-still
returns-in-Stopped-clause-still c = not_still c.stopped.result (λ is. cc) c.stopped.ensures c.if-stopped.false

pub returns-in-Stopped-clause-exhausted : goal.returns-in-Stopped-clause-exhausted
returns-in-Stopped-clause-exhausted c = not_exhausted (λ is. cc) (λ most. c.if-taken-eq-MOST_RESERVED.false (c.taken.ensures.value ∙ ap taken c.counts.ensures ∙ most))
