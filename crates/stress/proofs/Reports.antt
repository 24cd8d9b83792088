-- The report of a run.
use Rattle.std.proofs.Common.{◌≡◌, ℕ, List, map, ap, ◌∙◌, subst, arith}
use Rattle.std.specs.FinMap as finite
use Rattle.ringcore.specs.world.World.{Taken, taken_as, world}
use Rattle.ringcore.specs.world.Allowed.{Ring}
use Rattle.ringcore.specs.world.Delivery.{batches, joined}
use Rattle.ringcore.specs.world.ConsumerLaws.{SawDrained}
use Rattle.caches.specs.Held.{Entries}
use Rattle.ring.specs.Rings.{RingValue}
use Rattle.ring.specs.NewRings.{made_with}
use Rattle.ring.specs.sender.Senders.{SenderValue}
use Rattle.ring.specs.Finishing.{AreAll, SummaryValue}
use Rattle.engine.specs.Counting.{CountsValue, AreCountsOf}
use Rattle.engine.specs.Settled.{IsSettled}
use Rattle.engine.specs.Engines.{EngineValue}
use Rattle.engine.specs.Ends.{IsEngineEnd}
use Rattle.stress.specs.Plans.{PlanValue, IsPlan}
use Rattle.stress.specs.Workers.{HaveSent}
use Rattle.stress.specs.FirstEntries.{HoldsFirst}
use Rattle.stress.specs.EngineTurns.{IsStarted}
use Rattle.stress.specs.Reports.{ReportValue, IsAsPlanned, HaveAsked, IsOfARun}
use Rattle.stress.specs.Totals.{all_commands}
use Rattle.stress.proofs.Totals.{IsMergeOf}
use Rattle.stress.proofs.Emptied.{none_left}
use Rattle.stress.proofs.Whole.{merge_of, many_commands, many_applied, many_replaced, many_syncs}

module _ (plan : PlanValue) (ring : RingValue) (senders : List SenderValue) (engine : EngineValue) (summary : SummaryValue) (counts : CountsValue) (held : Entries) (done : List ℕ) where
  abbrev pub told : ReportValue
  told = record { plan = plan; summary = summary; counts = counts; entries = finite.len held; done = done }

  abbrev pub of_a_run : ring.made_with ≡ made_with plan.log2 plan.senders plan.batches → AreAll ring senders → HaveSent plan senders → IsStarted plan.senders plan.turns ring engine
      → IsEngineEnd ring senders engine summary counts held → counts ≡ engine.unit.counts → held ≡ engine.unit.caches.entries → HaveAsked plan.batches senders done
      → IsOfARun plan told
  of_a_run made all sent started end counts_are held_are asked = record {
    ring = ring;
    senders = senders;
    engine = engine;
    made_is = made;
    all = all;
    sent = sent;
    started = started;
    end = subst (IsEngineEnd ring senders engine summary counts) held_are end;
    counts_are = counts_are;
    entries_are = ap (λ (m : Entries). finite.len m) held_are;
    asked = asked;
  }

-- If the ring was found closed and empty, the numbers of a run are its plan's.
module _ (plan : PlanValue) (plan_is : IsPlan plan) (r : ReportValue) (of_plan : r.plan ≡ plan) (is : IsOfARun plan r) (saw : SawDrained is.engine.consumer.trail) where
  many : is.ring.made_with.senders ≡ plan.senders
  many = ap (λ (made : Ring). made.senders) is.made_is

  merge : IsMergeOf plan (batches is.end.end_is.run)
  merge = merge_of plan is.ring is.senders is.engine.consumer r.summary is.all many is.sent is.end.end_is

  -- all that was reserved is taken
  taken_is : (world is.end.end_is.run).taken ≡ map taken_as (joined (batches is.end.end_is.run))
  taken_is = is.end.end_is.taken_list ∙ ap (map taken_as) (is.end.end_is.whole (is.end.end_is.drained saw).1)

  counted : AreCountsOf (map taken_as (joined (batches is.end.end_is.run))) r.counts
  counted = subst (λ (l : List Taken). AreCountsOf l r.counts) taken_is is.end.counted

  first : HoldsFirst plan.senders is.engine.unit.caches.entries
  first tag entry at = is.started.filled.first tag entry (is.started.goes_on.removes.held tag entry at)

  none_held : finite.len is.engine.unit.caches.entries ≡ 0
  none_held = none_left plan (batches is.end.end_is.run) is.engine.unit.caches.entries plan_is merge first (subst (IsSettled is.engine.unit.caches.entries) taken_is is.end.settled)

  commands_are : r.summary.reserved ≡ all_commands plan
  commands_are = is.end.end_is.reserved ∙ many_commands plan (batches is.end.end_is.run) merge

  pub as_planned : IsAsPlanned plan r
  as_planned = record {
    plan_is = of_plan;
    commands = commands_are;
    taken = (is.end.end_is.drained saw).1 ∙ commands_are;
    syncs = counted.syncs ∙ many_syncs plan (batches is.end.end_is.run) merge;
    applied = counted.applied ∙ many_applied plan (batches is.end.end_is.run) merge;
    replaced = counted.replaced ∙ many_replaced plan (batches is.end.end_is.run) merge;
    removed =
        let now : r.counts.removed ≡ is.engine.unit.counts.removed = ap (λ (c : CountsValue). c.removed) is.counts_are in
        let at_first : is.started.before.unit.counts.removed ≡ 0 = ap (λ (c : CountsValue). c.removed) is.started.filled.counts_are in
        let entries = is.started.filled.many in
        let kept = is.started.goes_on.removes.counted in
        omega (arith, now, none_held, at_first, entries, kept);
    entries = is.entries_are ∙ none_held;
    closed = (is.end.end_is.drained saw).0;
    done = is.asked.many ∙ is.all.many ∙ many;
  }
