-- What a run with all steps says of the entries at its end.
use Rattle.std.proofs.Common.{◌≡◌, ◌≤◌, ◌<◌, ℕ, List, ◌∷◌, length, map, sym, ap, subst, ◌∙◌, arith}
use Rattle.std.proofs.lemmas.List.{length-map}
use Rattle.cmdcodec.specs.declared.raw.Raw.{Raw}
use Rattle.ringcore.specs.declared.world.event.Event.TheVariants.{Ask}
use Rattle.ringcore.specs.world.Trails.{Run, Trail, raws_by}
use Rattle.ringcore.specs.declared.world.event.Who.TheVariants.{Consumer, Sender}
use Rattle.ringcore.specs.world.World.{Taken, taken_as, world}
use Rattle.ringcore.specs.world.Delivery.{advanced, Begins}
use Rattle.ringcore.specs.world.Laws.{EveryRun}
use Rattle.ringcore.specs.world.ConsumerLaws.{TellsTheOutcomes}
use Rattle.caches.specs.Held.{Entries}
use Rattle.ring.specs.Rings.{RingValue}
use Rattle.ring.specs.sender.Senders.{SenderValue}
use Rattle.ring.specs.consumer.Completing.{taken_of}
use Rattle.ringcore.specs.world.Allowed.{Ring}
use Rattle.ring.specs.table.Histories.{IsHistory}
use Rattle.ring.specs.Finishing.{SummaryValue, IsEnd, WasTold, WasToldAll}
use Rattle.engine.specs.Settled.{HasCovered, IsSettled}
use Rattle.engine.specs.Counting.{CountsValue, taken, AreCountsOf}
use Rattle.engine.specs.Engines.{EngineValue}
use Rattle.engine.specs.Ends.{NoneIsOlder, reserved_ahead, WasToldTruly, WasToldAllTruly, IsEngineEnd}
use Rattle.engine.proofs.Advanced.{begins_later, begins_longer, begun_at, taken_at, legal_is_applied, world_taken}

-- What had been advanced past when this was told is a beginning of what is by now.
pub begins_now : (run : Run) (s told : ℕ) (older : Trail) (was : WasTold run s told older) → Begins (advanced was.earlier) (advanced run)
begins_now run s told older was =
    subst (λ (r : Run). Begins (advanced was.earlier) (advanced r)) (sym was.run_is) (begins_later was.later ((Sender s, Ask told) ∷ was.earlier))

-- What is taken in a run that has the consumer's steps is what the consumer has taken.
pub taken_is : EveryRun TellsTheOutcomes → (ring : Ring) (run : Run) (trail : Trail) → IsHistory ring Consumer trail run → (world run).taken ≡ taken_of trail
taken_is outcomes ring run trail is = outcomes ring run is.stands.after.run_is ∙ ap taken_of is.stands.trail_is

-- A command covers no entry that was filled before it was taken.
none_is_older : (entries : Entries) (first all : List Raw) → Begins first all → IsSettled entries (map taken_as all) → NoneIsOlder entries first
none_is_older entries first all begins settled tag entry held place raw command at legal spelled covered =
    let there = taken_at all place raw (begun_at first all begins place raw at) in
    let covers_it : HasCovered (taken_as raw) tag = record { applied = legal_is_applied raw legal; command = command; spelled = spelled; covered = covered } in
    by_order place entry.born (λ later. (settled tag entry held).uncovered place (taken_as raw) there later covers_it)
  where
    by_order : (a b : ℕ) → ¬ (b ≤ a) → a < b
    by_order a b never = omega (arith, never)

-- What was told in a run was true, if the entries are settled for what is taken in it.
pub told_truly : (run : Run) (entries : Entries) → IsSettled entries (world run).taken → (s told : ℕ) (older : Trail) → WasTold run s told older → WasToldTruly run entries s told older
told_truly run entries settled s told older was = record {
  was_told = was;
  none_older = λ number some most.
      let applied = was.applied number some most in
      none_is_older entries (reserved_ahead applied) (advanced run)
      (begins_longer (reserved_ahead applied) (advanced was.earlier) (advanced run) applied.completed.all_ahead (begins_now run s told older was))
      (subst (IsSettled entries) (world_taken run) settled);
}

pub ends : (ring : RingValue) (senders : List SenderValue) (engine : EngineValue) (end : SummaryValue) (counts : CountsValue) (entries : Entries)
    → IsEnd ring senders engine.consumer end
    → IsSettled entries (taken_of engine.consumer.trail) → taken counts ≡ length (taken_of engine.consumer.trail) → AreCountsOf (taken_of engine.consumer.trail) counts
    → IsEngineEnd ring senders engine end counts entries
ends ring senders engine end counts entries is settled many counted = record {
  end_is = is;
  settled = settled_now;
  told = λ k s at newer older number trail_is. told_truly is.run entries settled_now k number older (is.told k s at newer older number trail_is);
  taken_are = is.taken ∙ sym (length-map (raws_by engine.consumer.trail) taken_as) ∙ sym many;
  counted = subst (λ (l : List Taken). AreCountsOf l counts) (sym is.taken_list) counted;
}
  where
    settled_now : IsSettled entries (world is.run).taken
    settled_now = subst (IsSettled entries) (sym is.taken_list) settled

-- While the ring runs: a run that has the consumer's steps.
module _ (outcomes : EveryRun TellsTheOutcomes) (ring : Ring) (run : Run) (trail : Trail) (entries : Entries) (is : IsHistory ring Consumer trail run) (settled : IsSettled entries (taken_of trail)) where
  pub settled_in_run : IsSettled entries (world run).taken
  settled_in_run = subst (IsSettled entries) (sym (taken_is outcomes ring run trail is)) settled

  pub told_all_truly : (s : ℕ) (mine : Trail) → WasToldAll run s mine → WasToldAllTruly run entries s mine
  told_all_truly s mine was newer older number at = told_truly run entries settled_in_run s number older (was newer older number at)
