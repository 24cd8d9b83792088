-- What a run with all steps says of the tracked unit at its end.
use Rattle.std.proofs.Common.{ℕ, List, sym, subst, ◌∙◌}
use Rattle.std.proofs.lemmas.List.{length-map}
use Rattle.ringcore.specs.world.Trails.{raws_by}
use Rattle.ringcore.specs.world.World.{taken_as, world}
use Rattle.ring.specs.Rings.{RingValue}
use Rattle.ring.specs.sender.Senders.{SenderValue}
use Rattle.ring.specs.consumer.Completing.{taken_of}
use Rattle.ring.specs.Finishing.{SummaryValue, IsEnd, AreAll}
use Rattle.transactions.specs.Tracking.{TrackedValue, IsTracked}
use Rattle.transactions.specs.Told.{WasToldFully}
use Rattle.transactions.proofs.Ahead.{told_number_fully}
use Rattle.tracked_engine.specs.TrackedEngines.{TrackedEngineValue}
use Rattle.tracked_engine.specs.TrackedEnds.{IsTrackedEnd}

pub ends : (ring : RingValue) (senders : List SenderValue) (engine : TrackedEngineValue) (end : SummaryValue) (t : TrackedValue)
    → AreAll ring senders → IsEnd ring senders engine.consumer end → IsTracked t (taken_of engine.consumer.trail) → IsTrackedEnd ring senders engine end t
ends ring senders engine end t all is tracked = record {
  end_is = is;
  tracked_is = tracked_now;
  told = λ k s at newer older number trail_is.
      subst (λ (n : ℕ). WasToldFully is.run t n number older) (sym (all.each k s at).1)
      (told_number_fully is.run t tracked_now k number older (is.told k s at newer older number trail_is));
  taken_are = is.taken ∙ sym (length-map (raws_by engine.consumer.trail) taken_as) ∙ sym tracked.many;
}
  where
    tracked_now : IsTracked t (world is.run).taken
    tracked_now = subst (IsTracked t) (sym is.taken_list) tracked
