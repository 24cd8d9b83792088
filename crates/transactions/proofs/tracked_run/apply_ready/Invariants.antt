use Rattle.std.proofs.Common.{◌≡◌, ◌+◌, ◌*◌, ◌≤◌}
use Rattle.std.specs.Prelude.{slice_get, take, Some}
use Rattle.cmdcodec.specs.declared.raw.Raw.{Raw}
use Rattle.engine.specs.Stops.{IsStopped, MayComeNext}
use Rattle.engine.specs.Counting.{taken}
use Rattle.engine.proofs.Counted.{as_applied}
use Rattle.transactions.specs.Tracking.{StaysTracked}
use Rattle.transactions.specs.TrackedRuns.{AreAppliedTracked}
use Rattle.transactions.proofs.tracked_run.apply_ready.Given as goal

abbrev pub invariant-loop-count : goal.invariant-loop-count
invariant-loop-count l = record {
  applied : AreAppliedTracked (take l.count l.run.raws) l.removed l.fn.tracked l.tracked;
  few : l.removed ≤ 65536 * l.count;
  running : ¬ IsStopped l.tracked.unit.stop.mode;
  next : (raw : Raw) → slice_get l.run.raws l.count ≡ Some raw → MayComeNext raw l.tracked.unit.stop;
  counted : taken l.tracked.unit.counts ≡ taken l.fn.tracked.unit.counts + l.count;
  tracked : StaysTracked l.fn.tracked l.tracked (as_applied (take l.count l.run.raws));
}
