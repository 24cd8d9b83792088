use Rattle.std.proofs.Common.{◌≡◌, ◌+◌, ◌*◌, ◌≤◌}
use Rattle.std.specs.Prelude.{slice_get, take, Some}
use Rattle.cmdcodec.specs.declared.raw.Raw.{Raw}
use Rattle.engine.specs.Stops.{IsStopped, MayComeNext}
use Rattle.engine.specs.Counting.{taken}
use Rattle.engine.specs.Units.{AreApplied}
use Rattle.engine.proofs.engine.run_stepping.apply_legal.Given as goal

abbrev pub invariant-loop-count : goal.invariant-loop-count
invariant-loop-count l = record {
  applied : AreApplied (take l.count l.run.raws) l.removed l.fn.unit l.unit;
  few : l.removed ≤ 65536 * l.count;
  running : ¬ IsStopped l.unit.stop.mode;
  next : (raw : Raw) → slice_get l.run.raws l.count ≡ Some raw → MayComeNext raw l.unit.stop;
  counted : taken l.unit.counts ≡ taken l.fn.unit.counts + l.count;
}
