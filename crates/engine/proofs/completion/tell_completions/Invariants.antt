use Rattle.std.proofs.Common.{◌≤◌, length}
use Rattle.std.specs.Prelude.{take}
use Rattle.engine.specs.Completions.{AreTold}
use Rattle.engine.proofs.completion.tell_completions.Given as goal

abbrev pub invariant-loop-place : goal.invariant-loop-place
invariant-loop-place g l = record {
  few : l.many ≤ l.place;
  told : l.count ≤ length l.fn.completions → AreTold (take l.place l.run.raws) l.fn.completions l.completions l.many;
}
