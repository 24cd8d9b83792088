use Rattle.std.proofs.Common.{◌≡◌, [], ◌+◌, ℕ, take}
use Rattle.ring.specs.Runs.{acknowledged_by, syncs_taken, syncs_in, Consumer}
use Rattle.ring.specs.table.{Grew}
use Rattle.ring.specs.consumer.{all_acknowledged, without_newest}
use Rattle.ring.proofs.table.port.Port.acknowledge_run.Given as goal

abbrev pub invariant-loop-place : goal.invariant-loop-place
invariant-loop-place l = record {
  trail : record l.self { history = [] } ≡ record l.fn.self { trail = all_acknowledged (take l.place l.commands) l.fn.self.trail; history = [] };
  acks : (s : ℕ) → acknowledged_by s l.self.trail ≡ syncs_taken s (without_newest l.fn.self.trail) + syncs_in s (take l.place l.commands);
  history : Grew Consumer l.fn.self.trail l.self.trail l.fn.self.history l.self.history;
}
