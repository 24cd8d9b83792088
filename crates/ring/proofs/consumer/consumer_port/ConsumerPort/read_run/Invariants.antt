use Rattle.std.proofs.Common.{[], ◌≡◌, ℕ, length, Some}
use Rattle.std.specs.Prelude.{slice_get}
use Rattle.ring.specs.Runs.{Raw, Half, found_ready, half_read, half_of, Consumer}
use Rattle.ring.specs.table.{Grew}
use Rattle.ring.specs.consumer.{reads_from}
use Rattle.ring.proofs.consumer.consumer_port.ConsumerPort.read_run.Given as goal

abbrev pub invariant-loop-offset : goal.invariant-loop-offset
invariant-loop-offset l = record {
  many : length l.commands ≡ l.offset;
  port : record l.self { history = [] } ≡ record l.fn.self { trail = reads_from 0 l.commands l.fn.self.trail; history = [] };
  history : Grew Consumer l.fn.self.trail l.self.trail l.fn.self.history l.self.history;
  ready : found_ready l.self.trail ≡ found_ready l.fn.self.trail;
  read : (k : ℕ) (raw : Raw) (half : Half) → slice_get l.commands k ≡ Some raw → half_read k half l.self.trail ≡ Some (half_of half raw);
}
