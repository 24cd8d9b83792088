use Rattle.std.proofs.Common.{rules}
use Rattle.std.specs.declared.ops.Bound.TheVariants.{Included, Excluded}
use Rattle.caches.specs.Keys.{covers_key}
use Rattle.caches.proofs.KeyOrder.{key_cmp, in_streams, in_top_streams}
use Rattle.caches.proofs.Pruned.{without_from_swept}
use Rattle.caches.proofs.ranges.sweep_streams.Goals as goal
use Rattle.caches.proofs.ranges.sweep_streams.Goals.{in-Ok, in-Err}

pub returns : goal.returns
returns c = record {
  after = without_from_swept key_cmp (covers_key c.args.command.now) (Included c.at-first.result) (Excluded c.match-try_from.end) c.args.map.now.ordered c.remove_covered.new.map.ordered (search rules) (λ q covered.
      elim c.match-try_from.branch [
        | in-Ok w ↦ rw (c.at-first.ensures, w.end-is, w.at-end.ensures, w.in-Ok.ensures.1) (in_streams c.args.streams q (c.requires.reach q covered))
        | in-Err w ↦ rw (c.at-first.ensures, w.end-is, w.least-end.ensures) (in_top_streams c.args.streams q (c.requires.reach q covered))
      ]);
}
