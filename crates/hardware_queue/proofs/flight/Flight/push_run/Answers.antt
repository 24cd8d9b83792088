use Rattle.std.proofs.Common.{sym, ◌∙◌}
use Rattle.hardware_queue.proofs.Forwards.{kept_more, kept_room}
use Rattle.hardware_queue.proofs.flight.Flight.push_run.Goals as goal

pub push-requires : goal.push-requires
push-requires g c =
    kept_room c.args.self.now _ _ _ c.args.count c.loop-place.invariant c.loop-place-test.true c.requires.count c.requires.room

pub loop-place-preserved : goal.loop-place-preserved
loop-place-preserved g c =
    kept_more c.args.self.now _ _ _ _ c.args.count c.unwrap-raw.result c.loop-place.invariant (sym c.get.ensures ∙ c.unwrap-raw.ensures) c.loop-place-test.true c.requires.legal c.push.ensures
