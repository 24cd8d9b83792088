use Rattle.std.proofs.Common.{◌≡◌, List, length}
use Rattle.cmdcodec.specs.declared.raw.Raw.{Raw}
use Rattle.ringcore.specs.declared.world.event.Who.TheVariants.{Consumer}
use Rattle.ring.specs.table.Histories.{Grew}
use Rattle.ring.specs.consumer.Deferring.{settled_raws, unsettled_raws}
use Rattle.hardware_queue.specs.Fates.{IsKnown}
use Rattle.hardware_queue.specs.Kept.{IsBeingSettled}
use Rattle.hardware_queue.specs.Steps.{HasSettled}
use Rattle.hardware_queue.proofs.settling.settle_all.Given as goal

abbrev pub invariant-loop-rest : goal.invariant-loop-rest
invariant-loop-rest g l = record {
  ring : l.consumer.consumer.ring ≡ l.fn.consumer.consumer.ring;
  flight : IsBeingSettled (g.Q.CommandQueue.queue l.owner.queue) l.consumer l.flight l.left;
  settled : (now : List Raw) × HasSettled now l.fn.consumer l.consumer;
  fates : IsKnown (g.Q.CommandQueue.queue l.owner.queue).lost (settled_raws l.consumer) l.consumer.consumer.ring.made_with.senders l.fates;
  history : Grew Consumer l.fn.consumer.consumer.trail l.consumer.consumer.trail l.fn.consumer.consumer.history l.consumer.consumer.history;
}

abbrev pub decreases-loop-rest : goal.decreases-loop-rest
decreases-loop-rest g l = length (unsettled_raws l.consumer)
