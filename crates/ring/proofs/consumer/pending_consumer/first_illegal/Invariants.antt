use Rattle.ring.specs.consumer.PendingConsumers.{AreLegal}
use Rattle.ring.proofs.consumer.pending_consumer.first_illegal.Given as goal

abbrev pub invariant-loop-place : goal.invariant-loop-place
invariant-loop-place g l = record { legal : AreLegal l.place l.run.raws }
