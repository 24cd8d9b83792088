use Rattle.std.proofs.Common.{◌≡◌, map}
use Rattle.std.specs.Prelude.{take}
use Rattle.ringcore.specs.declared.world.event.Outcome.TheVariants.{Applied}
use Rattle.ring.specs.consumer.Completing.{HasOutcome}
use Rattle.hardware_queue.specs.Flights.{hardware_form}
use Rattle.hardware_queue.proofs.hardware_form.pass_run.Given as goal

abbrev pub invariant-loop-place : goal.invariant-loop-place
invariant-loop-place g l = record {
  out_is : l.out.items ≡ map hardware_form (take l.place l.run.raws);
  legal : HasOutcome Applied (take l.place l.run.raws);
}
