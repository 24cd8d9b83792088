use Rattle.ringcore.specs.machine.Core.{ring_with}
use Rattle.ringcore.proofs.MachineLemmas.PlayedSteps.{HasReached}
use Rattle.ringcore.proofs.machine.run.Given as goal

abbrev pub invariant-loop-place : goal.invariant-loop-place
invariant-loop-place l = HasReached (ring_with l.log2 l.senders) l.steps l.core l.place
