use Rattle.std.proofs.Common.{◌∙◌}
use Rattle.engine.specs.Units.{new_unit}
use Rattle.simulator.specs.State.{made}
use Rattle.simulator.proofs.Standings.{together_first}
use Rattle.simulator.proofs.simulator.Simulator.new.Goals as goal

pub invariant_of-result : goal.invariant_of-result
invariant_of-result c =
    let unit = c.new-in-Ok-new.ensures in
    let caches = c.in-Ok.ensures.ok in record {
      there = c.in-Ok-new.ensures.consumer;
      together = together_first c.in-Ok-new.queue.keeper c.new-in-Ok-new.result _ c.in-Ok-new.ensures.run unit.unit unit.settled;
      state = made c.args.shape.now;
      stands = record {
        ring = c.in-Ok-new.ensures.ring;
        run = c.in-Ok-new.ensures.run;
        unit_is = unit.unit ∙ (λ k. new_unit (record { capacity = caches.0 k; entries = caches.1 k }));
      };
    }
