use Rattle.std.proofs.Common.{◌≡◌, ap, sym, ◌∙◌, subst, List, None}
use Rattle.ring.specs.Runs.{Consumer, Taken, world}
use Rattle.ring.specs.Rings.{RingValue}
use Rattle.ring.specs.Keepers.{KeeperValue, Adds, own_consumer}
use Rattle.ring.specs.table.Keeping.{RunStands}
use Rattle.ring.specs.consumer.Consumers.{ConsumerValue}
use Rattle.ring.specs.consumer.Completing.{taken_of}
use Rattle.engine.specs.Counting.{AreCountsOf}
use Rattle.engine.specs.Units.{UnitValue}
use Rattle.simulator.proofs.Stepping.{engine_steps}
use Rattle.simulator.proofs.SeatLemmas.{others_stay}
use Rattle.simulator.proofs.Standings.{still_together}
use Rattle.simulator.proofs.queue.stepping.step_lent.Goals as goal

-- the ring stays
same_ring : (c : goal.After-run_stands) → c.take_consumer-idle.new.self.ring ≡ c.args.keeper.now.ring
same_ring c = ap (λ (k : KeeperValue). k.ring) c.take_consumer-idle.ensures.keeper ∙ ap (λ (k : KeeperValue). k.ring) c.lend_consumer-consumer.ensures.keeper

stands : (c : goal.After-run_stands) → RunStands c.args.keeper.now.ring.made_with c.take_consumer-idle.new.self.run
stands c = subst (λ (r : RingValue). RunStands r.made_with c.take_consumer-idle.new.self.run) (same_ring c) c.run_stands.ensures

-- What is taken is what the consumer's trail says.
taken_are : (c : goal.After-run_stands) → taken_of c.step_with-consumer.result.0.trail ≡ (world c.take_consumer-idle.new.self.run).taken
taken_are c = ap taken_of (sym c.take_consumer-idle.ensures.news.trail_is) ∙ sym (c.consumer_trail.ensures.taken c.args.keeper.now.ring.made_with c.take_consumer-idle.new.self.run (stands c).after.run_is)

pub step_with-consumer-requires-clause-together : goal.step_with-consumer-requires-clause-together
step_with-consumer-requires-clause-together c =
    still_together (own_consumer None c.args.keeper.now) c.lend_consumer-consumer.result c.args.unit.now (ap (λ (d : ConsumerValue UnitValue). d.trail) (sym c.lend_consumer-consumer.ensures.consumer)) c.requires.together

pub returns-clause-stepped : goal.returns-clause-stepped
returns-clause-stepped c =
    engine_steps c.indexes_tell_the_queue.ensures.queue c.world_law.ensures.within c.legal_words_spell_one_command.ensures.decoded c.legal_words_spell_one_command.ensures.faults
    c.args.keeper.now c.take_consumer-idle.new.self c.args.unit.now c.step_with-consumer.new.unit c.lend_consumer-consumer.result c.step_with-consumer.result.0
    (ap (λ (d : ConsumerValue UnitValue). d.trail) c.lend_consumer-consumer.ensures.consumer)
    (subst (λ (k : KeeperValue). Adds Consumer c.step_with-consumer.result.0.trail k.run c.take_consumer-idle.new.self.run) c.lend_consumer-consumer.ensures.keeper c.take_consumer-idle.ensures.adds)
    (stands c)
    (same_ring c) (subst (λ (list : List Taken). AreCountsOf list c.step_with-consumer.new.unit.counts) (taken_are c) c.step_with-consumer.ensures.together.counted)
    c.step_with-consumer.result.1 c.step_with-consumer.ensures.stepped c.step_with-consumer.ensures.still c.step_with-consumer.ensures.exhausted

pub returns-clause-together : goal.returns-clause-together
returns-clause-together c =
    still_together c.step_with-consumer.result.0 (own_consumer None c.take_consumer-idle.new.self) c.step_with-consumer.new.unit
    (sym c.take_consumer-idle.ensures.news.trail_is) c.step_with-consumer.ensures.together

pub returns-clause-others : goal.returns-clause-others
returns-clause-others c = others_stay Consumer c.args.keeper.now c.lend_consumer-consumer.new.self c.take_consumer-idle.new.self c.lend_consumer-consumer.ensures.keeper c.take_consumer-idle.ensures.others
