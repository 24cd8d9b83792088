use Rattle.ring_tests.proofs.Kept.{reservations_stay}
use Rattle.ring_tests.proofs.keeper_calls.expect_head.Goals as goal

pub returns-clause-reservations : goal.returns-clause-reservations
returns-clause-reservations g c = reservations_stay c.args.keeper.now _ _ c.lend_consumer-consumer.ensures.keeper c.take_consumer.ensures.others
