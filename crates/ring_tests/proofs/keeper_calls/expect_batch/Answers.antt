use Rattle.ring_tests.proofs.Kept.{senders_stay}
use Rattle.ring_tests.proofs.keeper_calls.expect_batch.Goals as goal

pub returns-clause-senders : goal.returns-clause-senders
returns-clause-senders g c = senders_stay c.args.keeper.now _ _ c.lend_consumer-consumer.ensures.keeper c.take_consumer.ensures.others
