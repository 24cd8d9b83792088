use Rattle.ring_tests.proofs.Kept.{consumer_stays}
use Rattle.ring_tests.proofs.keeper_calls.publish_bare.Goals as goal

pub returns-clause-consumer : goal.returns-clause-consumer
returns-clause-consumer c = consumer_stays _ _ c.args.keeper.now _ _ c.lend_reservation-reservation.ensures.keeper c.take_sender.ensures.others
