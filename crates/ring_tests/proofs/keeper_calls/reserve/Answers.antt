use Rattle.ring_tests.proofs.Kept.{consumer_stays}
use Rattle.ring_tests.proofs.keeper_calls.reserve.Goals as goal

pub returns-clause-consumer : goal.returns-clause-consumer
returns-clause-consumer g c = consumer_stays _ _ c.args.keeper.now _ _ c.lend_sender-sender.ensures.keeper c.take_reservation.ensures.others
