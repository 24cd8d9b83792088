use Rattle.ring_tests.proofs.keeper_tests.a_reservation_waits_for_its_batch.Goals as goal

pub expect_head-consumer-requires-clause-idle : goal.expect_head-consumer-requires-clause-idle
expect_head-consumer-requires-clause-idle g c = c.reserve-idle.ensures.consumer _ _ c.kept_ring-ring.ensures.consumer_is

pub expect_head-requires-clause-idle : goal.expect_head-requires-clause-idle
expect_head-requires-clause-idle g c = c.publish-receipt.ensures.consumer _ _ c.expect_head-consumer.ensures.idle
