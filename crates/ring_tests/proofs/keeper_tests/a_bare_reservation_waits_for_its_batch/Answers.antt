use Rattle.ring_tests.proofs.keeper_tests.a_bare_reservation_waits_for_its_batch.Goals as goal

pub expect_head-requires-clause-idle : goal.expect_head-requires-clause-idle
expect_head-requires-clause-idle g c =
    c.publish_bare.ensures.consumer _ _ (c.reserve-idle.ensures.consumer _ _ c.kept_ring-ring.ensures.consumer_is)
