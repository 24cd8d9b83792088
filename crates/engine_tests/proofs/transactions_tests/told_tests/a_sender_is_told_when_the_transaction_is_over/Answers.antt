use Rattle.std.proofs.Common.{◌≡◌, [], ap}
use Rattle.ring.specs.consumer.Consumers.{ConsumerValue}
use Rattle.transactions.specs.Tracking.{TrackedValue}
use Rattle.ring.specs.consumer.Completing.{taken_of}
use Rattle.engine_tests.proofs.transactions_tests.told_tests.a_sender_is_told_when_the_transaction_is_over.Goals as goal

pub step_with-consumer-requires-clause-together : goal.step_with-consumer-requires-clause-together
step_with-consumer-requires-clause-together g c =
    let none : taken_of c.in_ok-ring.consumer.trail ≡ [] = ap (λ (x : ConsumerValue TrackedValue). taken_of x.trail) c.in_ok-ring.ensures.made.unused.consumer_is in
    c.begin-transaction.ensures c.in_ok-ring.consumer (c.filled-unit.ensures c.in_ok-ring.consumer none)

pub step_with-consumer-requires-3-clause-together :
    goal.step_with-consumer-requires-3-clause-together
step_with-consumer-requires-3-clause-together g c =
    c.end.ensures c.step_with-consumer-2.result.0 c.step_with-consumer-2.ensures.together
