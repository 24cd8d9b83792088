use Rattle.std.proofs.Common.{rules}
use Rattle.ring_tests.proofs.ring_caller.a_batch_and_its_sync.Goals as goal

pub finish-summary-requires-clause-senders : goal.finish-summary-requires-clause-senders
finish-summary-requires-clause-senders g c = record { many = search rules; each = λ k s at. search rules }
