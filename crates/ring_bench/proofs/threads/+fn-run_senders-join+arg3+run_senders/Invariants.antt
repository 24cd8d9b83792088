use Rattle.std.proofs.Common.{◌+◌, ◌*◌}
use Rattle.ring_bench.proofs.threads.+fn-run_senders-join+arg3+run_senders.Given as goal

abbrev pub decreases-join+arg3 : goal.decreases-join+arg3
decreases-join+arg3 g l = 2 * l.senders.len + 1

abbrev pub decreases-run_senders : goal.decreases-run_senders
decreases-run_senders g l = 2 * l.senders.len
