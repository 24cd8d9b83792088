use Rattle.std.proofs.Common.{◌+◌, ◌*◌}
use Rattle.access_stress.proofs.run.+fn-run_drivers-join+arg3+run_drivers.Given as goal

abbrev pub decreases-join+arg3 : goal.decreases-join+arg3
decreases-join+arg3 g l = 2 * l.senders.len + 1

abbrev pub decreases-run_drivers : goal.decreases-run_drivers
decreases-run_drivers g l = 2 * l.senders.len
