use Rattle.ringcore.specs.machine.ConsumerViews.{commands_read}
use Rattle.ringcore.specs.machine.SyncTallies.{AreCounted}
use Rattle.ringcore.proofs.machine.sync_tallies.SyncTallies.takes_read.Given as goal

abbrev pub invariant-loop-offset : goal.invariant-loop-offset
invariant-loop-offset l = AreCounted l.initial.self l.self (commands_read l.consumer l.offset)
