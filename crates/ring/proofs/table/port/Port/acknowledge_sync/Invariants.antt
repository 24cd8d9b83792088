use Rattle.ring.specs.table.{acknowledges}
use Rattle.ring.proofs.table.port.Port.acknowledge_sync.Given as goal

abbrev pub ghosts-acknowledge : goal.ghosts-acknowledge
ghosts-acknowledge a = record { intent = acknowledges a.sender a.number }
