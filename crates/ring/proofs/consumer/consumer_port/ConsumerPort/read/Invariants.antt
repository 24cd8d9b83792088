use Rattle.ring.specs.table.{reads}
use Rattle.ring.proofs.consumer.consumer_port.ConsumerPort.read.Given as goal

abbrev pub ghosts-read : goal.ghosts-read
ghosts-read a = record { intent = reads a.offset a.half }
