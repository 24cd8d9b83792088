use Rattle.ring.specs.table.{tests}
use Rattle.ring.proofs.consumer.consumer_port.ConsumerPort.test.Given as goal

abbrev pub ghosts-test : goal.ghosts-test
ghosts-test a = record { intent = tests a.limit }
