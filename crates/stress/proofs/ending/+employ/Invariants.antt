use Rattle.stress.proofs.ending.+employ.Given as goal

abbrev pub decreases-employ : goal.decreases-employ
decreases-employ l = l.senders.len
