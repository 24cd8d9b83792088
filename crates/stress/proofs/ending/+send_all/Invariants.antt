use Rattle.stress.proofs.ending.+send_all.Given as goal

abbrev pub decreases-send_all : goal.decreases-send_all
decreases-send_all l = l.workers.len
