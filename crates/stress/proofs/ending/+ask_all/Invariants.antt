use Rattle.stress.proofs.ending.+ask_all.Given as goal

abbrev pub decreases-ask_all : goal.decreases-ask_all
decreases-ask_all l = l.senders.len
