use Rattle.qindex.proofs.WordLemmas.{advances, turns_cons}
use Rattle.qindex.proofs.laws.xor_advances_cons.Goals as goal

pub returns-clause-advances : goal.returns-clause-advances
returns-clause-advances c = advances

pub returns-clause-alone : goal.returns-clause-alone
returns-clause-alone c = turns_cons
