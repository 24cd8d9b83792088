use Rattle.qindex.proofs.WordLemmas.{said, again}
use Rattle.qindex.proofs.laws.control_words_say_their_control.Goals as goal

pub returns-clause-said : goal.returns-clause-said
returns-clause-said c = said

pub returns-clause-again : goal.returns-clause-again
returns-clause-again c = again
