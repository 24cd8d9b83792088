use Rattle.qindex.proofs.WordLemmas.{closes, sets_bit_31}
use Rattle.qindex.proofs.laws.or_closes.Goals as goal

pub returns-clause-closes : goal.returns-clause-closes
returns-clause-closes c = closes

pub returns-clause-alone : goal.returns-clause-alone
returns-clause-alone c = sets_bit_31
