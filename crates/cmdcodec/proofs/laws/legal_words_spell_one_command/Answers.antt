use Rattle.cmdcodec.proofs.LawLemmas.{one}
use Rattle.cmdcodec.proofs.SpellingLemmas.{legal, only, ill_decoded}
use Rattle.cmdcodec.proofs.laws.legal_words_spell_one_command.Goals as goal

pub returns-clause-one : goal.returns-clause-one
returns-clause-one c = one

pub returns-clause-legal : goal.returns-clause-legal
returns-clause-legal c = legal

pub returns-clause-decoded : goal.returns-clause-decoded
returns-clause-decoded c = only

pub returns-clause-faults : goal.returns-clause-faults
returns-clause-faults c = ill_decoded
