use Rattle.invalidations.proofs.LegalLemmas.{served_legal}
use Rattle.invalidations.proofs.laws.served_words_are_legal.Goals as goal

pub returns : goal.returns
returns c = served_legal c.legal_words_spell_one_command.ensures.legal
