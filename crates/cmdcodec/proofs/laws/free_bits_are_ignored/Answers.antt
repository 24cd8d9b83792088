use Rattle.cmdcodec.proofs.FreeBitLemmas.{all_named}
use Rattle.cmdcodec.proofs.LawLemmas.{ignored}
use Rattle.cmdcodec.proofs.laws.free_bits_are_ignored.Goals as goal

pub returns-clause-ignored : goal.returns-clause-ignored
returns-clause-ignored c = ignored

pub returns-clause-no_others : goal.returns-clause-no_others
returns-clause-no_others c = all_named
