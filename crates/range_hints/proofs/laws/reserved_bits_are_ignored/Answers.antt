use Rattle.range_hints.proofs.HintLemmas.{others_kept, reserved_ignored}
use Rattle.range_hints.proofs.laws.reserved_bits_are_ignored.Goals as goal

pub returns-clause-ignored : goal.returns-clause-ignored
returns-clause-ignored c = reserved_ignored c.free_bits_are_ignored.ensures.ignored

pub returns-clause-no_others : goal.returns-clause-no_others
returns-clause-no_others c = others_kept c.free_bits_are_ignored.ensures.no_others
