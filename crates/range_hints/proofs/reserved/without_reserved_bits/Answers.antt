use Rattle.range_hints.proofs.HintLemmas.{all_cleared}
use Rattle.range_hints.proofs.reserved.without_reserved_bits.Goals as goal

pub returns-in-Ok-clause-cleared : goal.returns-in-Ok-clause-cleared
returns-in-Ok-clause-cleared c =
    all_cleared c.reserved_bits_are_ignored.ensures.no_others _ _ _ _ _ c.in-Ok.is c.decode_with_hint.ensures.only
    c.encode_with_hint.ensures.spells c.encode_with_hint.ensures.reserved
