use Rattle.cmdcodec.proofs.SpellingLemmas.{only}
use Rattle.cmdcodec.proofs.encoding.encode.Goals as goal

pub returns-clause-decoded_again : goal.returns-clause-decoded_again
returns-clause-decoded_again c =
    only (record { lo = c.low_word.result; hi = c.high_word.result }) c.args.command.now (c.low_word.ensures.spells, c.high_word.ensures.spells)
