use Rattle.std.proofs.Common.{◌≡◌, length}
use Rattle.script.specs.Words.{words_of}
use Rattle.script.specs.Fields.{raws_of}
use Rattle.replay.proofs.BodyLemmas.{with_raws}
use Rattle.replay.proofs.parsing.send_lines.parse_body.Given as goal

abbrev pub invariant-words : goal.invariant-words
invariant-words l = raws_of (words_of l.text) ≡ with_raws l.raws.items (raws_of (words_of l.rest))

abbrev pub decreases-words : goal.decreases-words
decreases-words l = length (words_of l.rest)
