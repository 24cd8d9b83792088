use Rattle.std.proofs.Common.{◌≡◌, ◌≤◌, length}
use Rattle.script.specs.Words.{words_of}
use Rattle.script.specs.Fields.{raws_of}
use Rattle.schedule.specs.Lines.{body_of}
use Rattle.schedule.proofs.BodyLemmas.{behind}
use Rattle.schedule.proofs.parsing.parse_body.Given as goal

abbrev pub invariant-words : goal.invariant-words
invariant-words l = record {
  says : body_of (words_of l.text) ≡ behind l.body.items (raws_of (words_of l.rest));
  fits : length l.body.items ≤ 64;
}

abbrev pub decreases-words : goal.decreases-words
decreases-words l = length (words_of l.rest)
