use Rattle.std.proofs.Common.{ap, sym, ◌∙◌}
use Rattle.line_answers.specs.LineWords.{words_of}
use Rattle.words.specs.LogLines.{last_or}
use Rattle.words.proofs.LogLemmas.{last_of_none, last_of_more}
use Rattle.words.proofs.log_line.last_word.Goals as goal

pub words-preserved : goal.words-preserved
words-preserved c =
    sym (last_of_more c.words.last.now c.in-Some.word.now (words_of c.in-Some.rest.now))
    ∙ sym (ap (last_or c.words.last.now) c.in-Some.ensures.words)
    ∙ c.words.invariant

pub returns : goal.returns
returns c = sym (last_of_none c.words.last.now) ∙ sym (ap (last_or c.words.last.now) c.in_default.ensures.words) ∙ c.words.invariant
