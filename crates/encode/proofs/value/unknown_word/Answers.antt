use Rattle.std.proofs.Common.{ap, sym, ◌∙◌}
use Rattle.line_answers.specs.LineWords.{words_of}
use Rattle.encode.specs.Values.{unknown_word}
use Rattle.encode.proofs.ValueLemmas.{unknown_in_nothing, unknown_here, unknown_behind}
use Rattle.encode.proofs.value.unknown_word.Goals as goal

pub returns-then-not-is_of : goal.returns-then-not-is_of
returns-then-not-is_of c =
    let fields = c.args.fields.now in
    c.words.invariant ∙ ap (unknown_word fields) c.in-Some.ensures.words
    ∙ unknown_here fields c.in-Some.word.now (words_of c.in-Some.rest.now) (sym c.is_of.ensures ∙ c.if-not-is_of.true)

pub words-preserved : goal.words-preserved
words-preserved c =
    let fields = c.args.fields.now in
    c.words.invariant ∙ ap (unknown_word fields) c.in-Some.ensures.words
    ∙ unknown_behind fields c.in-Some.word.now (words_of c.in-Some.rest.now) (sym c.is_of.ensures ∙ c.if-not-is_of.false)

pub returns : goal.returns
returns c = c.words.invariant ∙ ap (unknown_word c.args.fields.now) c.in_default.ensures.words ∙ unknown_in_nothing c.args.fields.now
