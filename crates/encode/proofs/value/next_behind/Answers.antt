use Rattle.std.proofs.Common.{◌∷◌, length, ap, sym, ◌∙◌}
use Rattle.std.proofs.lemmas.List.{take_rest}
use Rattle.line_answers.specs.LineWords.{words_of}
use Rattle.encode.specs.Values.{behind}
use Rattle.encode.proofs.ValueLemmas.{behind_nothing, behind_its_key, behind_another}
use Rattle.encode.proofs.value.next_behind.Goals as goal

pub returns-then-starts_with : goal.returns-then-starts_with
returns-then-starts_with c =
    let key = c.args.key.now in
    let word = c.in-Some.word.now in
    let rest = words_of c.in-Some.rest.now in
    c.words.invariant ∙ ap (behind key) c.in-Some.ensures.words
    ∙ behind_its_key key word rest (sym c.starts_with.ensures.value ∙ c.if-starts_with.true)
    ∙ ap (λ digits. digits ∷ behind key rest) (sym (take_rest word (length key)))

pub words-preserved : goal.words-preserved
words-preserved c =
    let key = c.args.key.now in
    c.words.invariant ∙ ap (behind key) c.in-Some.ensures.words
    ∙ behind_another key c.in-Some.word.now (words_of c.in-Some.rest.now) (sym c.starts_with.ensures.value ∙ c.if-starts_with.false)

pub returns : goal.returns
returns c = c.words.invariant ∙ ap (behind c.args.key.now) c.in_default.ensures.words ∙ behind_nothing c.args.key.now
