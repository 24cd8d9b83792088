use Rattle.std.proofs.Common.{Some, ap, sym, ◌∙◌}
use Rattle.script.specs.Words.{words_of}
use Rattle.script.specs.Fields.{raws_of}
use Rattle.replay.proofs.BodyLemmas.{with_raws, raws_of-more, raws_of-bad, raws_of-end}
use Rattle.replay.proofs.parsing.send_lines.parse_body.Goals as goal

pub returns-in_default-raw : goal.returns-in_default-raw
returns-in_default-raw c =
    let raws = c.words.raws.items in
    sym (c.words.invariant ∙ ap (λ ws. with_raws raws (raws_of ws)) c.in-Some.ensures ∙ raws_of-bad raws _ _ (sym c.in_default-raw.ensures))

pub words-preserved : goal.words-preserved
words-preserved c =
    let raws = c.words.raws.items in
    c.words.invariant ∙ ap (λ ws. with_raws raws (raws_of ws)) c.in-Some.ensures
    ∙ raws_of-more raws c.in-Some.word.now (words_of c.in-Some.after.now) c.in-Some-raw.command (sym c.in-Some-raw.ensures)
    ∙ ap (λ rs. with_raws rs (raws_of (words_of c.in-Some.after.now))) (sym c.in_ok-push.ensures.items)

pub returns : goal.returns
returns c =
    let raws = c.words.raws.items in
    ap Some c.new.ensures ∙ sym (c.words.invariant ∙ ap (λ ws. with_raws raws (raws_of ws)) c.in_default.ensures ∙ raws_of-end raws)
