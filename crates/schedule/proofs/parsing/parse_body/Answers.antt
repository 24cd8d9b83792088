use Rattle.std.proofs.Common.{ap, sym, ◌∙◌}
use Rattle.script.specs.Words.{words_of}
use Rattle.script.specs.Fields.{raws_of}
use Rattle.schedule.proofs.BodyLemmas.{behind, raws_of-more, raws_of-bad, raws_of-end}
use Rattle.schedule.proofs.parsing.parse_body.Goals as goal

pub returns-in_default-raw : goal.returns-in_default-raw
returns-in_default-raw c =
    let front = c.words.body.items in
    sym (c.words.invariant.says ∙ ap (λ ws. behind front (raws_of ws)) c.in-Some.ensures ∙ raws_of-bad front _ _ (sym c.in_default-raw.ensures))

pub words-preserved : goal.words-preserved
words-preserved c =
    let front = c.words.body.items in record {
      says = c.words.invariant.says ∙ ap (λ ws. behind front (raws_of ws)) c.in-Some.ensures
          ∙ raws_of-more front c.in-Some.word.now (words_of c.in-Some.after.now) c.in-Some-raw.command (sym c.in-Some-raw.ensures)
          ∙ ap (λ items. behind items (raws_of (words_of c.in-Some.after.now))) (sym c.hand_in.ensures.items);
      fits = c.hand_in.ensures.fits;
    }

pub returns : goal.returns
returns c =
    let front = c.words.body.items in
    sym (c.words.invariant.says ∙ ap (λ ws. behind front (raws_of ws)) c.in_default.ensures ∙ raws_of-end front c.words.invariant.fits)
