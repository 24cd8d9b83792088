use Rattle.std.proofs.Common.{◌≡◌, Bool, true, List, [], ◌++◌, ℕ, Option, Some, None, IfSome, ap, sym, ◌∙◌, subst}
use Rattle.script.specs.Lines.{lines_of}
use Rattle.script.proofs.ServesLemmas.{tells}
use Rattle.line_answers.specs.LineAnswers.{LineAnswer}
use Rattle.line_answers.specs.Answering.{Comes, all_good}
use Rattle.line_answers.specs.Tellings.{TellsOfLines, judged}
use Rattle.line_answers.proofs.AnswerLemmas.{judged_alike}
use Rattle.line_answers.proofs.TellingLemmas.{AreGood, finished, tells_of}
use Rattle.line_answers.proofs.serving.answer_lines_with_notes.Goals as goal

-- what was learned from the first line on, by answers that judge lines as these do
learned : (first_of answer_of : List ℕ → LineAnswer) → ((line : List ℕ) → (first_of line).is_good ≡ (answer_of line).is_good) → (old new : Bool) (input : Option (List ℕ)) → old ≡ true
    → IfSome input (λ bytes. (past : List (List ℕ)) → old ≡ all_good first_of past → new ≡ all_good answer_of (past ++ lines_of bytes)) → AreGood (all_good first_of) new input
learned first_of answer_of alike old new None first learns = tt
learned first_of answer_of alike old new (Some bytes) first learns = learns [] first ∙ sym (judged_alike first_of answer_of alike (lines_of bytes))

pub returns : goal.returns
returns g c =
    let answer_of = g.K.AnswersLines.answer_of c.new-answering.result.kind in
    let serve = c.serve-served.ensures in
    let new = c.serve-served.new.interpreter in
    let input = g.R.Read.remaining c.args.input.now in
    let rest = g.R.Read.remaining c.serve-served.new.input in
    let before = g.W.Write.contents c.args.output.now in
    let after = g.W.Write.contents c.serve-served.new.output in
    let is : c.judged.result ≡ judged c.status_of.result new.all_good = c.judged.ensures ∙ ap (judged c.status_of.result) c.ended-all_good.ensures in
    subst (λ kind. TellsOfLines (g.K.AnswersLines.answer_of kind) c.judged.result input rest before after) c.new-answering.ensures.kind
    (subst (λ status. TellsOfLines answer_of status input rest before after) (sym is)
    (tells_of (Comes answer_of) (all_good answer_of) c.status_of.result new.all_good input rest before after
    (tells (Comes answer_of) c.serve-served.result c.status_of.result _ _ _ _ c.status_of.ensures (record {
      answer = serve.answer;
      end = serve.end;
      memory = serve.memory;
      beginning = serve.beginning;
      read = serve.read;
      endless = serve.endless;
    }))
    (λ good. learned answer_of (g.K.AnswersLines.answer_of new.kind) (g.K.AnswersLines.alike c.new-answering.result.kind new.kind) c.new-answering.result.all_good new.all_good input c.new-answering.ensures.good
    (finished c.serve-served.result _ serve.learns (sym c.status_of.ensures ∙ good)))))
