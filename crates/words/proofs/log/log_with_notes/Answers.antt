use Rattle.std.proofs.Common.{◌≡◌, Bool, true, List, [], ◌++◌, map, ℕ, Option, Some, None, IfSome, ap, sym, ◌∙◌, subst, append-nil}
use Rattle.std.specs.Prelude.{◌&&◌, not}
use Rattle.script.specs.Lines.{lines_of}
use Rattle.script.proofs.ServesLemmas.{tells, serves_comes}
use Rattle.line_answers.specs.Tellings.{judged}
use Rattle.line_answers.proofs.TellingLemmas.{AreGood, finished, tells_of}
use Rattle.words.specs.declared.log_line.LogLine.{LogLine}
use Rattle.words.specs.declared.log_line.LogLine.TheVariants.{Other}
use Rattle.words.specs.LogLines.{log_line}
use Rattle.words.specs.LogAnswers.{log_answer}
use Rattle.words.specs.Logs.{Comes, all_good}
use Rattle.words.specs.LogSteps.{is_half, ComesBehind, AreJudged}
use Rattle.words.specs.Tellings.{TellsOfLog}
use Rattle.words.proofs.LogLemmas.{judged_first, comes_first, good_last}
use Rattle.words.proofs.log.log_with_notes.Goals as goal

-- what was learned from the first line on
learned : (good new : Bool) (before last : LogLine) (input : Option (List ℕ)) → good ≡ true → before ≡ Other
    → IfSome input (λ bytes. (past : List (List ℕ)) → AreJudged good before past → AreJudged new last (past ++ lines_of bytes))
    → AreGood all_good (new && not (is_half last)) input
learned good new before last None is_good is_first learns = tt
learned good new before last (Some bytes) is_good is_first learns =
    let first : AreJudged good before [] = subst (λ g. AreJudged g before []) (sym is_good) (subst (λ b. AreJudged true b []) (sym is_first) judged_first) in
    ap (λ good. new && good) (sym (good_last last)) ∙ sym (learns [] first []) ∙ ap (λ lines. (log_answer lines).is_good) (append-nil (map log_line (lines_of bytes)))

pub returns : goal.returns
returns g c =
    let serve = c.serve-served.ensures in
    let old = c.new-answering.result in
    let new = c.serve-served.new.interpreter in
    let good = new.all_good && not (is_half new.before) in
    let input = g.R.Read.remaining c.args.input.now in
    let rest = g.R.Read.remaining c.serve-served.new.input in
    let before = g.W.Write.contents c.args.output.now in
    let after = g.W.Write.contents c.serve-served.new.output in
    let is : c.judged.result ≡ judged c.status_of.result good = c.judged.ensures ∙ ap (judged c.status_of.result) c.ended-all_good.ensures in
    subst (λ status. TellsOfLog status input rest before after) (sym is)
    (tells_of Comes all_good c.status_of.result good input rest before after
    (tells Comes c.serve-served.result c.status_of.result _ _ _ _ c.status_of.ensures
    (serves_comes (ComesBehind old.before) Comes (comes_first old.before c.new-answering.ensures.before) _ _ _ _ _ (record {
      answer = serve.answer;
      end = serve.end;
      memory = serve.memory;
      beginning = serve.beginning;
      read = serve.read;
      endless = serve.endless;
    })))
    (λ is_good. learned old.all_good new.all_good old.before new.before input c.new-answering.ensures.good c.new-answering.ensures.before
    (finished c.serve-served.result _ serve.learns (sym c.status_of.ensures ∙ is_good))))
