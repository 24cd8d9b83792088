use Rattle.std.proofs.Common.{[], ◌∷◌, ◌++◌, ap, sym, subst, ◌∙◌, ◌&&◌, string_bytes}
use Rattle.script.specs.Outcome.{Continues}
use Rattle.line_answers.specs.Answering.{Comes, all_good}
use Rattle.line_answers.proofs.AnswerLemmas.{continues, one_more}
use Rattle.line_answers.proofs.answering.AnsweringInterpreter.serve_line.Goals as goal

pub returns-clause-goes_on : goal.returns-clause-goes_on
returns-clause-goes_on g c _ =
    let answer_of = g.K.AnswersLines.answer_of c.args.self.now.kind in
    subst
    (λ kind. Continues (Comes answer_of) (Comes (g.K.AnswersLines.answer_of kind)) c.args.number c.args.line.now (string_bytes c.args.reply.now) (string_bytes c.say_line.new.reply))
    (sym c.judge.ensures.kind)
    (continues answer_of c.args.number c.args.line.now (string_bytes c.args.reply.now) (string_bytes c.say_line.new.reply) c.requires c.in_ok-is_good.ensures.text)

pub returns-clause-learns : goal.returns-clause-learns
returns-clause-learns g c _ past known =
    let answer_of = g.K.AnswersLines.answer_of c.args.self.now.kind in
    let judged = c.judge.ensures.good ∙ ap (λ b. c.args.self.now.all_good && b) c.in_ok-is_good.ensures.good
    ∙ ap (λ b. b && (answer_of c.args.line.now).is_good) known ∙ sym (one_more answer_of past c.args.line.now) in
    judged ∙ ap (λ kind. all_good (g.K.AnswersLines.answer_of kind) (past ++ c.args.line.now ∷ [])) (sym c.judge.ensures.kind)
