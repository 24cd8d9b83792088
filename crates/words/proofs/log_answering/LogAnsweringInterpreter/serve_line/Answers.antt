use Rattle.std.proofs.Common.{ap, ◌∙◌, ◌&&◌, string_bytes}
use Rattle.words.specs.LogSteps.{counted_behind}
use Rattle.words.proofs.LogLemmas.{continues, judged_on}
use Rattle.words.proofs.log_answering.LogAnsweringInterpreter.serve_line.Goals as goal

pub returns-clause-goes_on : goal.returns-clause-goes_on
returns-clause-goes_on c _ =
    continues c.args.self.now.before c.log_line-line.result c.behind-self.result c.args.number c.args.line.now (string_bytes c.args.reply.now)
    (string_bytes c.say_behind.new.reply) c.log_line-line.ensures
    (c.behind-self.ensures ∙ ap (λ b. counted_behind b c.log_line-line.result) c.note_behind.ensures.before) c.requires c.in_ok-is_good.ensures.text

pub returns-clause-learns : goal.returns-clause-learns
returns-clause-learns c _ past known =
    let self = c.args.self.now in
    judged_on self.all_good _ self.before c.log_line-line.result c.behind-self.result past c.args.line.now c.log_line-line.ensures
    (c.behind-self.ensures ∙ ap (λ b. counted_behind b c.log_line-line.result) c.note_behind.ensures.before)
    (ap (λ good. good && c.in_ok-is_good.is_good) c.note_behind.ensures.good ∙ ap (λ good. self.all_good && good) c.in_ok-is_good.ensures.good) known
