use Rattle.std.proofs.Common.{Option, Some, string_bytes, sym, subst}
use Rattle.std.proofs.lemmas.Result.{IfOk-weaker}
use Rattle.script.specs.Outcome.{Continues, Ends}
use Rattle.trace.specs.Logs.{Gives}
use Rattle.trace.specs.Traces.{TraceValue}
use Rattle.trace.proofs.Lines.{continues, ends}
use Rattle.trace.proofs.answering.LogAnsweringInterpreter.serve_line.Goals as goal

pub returns-in-Some-clause-goes_on : goal.returns-in-Some-clause-goes_on
returns-in-Some-clause-goes_on c =
    let before = string_bytes c.args.reply.now in
    let after = string_bytes c.serve_text.new.reply in
    IfOk-weaker c.serve_text.result _ _ (λ on a is.
    subst (λ (t : Option TraceValue). Continues (Gives t) (Gives (Some c.serve_text.new.self)) c.args.number c.args.line.now before after) (sym c.in-Some.is)
    (continues c.args.number c.args.line.now c.in-Some.trace c.serve_text.new.self before after on a is)) c.serve_text.ensures

pub returns-in-Some-clause-ends : goal.returns-in-Some-clause-ends
returns-in-Some-clause-ends c =
    let before = string_bytes c.args.reply.now in
    let after = string_bytes c.serve_text.new.reply in
    IfOk-weaker c.serve_text.result _ _ (λ on a is.
    subst (λ (t : Option TraceValue). Ends (Gives t) c.args.number c.args.line.now before after) (sym c.in-Some.is)
    (ends c.args.number c.args.line.now c.in-Some.trace c.serve_text.new.self before after on a is)) c.serve_text.ensures
