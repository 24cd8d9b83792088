use Rattle.std.proofs.Common.{string_bytes, sym, ◌∙◌}
use Rattle.std.proofs.lemmas.Result.{IfOk-weaker}
use Rattle.script.proofs.RequestLemmas.{line_acts, bad_line}
use Rattle.script.proofs.session.Session.serve_text.Goals as goal

pub returns-in-Some : goal.returns-in-Some
returns-in-Some g c =
    IfOk-weaker c.serve_request.result _ _ (λ goes_on acts.
    line_acts g.K.ScriptKind.kind g.K.ScriptKind.stands c.args.number c.args.line.now c.in-Some.request c.args.self.now.kept c.serve_request.new.self.kept
    (string_bytes c.args.reply.now) (string_bytes c.serve_request.new.reply) goes_on c.requires (sym c.in-Some.is ∙ c.in_ok-request.ensures) acts) c.serve_request.ensures

pub returns-in_ok-say_fault-in-None : goal.returns-in_ok-say_fault-in-None
returns-in_ok-say_fault-in-None g c =
    bad_line g.K.ScriptKind.kind g.K.ScriptKind.stands c.args.number c.args.line.now c.args.self.now.kept
    (string_bytes c.args.reply.now) (string_bytes c.say_fault.new.reply) c.requires (sym c.in-None.is ∙ c.in_ok-request.ensures) c.in_ok-say_fault-in-None.ensures
