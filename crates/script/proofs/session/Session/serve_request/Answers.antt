use Rattle.std.proofs.Common.{string_bytes}
use Rattle.std.proofs.lemmas.Result.{IfOk-weaker}
use Rattle.script.proofs.RequestLemmas.{acts_after, acts_first}
use Rattle.script.proofs.session.Session.serve_request.Goals as goal

pub returns-in-Some : goal.returns-in-Some
returns-in-Some g c =
    IfOk-weaker c.serve_made.result _ _ (λ goes_on acts.
    acts_after g.K.ScriptKind.kind g.K.ScriptKind.stands c.args.number c.args.request.now c.args.self.now.kept c.in-Some.kept c.serve_made.new.kept
    (string_bytes c.args.reply.now) (string_bytes c.serve_made.new.reply) goes_on c.in-Some.is acts) c.serve_made.ensures

pub returns-in-None : goal.returns-in-None
returns-in-None g c =
    IfOk-weaker c.serve_first.result _ _ (λ goes_on acts.
    acts_first g.K.ScriptKind.kind g.K.ScriptKind.stands c.args.number c.args.request.now c.args.self.now.kept c.serve_first.new.self.kept
    (string_bytes c.args.reply.now) (string_bytes c.serve_first.new.reply) goes_on c.in-None.is acts) c.serve_first.ensures
