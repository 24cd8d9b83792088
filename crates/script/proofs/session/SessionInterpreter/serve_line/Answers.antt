use Rattle.std.proofs.Common.{string_bytes}
use Rattle.script.proofs.GivingLemmas.{continues, ends}
use Rattle.script.proofs.session.SessionInterpreter.serve_line.Goals as goal

pub returns-clause-goes_on : goal.returns-clause-goes_on
returns-clause-goes_on g c =
    continues g.K.ScriptKind.kind g.K.ScriptKind.stands c.args.self.now.kept c.serve_and_keep.new.self.kept c.args.number c.args.line.now
    (string_bytes c.args.reply.now) (string_bytes c.serve_and_keep.new.reply) c.in_ok-goes_on.goes_on c.in_ok-goes_on.ensures.acts c.holds.ensures

pub returns-clause-ends : goal.returns-clause-ends
returns-clause-ends g c =
    ends g.K.ScriptKind.kind g.K.ScriptKind.stands c.args.self.now.kept c.serve_and_keep.new.self.kept c.args.number c.args.line.now
    (string_bytes c.args.reply.now) (string_bytes c.serve_and_keep.new.reply) c.in_ok-goes_on.goes_on c.in_ok-goes_on.ensures.acts
