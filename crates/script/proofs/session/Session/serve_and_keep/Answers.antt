use Rattle.std.proofs.Common.{string_bytes, subst, sym}
use Rattle.script.specs.Kinds.{line_effect}
use Rattle.script.specs.Standing.{ActsAt}
use Rattle.script.proofs.session.Session.serve_and_keep.Goals as goal

pub returns-then-not-goes_on-clause-acts : goal.returns-then-not-goes_on-clause-acts
returns-then-not-goes_on-clause-acts g c =
    subst
    (λ kept. ActsAt g.K.ScriptKind.stands (λ wanting state. line_effect g.K.ScriptKind.kind c.args.number wanting c.args.line.now state)
    c.args.self.now.kept kept (string_bytes c.args.reply.now) (string_bytes c.serve_text.new.reply) c.in_ok-goes_on.goes_on)
    (sym c.keep.ensures.kept) c.in_ok-goes_on.ensures
