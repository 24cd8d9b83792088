use Rattle.std.proofs.Common.{ℕ, string_bytes, subst}
use Rattle.script.specs.Effects.{Effect}
use Rattle.script.specs.Standing.{Begins}
use Rattle.script.proofs.EffectLemmas.{nothing_first}
use Rattle.script.proofs.session.Session.serve_first.Goals as goal

pub returns-in-Nothing : goal.returns-in-Nothing
returns-in-Nothing g c =
    let stands = g.K.ScriptKind.stands in
    let effect : ℕ → Effect g.K.ScriptKind.State = λ number. g.K.ScriptKind.kind.first_served number c.args.request.now in
    nothing_first stands (effect c.args.number) c.args.self.now.kept (string_bytes c.args.reply.now) c.requires
    (subst (λ first. Begins stands first effect) c.in-Nothing.is c.in_ok-first.ensures c.args.number)
