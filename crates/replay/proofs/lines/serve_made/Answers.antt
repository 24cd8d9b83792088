use Rattle.std.proofs.Common.{IfOk, string_bytes, sym, subst}
use Rattle.script.specs.Standing.{Acts}
use Rattle.simulator.specs.Standing.{Stands}
use Rattle.replay.specs.ReplayText.{served}
use Rattle.replay.proofs.lines.serve_made.Goals as goal

pub returns-in-Fill : goal.returns-in-Fill
unfolding served
returns-in-Fill c =
    subst (λ request. IfOk c.fill.result (λ goes_on.
    Acts Stands (λ wanting. served c.args.number wanting request) c.args.simulator.now c.fill.new.simulator (string_bytes c.args.reply.now) (string_bytes c.fill.new.reply) goes_on))
    (sym c.in-Fill.is) c.fill.ensures
