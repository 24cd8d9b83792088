use Rattle.std.proofs.Common.{◌<◌, arith, ap, ◌∙◌}
use Rattle.cmdcodec.specs.declared.command.Command.{Command}
use Rattle.cmdcodec.specs.Words.{encoding}
use Rattle.batch.specs.Refusals.{unless, push_refusal}
use Rattle.stress.proofs.Bodies.{push_ok}
use Rattle.stress.proofs.plan.Plan.batch.Goals as goal

pub unwrap-requires : goal.unwrap-requires
unwrap-requires c =
    let few : c.loop-place.place < 5 = omega arith in
    push_ok c.args.sender c.args.k c.loop-place.place few _ c.loop-place.invariant.0 _
    (c.push.ensures.answer ∙ ap (λ (k : Command). unless (push_refusal c.loop-place.batch (encoding k)) tt) c.command-in-loop-place.ensures)
