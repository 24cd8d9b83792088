use Rattle.std.proofs.Common.{◌-◌, arith, string_bytes, subst}
use Rattle.replay.specs.effects.UnitLines.{step_of}
use Rattle.replay.specs.Stepping.{Steps}
use Rattle.replay.proofs.StepsLemmas.{starts_running, runs_on, stops_running, ran}
use Rattle.replay.proofs.lines.unit_lines.steps.Goals as goal

pub steps-init : goal.steps-init
steps-init c = starts_running c.args.simulator.now (string_bytes c.args.reply.now) c.args.count (c.args.count - 0) (omega arith)

pub steps-preserved : goal.steps-preserved
steps-preserved c =
    runs_on c.args.simulator.now c.steps.simulator c.step.new.simulator _ _ _ c.args.count c.steps.counter (omega arith) c.steps.invariant
    (subst (Steps step_of c.steps.simulator c.step.new.simulator (string_bytes c.steps.reply) (string_bytes c.step.new.reply)) c.if-not-branch.false c.in_ok-step.ensures)

pub returns-then-not-branch : goal.returns-then-not-branch
returns-then-not-branch c =
    stops_running c.args.simulator.now c.steps.simulator c.step.new.simulator _ _ _ c.args.count c.steps.counter (omega arith) c.steps.invariant
    (subst (Steps step_of c.steps.simulator c.step.new.simulator (string_bytes c.steps.reply) (string_bytes c.step.new.reply)) c.if-not-branch.true c.in_ok-step.ensures)

pub returns : goal.returns
returns c = ran c.args.simulator.now c.steps.simulator _ _ c.args.count (c.args.count - c.steps.counter) (omega arith) c.steps.invariant
