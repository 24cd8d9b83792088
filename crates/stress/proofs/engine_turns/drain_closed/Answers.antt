use Rattle.std.proofs.Common.{◌∙◌, Ok, ap}
use Rattle.stress.specs.declared.engine_turns.Found.{Found}
use Rattle.stress.specs.EngineTurns.{IsNotDrained, no_end, found_open}
use Rattle.stress.proofs.Turns.{left_open, when_err}
use Rattle.stress.proofs.engine_turns.drain_closed.Goals as goal

pub returns-in_err-drain-clause-undrained : goal.returns-in_err-drain-clause-undrained
returns-in_err-drain-clause-undrained c =
    when_err c.from_residual.result (IsNotDrained c.args.slots c.args.engine.now c.drain.new.engine) (no_end c.in_err-drain.ensures.undrained)

pub returns-in_default-clause-undrained : goal.returns-in_default-clause-undrained
returns-in_default-clause-undrained c =
    found_open (left_open c.args.slots c.in_ok-drain.field-0 c.args.engine.now c.drain.new.engine c.in_default.not-Drained c.in_ok-drain.ensures.found)

pub returns-clause-drained : goal.returns-clause-drained
returns-clause-drained c = c.drain.ensures.drained (c.in_ok-drain.was ∙ ap (λ (f : Found). Ok f) c.in-Drained.is)
