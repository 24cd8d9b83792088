-- Which step of the ring a line asks for.
use Rattle.ringcore.specs.declared.machine.step.Step.{Step}
use Rattle.ringcore.specs.declared.machine.step.Step.TheVariants as steps
use Rattle.schedule.specs.declared.request.Asked.{Asked}
use Rattle.schedule.specs.declared.request.Asked.TheVariants as asks

abbrev pub step_of : Asked → Step
step_of (asks.Look who) = steps.Look who
step_of (asks.Reserve sender body closes) = steps.Reserve sender body closes
step_of (asks.Write sender slot half) = steps.Write sender slot half
step_of (asks.Flip sender slot count) = steps.Flip sender slot count
step_of (asks.Test slot count) = steps.Test slot count
step_of (asks.Read slot half) = steps.Read slot half
step_of (asks.Advance count) = steps.Advance count
step_of (asks.Close sender) = steps.Close sender
step_of (asks.Acknowledge sender number) = steps.Acknowledge sender number
step_of (asks.Ask sender) = steps.Ask sender
