use Rattle.std.proofs.Common.{◌≡◌, ◌<◌, ◌^◌}
use Rattle.ringcore.specs.machine.StepAnswers.{new_flags}
use Rattle.ringcore.proofs.memory.flags.new_flags.Given as goal

abbrev pub invariant-loop-offset : goal.invariant-loop-offset
invariant-loop-offset l = record { flags_are : l.flags ≡ new_flags l.geometry l.position l.offset; small : l.flags < 2 ^ l.offset }
