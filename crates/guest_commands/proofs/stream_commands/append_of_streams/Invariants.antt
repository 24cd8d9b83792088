use Rattle.std.proofs.Common.{take}
use Rattle.guest_commands.specs.Appending.{AreAppended}
use Rattle.guest_commands.proofs.stream_commands.append_of_streams.Given as goal

abbrev pub invariant-loop-stream : goal.invariant-loop-stream
invariant-loop-stream l = AreAppended l.smmu l.command (take l.stream-index l.streams) l.initial.body.items l.body.items
