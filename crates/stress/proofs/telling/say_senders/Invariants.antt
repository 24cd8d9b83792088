use Rattle.std.proofs.Common.{◌≡◌, ◌++◌}
use Rattle.std.specs.Prelude.{string_bytes, take}
use Rattle.stress.specs.ReportText.{sender_lines}
use Rattle.stress.proofs.telling.say_senders.Given as goal

abbrev pub invariant-loop-number : goal.invariant-loop-number
invariant-loop-number l = string_bytes l.text ≡ string_bytes l.fn.text ++ sender_lines l.batches 0 (take l.number l.done)
