use Rattle.std.proofs.Common.{◌≡◌, Ok, drop}
use Rattle.convert.specs.Guests.{guest_asked, streams_of, with_streams}
use Rattle.convert.proofs.asked.Asked.guest.Given as goal

-- With the streams that are left it is what is asked for.
abbrev pub invariant-loop-text : goal.invariant-loop-text
invariant-loop-text l = with_streams (Ok l.guest) (drop l.text-index (streams_of l.fn.self)) ≡ guest_asked l.fn.self
