use Rattle.renewal.specs.Meetings.{FirstHaveMet}
use Rattle.renewal.proofs.meeting.meet_all.Given as goal

abbrev pub invariant-loop-sender : goal.invariant-loop-sender
invariant-loop-sender l = FirstHaveMet l.sender-index l.fn.ring l.fn.senders.items l.sender-items l.fn.engine l.engine
