use Rattle.std.proofs.Common.{◌≤◌, ap, rules}
use Rattle.schedule.specs.ScheduleText.{made, ring_or_fault}
use Rattle.schedule.proofs.kind.first_ring.Goals as goal

pub returns-in-Ok : goal.returns-in-Ok
returns-in-Ok c =
    let new = c.in-Ok.ensures.made in
    let numbers = new.numbers in
    let small : c.args.log2 ≤ 19 = search rules in
    (small, made c.args.log2 c.args.senders, record { ring = new.ring; run = new.stands }, λ number. ap (ring_or_fault number c.args.log2 c.args.senders) numbers)
