use Rattle.std.proofs.Common.{sym}
use Rattle.simulator.specs.declared.queue.Seat.TheVariants.{Idle, Open}
use Rattle.simulator.proofs.SeatLemmas.{seat_at, idle_is_shut, open_is_open}
use Rattle.simulator.proofs.queue.Queue.is_open.Goals as goal

pub returns-in-Idle : goal.returns-in-Idle
returns-in-Idle c = sym (idle_is_shut c.args.self.now.keeper c.args.sender c.in-Idle.field-0
    (seat_at c.self.inside c.args.self.now c.args.sender c.index.result.now (Idle c.in-Idle.field-0) c.self.view_is c.self.invariant c.requires c.index.ensures c.in-Idle.is))

pub returns-in-Open : goal.returns-in-Open
returns-in-Open c = sym (open_is_open c.args.self.now.keeper c.args.sender c.in-Open.batch c.in-Open.idle
    (seat_at c.self.inside c.args.self.now c.args.sender c.index.result.now (Open c.in-Open.idle c.in-Open.batch) c.self.view_is c.self.invariant c.requires c.index.ensures c.in-Open.is))
