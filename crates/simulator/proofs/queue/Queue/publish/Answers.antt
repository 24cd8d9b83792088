use Rattle.std.proofs.Common.{◌≡◌, sym, ◌∙◌, true, false}
use Rattle.simulator.specs.declared.queue.Seat.TheVariants.{Idle}
use Rattle.simulator.proofs.SeatLemmas.{seat_at, idle_is_shut}
use Rattle.simulator.proofs.queue.Queue.publish.Goals as goal

pub unreachable-requires : goal.unreachable-requires
unreachable-requires c =
    let no : true ≡ false = sym c.requires.opened ∙ idle_is_shut c.args.self.now.keeper c.args.sender c.in-Idle.field-0
    (seat_at c.self.inside c.args.self.now c.args.sender c.index.result.now (Idle c.in-Idle.field-0) c.self.view_is c.self.invariant c.requires.known c.index.ensures c.in-Idle.is) in
    absurd cc
