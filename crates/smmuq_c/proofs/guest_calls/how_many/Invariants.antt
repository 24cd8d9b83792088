use Rattle.std.proofs.Common.{◌≡◌, ◌≤◌, ◌+◌, length}
use Rattle.guest_commands.specs.Configurations.{concerned}
use Rattle.smmuq_c.proofs.guest_calls.how_many.Given as goal

abbrev pub invariant-streams : goal.invariant-streams
invariant-streams l = record {
  few : length l.rest ≤ l.left;
  taken : l.left + length (concerned l.command l.guest.streams) ≡ l.most + length l.rest;
}

abbrev pub decreases-streams : goal.decreases-streams
decreases-streams l = length l.rest
