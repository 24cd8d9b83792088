use Rattle.std.proofs.Common.{◌≡◌, ◌+◌, ◌++◌, length, take, drop, map}
use Rattle.guest_commands.specs.Configurations.{concerned}
use Rattle.smmuq_c.specs.Guests.{stream_words}
use Rattle.smmuq_c.proofs.guest_calls.write_streams.Given as goal

abbrev pub invariant-streams : goal.invariant-streams
invariant-streams l = record {
  all : take l.place l.buffer ++ map stream_words l.rest ≡ map stream_words (concerned l.command l.guest.streams);
  placed : l.place + length l.rest ≡ length (concerned l.command l.guest.streams);
  behind : drop l.place l.buffer ≡ drop l.place l.fn.buffer;
  long : length l.buffer ≡ length l.fn.buffer;
}

abbrev pub decreases-streams : goal.decreases-streams
decreases-streams l = length l.rest
