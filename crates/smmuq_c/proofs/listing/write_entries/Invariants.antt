use Rattle.std.proofs.Common.{◌≡◌, take, drop, map}
use Rattle.smmuq_c.specs.Lists.{listed}
use Rattle.smmuq_c.proofs.listing.write_entries.Given as goal

abbrev pub invariant-loop-place : goal.invariant-loop-place
invariant-loop-place l = record {
  written : take l.place l.buffer ≡ map listed (take l.place l.entries);
  behind : drop l.place l.buffer ≡ drop l.place l.initial.buffer;
}
