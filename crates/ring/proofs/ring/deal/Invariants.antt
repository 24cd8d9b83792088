use Rattle.std.proofs.Common.{◌≡◌, ◌≤◌, ◌-◌, [], vec_len}
use Rattle.std.specs.Prelude.{vec_capacity}
use Rattle.ring.specs.table.{participants_from}
use Rattle.ring.proofs.ring.deal.Given as goal
use Rattle.ring.specs.NewRings.{new_senders}

abbrev pub invariant-loop-number : goal.invariant-loop-number
invariant-loop-number l = record {
  table : l.seat.table_id ≡ l.words.table_id;
  seat : l.seat.me ≡ (participants_from l.words.key l.number (l.fn.senders - l.number), []);
  len : vec_len l.all ≡ l.number;
  room : l.fn.senders ≤ vec_capacity l.all;
  items : l.all.items ≡ new_senders (record { table = l.words.table_id; made_with = l.words.key }) l.number;
}
