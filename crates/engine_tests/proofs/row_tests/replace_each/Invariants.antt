use Rattle.std.proofs.Common.{◌≡◌, ◌≤◌}
use Rattle.engine_tests.proofs.row_tests.replace_each.Given as goal

abbrev pub invariant-loop : goal.invariant-loop
invariant-loop l = record {
  ring : l.engine.consumer.ring ≡ l.ring;
  most : l.replaced ≤ l.counter;
}
