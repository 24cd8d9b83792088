use Rattle.std.proofs.Common.{◌<◌, ◌≤◌, ℕ, arith}
use Rattle.caches.specs.Limits.{IsCapacity}
use Rattle.smmuq_c.proofs.unit_calls.new_caches.Goals as goal

in_range : (n : ℕ) → ¬ ¬ IsCapacity n → IsCapacity n
in_range n not_not =
    let some : 0 < n = grind (arith, not_not) in
    let most : n ≤ 65536 = grind (arith, not_not) in (some, most)

pub returns-in-Ok-clause-ok : goal.returns-in-Ok-clause-ok
returns-in-Ok-clause-ok c = record {
  in_range = in_range c.args.capacity (λ no. let e = c.in-Ok.ensures.when.1 no in absurd (cc));
  capacity_is = c.in-Ok.ensures.ok.0;
  empty = c.in-Ok.ensures.ok.1;
}
