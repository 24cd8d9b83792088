use Rattle.std.proofs.Common.{◌≡◌, [], IfOk, None, ap, ◌∙◌, subst}
use Rattle.caches.specs.Held.{held}
use Rattle.caches.specs.Stored.{Stored}
use Rattle.transactions.specs.Tracking.{new_tracked}
use Rattle.trace.proofs.state.Trace.new.Goals as goal

pub returns-clause-new : goal.returns-clause-new
returns-clause-new c =
    let both = subst (λ r. IfOk r (λ (caches : Stored). (caches.capacity ≡ 65536) × (caches.entries ≡ held []))) c.unwrap-caches.ensures c.new.ensures.ok in
    let caches : c.unwrap-caches.result ≡ record { capacity = 65536; entries = held [] } = λ k. record { capacity = both.0 k; entries = both.1 k } in
    let unit = c.in_ok-unit.ensures.unit ∙ ap (λ (s : Stored). new_tracked 0 s 1024) caches in
    λ k. record { unit = unit k; walks = c.new-3.ensures.items k; accesses = c.new-4.ensures.items k; right = None }
