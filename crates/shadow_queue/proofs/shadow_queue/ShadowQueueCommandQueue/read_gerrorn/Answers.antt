use Rattle.std.proofs.Common.{◌≡◌, ◌+◌, ◌-◌, ◌%◌, ◌==◌, ap, arith}
use Rattle.shadow_queue.proofs.Shadowing.{shadow_gerrorn}
use Rattle.shadow_queue.proofs.shadow_queue.ShadowQueueCommandQueue.read_gerrorn.Goals as goal

pub invariant_of-self : goal.invariant_of-self
invariant_of-self c =
    let g = c.self.inside.gerrorn_word in
    let b = c.self.inside.gerrorn in
    let bit : (g - g % 2 + b % 2) % 2 ≡ b % 2 = omega arith in
    rw c.add.ensures (shadow_gerrorn _ _ _ (g - g % 2 + b % 2) c.self.invariant (omega arith) (ap (λ k. k == 1) bit))
