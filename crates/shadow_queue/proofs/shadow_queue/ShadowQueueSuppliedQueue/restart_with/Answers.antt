use Rattle.std.proofs.Common.{ℕ, ◌<◌, ◌^◌, subst}
use Rattle.shadow_queue.proofs.Shadowing.{shadow_restarted}
use Rattle.shadow_queue.proofs.shadow_queue.ShadowQueueSuppliedQueue.restart_with.Goals as goal

pub invariant_of-self : goal.invariant_of-self
invariant_of-self c =
    let small = subst (λ (n : ℕ). n < 2 ^ 20) c.get.ensures.value c.get.ensures.bits in
    rw c.get.ensures.value (rw c.of.ensures (shadow_restarted _ _ _ c.args.gerrorn c.self.inside.gerrorn_word _ _ _ c.self.invariant small))
