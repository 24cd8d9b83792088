use Rattle.std.proofs.Common.{subst, sym}
use Rattle.hardware_queue.specs.Queues.{QueueValue, IsOfIllegal}
use Rattle.shadow_queue.proofs.Shadowing.{shadow_overwritten}
use Rattle.shadow_queue.proofs.shadow_queue.ShadowQueueCommandQueue.overwrite.Goals as goal

pub invariant_of-self : goal.invariant_of-self
invariant_of-self c =
    rw c.add.ensures (shadow_overwritten c.memory_stands.ensures.overwritten _ _ _ c.args.slot c.self.invariant (subst (λ (q : QueueValue). IsOfIllegal q c.args.slot) (sym c.self.view_is) c.requires))
