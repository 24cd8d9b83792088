use Rattle.std.proofs.Common.{subst, sym}
use Rattle.hardware_queue.specs.Queues.{QueueValue, IsFree}
use Rattle.shadow_queue.proofs.Shadowing.{shadow_written}
use Rattle.shadow_queue.proofs.shadow_queue.ShadowQueueCommandQueue.write.Goals as goal

pub invariant_of-self : goal.invariant_of-self
invariant_of-self c =
    shadow_written c.memory_stands.ensures.written _ _ _ c.args.slot c.args.raw c.self.invariant (subst (λ (q : QueueValue). IsFree q c.args.slot) (sym c.self.view_is) c.requires)
