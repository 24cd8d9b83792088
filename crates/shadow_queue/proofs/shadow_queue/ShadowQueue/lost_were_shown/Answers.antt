use Rattle.std.proofs.Common.{length, subst}
use Rattle.hardware_queue.specs.Queues.{QueueValue}
use Rattle.shadow_queue.specs.Shadows.{IsUnlostFrom}
use Rattle.shadow_queue.proofs.shadow_queue.ShadowQueue.lost_were_shown.Goals as goal

pub returns-clause-lost : goal.returns-clause-lost
returns-clause-lost c = subst (λ (q : QueueValue). IsUnlostFrom (length q.shown) q) c.self.view_is c.self.invariant.lost
