use Rattle.std.proofs.Common.{refl, ap, subst, sym}
use Rattle.hardware_queue.specs.Queues.{QueueValue, IsAtStop}
use Rattle.hardware_queue.specs.declared.reading.Reading.TheVariants.{Gerror}
use Rattle.shadow_queue.specs.Shadows.{IsStopWithin, stop_of}
use Rattle.shadow_queue.proofs.Shadowing.{shadow_stopped}
use Rattle.shadow_queue.proofs.shadow_queue.ShadowQueueCommandQueue.read_gerror.Goals as goal

pub invariant_of-self : goal.invariant_of-self
invariant_of-self c =
    rw c.add.ensures (shadow_stopped _ _ _ (stop_of c.stop_by-self-inside.result) (Gerror c.self.inside.words.gerror) c.self.invariant refl
    (λ stop at. (
      subst (λ (q : QueueValue). IsStopWithin q stop) (sym c.self.view_is) (c.stop_by-self-inside.ensures.inside (ap (λ (q : QueueValue). q.supplied.words.gerror) c.self.view_is) stop at),
      subst (λ (q : QueueValue). IsAtStop q.supplied.words.cons q stop) (sym c.self.view_is) (c.stop_by-self-inside.ensures.there stop at),
    )))
