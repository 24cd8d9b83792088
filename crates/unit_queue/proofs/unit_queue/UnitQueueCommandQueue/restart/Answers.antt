use Rattle.std.proofs.Common.{◌≡◌, subst, sym}
use Rattle.hardware_queue.specs.Queues.{command_queue_error}
use Rattle.unit_queue.specs.Queued.{Queued}
use Rattle.unit_queue.proofs.Meeting.{queued_restarted}
use Rattle.unit_queue.proofs.unit_queue.UnitQueueCommandQueue.restart.Goals as goal

pub invariant_of-self : goal.invariant_of-self
invariant_of-self c =
    queued_restarted _ _ _ _ _ c.acknowledged-self-inside.result _ _ c.self.invariant
    (subst (λ (u : Queued). u.error ≡ command_queue_error c.acknowledged-self-inside.result) (sym c.self.view_is) c.acknowledged-self-inside.ensures)
