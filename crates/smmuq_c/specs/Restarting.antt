-- A hardware queue that begins again.
use Rattle.std.specs.Prelude.{◌≡◌, ◌+◌, ℕ}
use Rattle.hardware_queue.specs.declared.restart.Restart.{Restart}
use Rattle.hardware_queue.specs.declared.state.QueueState.TheVariants.{Running}
use Rattle.hardware_queue.specs.Supplying.{HasRestartedWith}
use Rattle.shadow_queue.specs.Messages.{message_of}
use Rattle.smmuq_c.specs.declared.restarting.RestartWords.{RestartWords}
use Rattle.smmuq_c.specs.declared.status.Status.{Status}
use Rattle.smmuq_c.specs.declared.status.Status.TheVariants.{Done}
use Rattle.smmuq_c.specs.HeldForwarders.{HeldForwarder}

-- It was restarted as `Forwarder::restart_words` does, and what an MSI of the first command says that isn't known to be
-- consumed is told. Nothing was taken or settled.
pub record HasRestartedFor (gerrorn : ℕ) (told : RestartWords) (old new : HeldForwarder) (answered : Status) : Type 0 where
  pub restart : Restart
  pub restarted : HasRestartedWith gerrorn old.owner.queue new.owner.queue restart
  pub running : new.owner.state ≡ Running
  pub consumer : new.consumer ≡ old.consumer
  pub message : told.message ≡ message_of (new.owner.queue.consumed + 1) new.owner.queue
  pub told_is : told ≡ record { prod = restart.prod; cons = restart.cons; message = told.message }
  pub status_is : answered ≡ Done
