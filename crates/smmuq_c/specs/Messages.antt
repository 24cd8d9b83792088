-- A completion message of a hardware queue.
use Rattle.std.specs.Prelude.{◌≡◌, ◌⊎◌, ℕ}
use Rattle.hardware_queue.specs.declared.state.QueueState.TheVariants.{Running}
use Rattle.hardware_queue.specs.Steps.{HasSettledAll}
use Rattle.shadow_queue.specs.Messages.{HasHeard, IsUnheard}
use Rattle.smmuq_c.specs.declared.status.Status.{Status}
use Rattle.smmuq_c.specs.declared.status.Status.TheVariants.{Done}
use Rattle.smmuq_c.specs.Forwarding.{StandsInOrder, GoesOn}
use Rattle.smmuq_c.specs.HeldForwarders.{HeldForwarder}

-- It settled what the message tells, as `shadow_queue::poll_msi` does.
pub record HasHeardMessage (message told : ℕ) (old new : HeldForwarder) : Type 0 where
  pub heard : HasHeard message old.owner.queue new.owner.queue told
  pub was_running : old.owner.state ≡ Running
  pub running : new.owner.state ≡ Running
  pub settled : HasSettledAll new.owner.queue old.consumer new.consumer
  pub stands : StandsInOrder new
  pub goes_on : GoesOn old new

-- The message says nothing, and nothing changed.
pub record HasHeardNothing (message told : ℕ) (old new : HeldForwarder) : Type 0 where
  pub unheard : IsUnheard message old.owner
  pub none : told ≡ 0
  pub same : new ≡ old

abbrev pub HasPolledMessage : ℕ → ℕ → HeldForwarder → HeldForwarder → Status → Type 0
HasPolledMessage message told old new answered =
    (answered ≡ Done) × (HasHeardMessage message told old new ⊎ HasHeardNothing message told old new)
