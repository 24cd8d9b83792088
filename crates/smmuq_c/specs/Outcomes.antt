-- What a forwarder tells of a batch.
use Rattle.std.specs.Prelude.{◌≡◌, ◌<◌, ◌≤◌, ◌⊎◌, ℕ}
use Rattle.ring.specs.consumer.Deferring.{settled_raws}
use Rattle.batch_outcomes.specs.declared.batch_outcome.BatchOutcome.{BatchOutcome}
use Rattle.batch_outcomes.specs.declared.batch_outcome.BatchOutcome.TheVariants.{Complete, Lost, NotYet, Unknown}
use Rattle.hardware_queue.specs.Fates.{IsOutcomeOf, IsWhole}
use Rattle.smmuq_c.specs.declared.outcome_calls.OutcomeWords.{OutcomeWords}
use Rattle.smmuq_c.specs.declared.status.Status.{Status}
use Rattle.smmuq_c.specs.declared.status.Status.TheVariants.{Done, BadField}
use Rattle.smmuq_c.specs.HeldForwarders.{HeldForwarder}

abbrev pub outcome_words : BatchOutcome → OutcomeWords
outcome_words Complete = record { outcome = 0; lost = 0 }
outcome_words (Lost count) = record { outcome = 1; lost = count }
outcome_words NotYet = record { outcome = 2; lost = 0 }
outcome_words Unknown = record { outcome = 3; lost = 0 }

-- It is what became of the batch, as `Forwarder::outcome_of` says.
pub record IsToldOutcome (sender number : ℕ) (told : OutcomeWords) (f : HeldForwarder) (answered : Status) : Type 0 where
  pub known : sender < f.consumer.consumer.ring.made_with.senders
  pub outcome : BatchOutcome
  pub is : IsOutcomeOf f.owner.queue.lost (settled_raws f.consumer) sender number outcome
  pub whole : outcome ≡ Complete → IsWhole f.owner.queue.lost (settled_raws f.consumer) sender number
  pub told_is : told ≡ outcome_words outcome
  pub status_is : answered ≡ Done

-- The ring has no such sender.
pub record HasNoSender (sender : ℕ) (f : HeldForwarder) (answered : Status) : Type 0 where
  pub unknown : f.consumer.consumer.ring.made_with.senders ≤ sender
  pub status_is : answered ≡ BadField

abbrev pub HasToldOutcome : ℕ → ℕ → OutcomeWords → HeldForwarder → HeldForwarder → Status → Type 0
HasToldOutcome sender number told old new answered =
    (new ≡ old) × (IsToldOutcome sender number told old answered ⊎ HasNoSender sender old answered)
