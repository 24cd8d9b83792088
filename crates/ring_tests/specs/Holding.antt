-- Who holds the head, by the name that a take tells.
use Rattle.std.specs.Prelude.{◌≡◌, ℕ, []}
use Rattle.ring.specs.Runs.{Consumer}
use Rattle.ring.specs.table.Rule.{WentOn}
use Rattle.ring.specs.consumer.Consumers.{ConsumerValue}
use Rattle.ring.specs.consumer.Taking.{TookUnwritten}

-- Amid steps of others, the consumer took, found the head held, and was told that this sender holds it. It took no
-- other step.
pub record FoundHeldBy {D : Type 0} (s : ℕ) (old new : ConsumerValue D) : Type 0 where
  pub before : ConsumerValue D
  pub after : ConsumerValue D
  pub before_is : record before { history = [] } ≡ record old { history = [] }
  pub until_then : WentOn Consumer old.history before.history
  pub took : TookUnwritten 1 before after
  pub holder_is : took.holder ≡ s
  pub after_is : record new { history = [] } ≡ record after { history = [] }
  pub since_then : WentOn Consumer after.history new.history
