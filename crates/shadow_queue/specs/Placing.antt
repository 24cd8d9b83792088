-- What whoever writes the memory and the registers of a queue is told.
use Rattle.std.specs.Prelude.{◌≡◌, ℕ, ◌+◌, List, ◌++◌, length, drop}
use Rattle.cmdcodec.specs.declared.raw.Raw.{Raw}
use Rattle.qindex.specs.Positions.{place, index_of}
use Rattle.hardware_queue.specs.declared.forwarded.Forwarded.{Forwarded}
use Rattle.hardware_queue.specs.declared.forwarded.Forwarded.TheVariants.{Shown}
use Rattle.hardware_queue.specs.Queues.{QueueValue}
use Rattle.shadow_queue.specs.declared.placement.Placement.{Placement}
use Rattle.shadow_queue.specs.Messages.{message_of}

-- The buffer begins with just the commands that the hardware was shown since, and is told how many they are, the slot of the
-- first, PROD behind the last, and what an MSI of the first would say.
pub record IsPlaced (before after : List Raw) (old new : QueueValue) (told : Placement) : Type 0 where
  pub commands : List Raw
  pub shown : new.shown ≡ old.shown ++ commands
  pub count : told.count ≡ length commands
  pub buffer : after ≡ commands ++ drop (length commands) before
  pub slot : told.slot ≡ place old.geometry (length old.shown)
  pub prod : told.prod ≡ (index_of new.geometry (length new.shown)).number
  pub message : told.message ≡ message_of (length old.shown + 1) old

-- how many commands the hardware was shown by this answer
abbrev pub count_shown : Forwarded → ℕ
count_shown (Shown count) = count
count_shown other = 0
