-- What a completion message tells: the MSI of a CMD_SYNC, whose data is how many commands the hardware was told to read up to
-- it, with those that it was told to read again by restarts. So what an MSI of before a restart says lies behind.
use Rattle.std.specs.Prelude.{◌≡◌, ◌≢◌, ℕ, ◌+◌, ◌-◌, ◌%◌, ◌^◌, ◌<◌, ◌≤◌, ◌⊎◌, length}
use Rattle.qindex.specs.Positions.{size, index_of}
use Rattle.hardware_queue.specs.declared.register_words.RegisterWords.{RegisterWords}
use Rattle.hardware_queue.specs.declared.queue_progress.Progress.TheVariants.{Consumed}
use Rattle.hardware_queue.specs.Queues.{QueueValue, newly_consumed}
use Rattle.hardware_queue.specs.declared.state.QueueState.TheVariants.{Running}
use Rattle.hardware_queue.specs.Owners.{OwnerValue, IsOwned}
use Rattle.hardware_queue.specs.Supplying.{CanHave, HasLooked}

-- what the MSI says of a CMD_SYNC with which so many commands were shown
abbrev pub message_of : ℕ → QueueValue → ℕ
message_of position q = (position + q.supplied.again) % 2 ^ 32

-- By these 32 bits all up to this position is consumed. None of it is behind what is known to be consumed, or wasn't shown.
pub record IsToldUpTo (position message : ℕ) (q : QueueValue) : Type 0 where
  pub counted : message_of position q ≡ message
  pub ahead : q.consumed ≤ position
  pub shown : position ≤ length q.shown

-- what the registers have then, with no error active
abbrev pub words_at : ℕ → QueueValue → RegisterWords
words_at position q = record { gerror = q.gerrorn; cons = (index_of q.geometry position).number }

-- These are the words of the registers once all is consumed that the message tells: up to just one position, which RD says.
pub record AreToldBy (message : ℕ) (q : QueueValue) (words : RegisterWords) : Type 0 where
  pub position : ℕ
  pub told : IsToldUpTo position message q
  pub only : (other : ℕ) → IsToldUpTo other message q → other ≡ position
  pub words_are : words ≡ words_at position q
  pub consumed : q.consumed + newly_consumed words.cons q ≡ position

-- So many more were consumed, by a look that found what a message tells in the registers.
pub record HasHeard (message : ℕ) (old new : QueueValue) (count : ℕ) : Type 0 where
  pub told : IsToldUpTo (old.consumed + count) message old
  pub looked : HasLooked (words_at (old.consumed + count) old) old new (Consumed count)

-- A message says nothing: it tells no position that the registers can have.
abbrev pub SaysNothing : ℕ → QueueValue → Type 0
SaysNothing message q = (position : ℕ) → IsToldUpTo position message q → ¬ CanHave (words_at position q) q

-- It says nothing, or the last look found a stop, or a broken queue.
abbrev pub IsUnheard : ℕ → OwnerValue QueueValue → Type 0
IsUnheard message owner = (owner.state ≢ Running) ⊎ SaysNothing message owner.queue

-- ---- messages of before a restart

-- Since then the queue was restarted, once or more: at the first restart it wasn't known to have consumed more, and it went
-- on from there. So many commands it was told to read again, and this position is no more than 2^32 commands ago.
pub record WentOnBehindRestart (position : ℕ) (before later : QueueValue) : Type 0 where
  pub more : ℕ
  pub again : later.supplied.again ≡ (before.supplied.again + more) % 2 ^ 32
  pub restarted : length before.shown - before.consumed ≤ more
  pub consumed : before.consumed ≤ later.consumed
  pub recent : later.consumed + more + size later.geometry < position + 2 ^ 32

-- The MSI of a CMD_SYNC that the hardware was shown before a restart tells nothing behind it, whenever it comes: no more than
-- what is known to be consumed.
abbrev pub MessagesOfBeforeTellNothing : Type 0
MessagesOfBeforeTellNothing =
    (position told : ℕ) (before later : QueueValue) → position ≤ length before.shown
    → IsOwned later → WentOnBehindRestart position before later
    → IsToldUpTo told (message_of position before) later → told ≡ later.consumed
