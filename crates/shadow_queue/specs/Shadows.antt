-- The copy of a queue whose memory and registers are somebody else's.
use Rattle.std.specs.Prelude.{◌≡◌, ℕ, ◌<◌, ◌≤◌, [], length, replicate, Contains, Option, Some, None}
use Rattle.qindex.specs.Positions.{IndexValue, size}
use Rattle.qindex.specs.Indexes.{IsGeometry, IsQueue}
use Rattle.hardware_queue.specs.Queues.{QueueValue, Stop, IsSyncAt}
use Rattle.hardware_queue.specs.Standing.{Stands}
use Rattle.hardware_queue.specs.Supplying.{CanHave, AreSupplied}
use Rattle.shadow_queue.specs.declared.seen_stop.SeenStop.{SeenStop}

abbrev pub stop_of : Option SeenStop → Option Stop
stop_of None = None
stop_of (Some seen) = Some (record { position = seen.position; error = seen.error })

-- By the words that it was given, the hardware has consumed a CMD_SYNC behind this position.
pub record IsBehindSync (q : QueueValue) (position : ℕ) : Type 0 where
  pub sync : ℕ
  pub behind : position < sync
  pub consumed : sync < q.consumed
  pub is : IsSyncAt q sync

-- From this position on nothing is lost.
abbrev pub IsUnlostFrom : ℕ → QueueValue → Type 0
IsUnlostFrom from q = (position : ℕ) → Contains q.lost position → position < from

-- It stopped at a command that was shown and isn't known to be consumed.
pub record IsStopWithin (q : QueueValue) (stop : Stop) : Type 0 where
  pub unconsumed : q.consumed ≤ stop.position
  pub shown : stop.position < length q.shown

-- Nothing stands in its memory, and it was told nothing: each register is 0.
pub record IsBlank (q : QueueValue) : Type 0 where
  pub memory : q.memory ≡ replicate (size q.geometry) (record { lo = 0; hi = 0 })
  pub gerrorn : q.gerrorn ≡ 0
  pub read : q.read ≡ []
  pub words : q.supplied.words ≡ record { gerror = 0; cons = 0 }
  pub supplied_gerrorn : q.supplied.gerrorn ≡ 0
  pub again : q.supplied.again ≡ 0

-- What it keeps: what the hardware may read stands in the copy as it was shown, and whatever is asked of a register is
-- answered with the words that it was given, which a working queue can have.
pub record IsShadow (q : QueueValue) (prod cons : IndexValue) : Type 0 where
  pub geometry : IsGeometry q.geometry
  pub memory : length q.memory ≡ size q.geometry
  pub indexes : IsQueue prod cons q.geometry (length q.shown) q.consumed
  pub stands : Stands q
  pub lost : IsUnlostFrom (length q.shown) q
  pub stop : (stop : Stop) → q.stopped ≡ Some stop → IsStopWithin q stop
  pub can : CanHave q.supplied.words q
  pub supplied : AreSupplied q
