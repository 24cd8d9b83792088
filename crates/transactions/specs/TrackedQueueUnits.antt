-- A tracked unit that serves a queue in memory that its owner may write meanwhile.
use Rattle.std.specs.Prelude.{◌≡◌, ◌≢◌, ◌≤◌, ◌<◌, ◌+◌, ◌-◌, ◌/◌, ◌%◌, ◌^◌, ◌==◌, if◌then◌else◌, ◌↔◌, ◌⊎◌, ℕ, List, [], ◌++◌}
use Rattle.std.specs.Prelude.{None, Some, map, replicate, length}
use Rattle.cmdcodec.specs.declared.raw.Raw.{Raw}
use Rattle.cmdcodec.specs.declared.command.Command.{Command}
use Rattle.cmdcodec.specs.Spelling.{Spells}
use Rattle.ringcore.specs.Limits.{most_reserved}
use Rattle.ringcore.specs.world.World.{Taken}
use Rattle.std.specs.FinMap as finite
use Rattle.caches.specs.declared.tag.Tag.{Tag}
use Rattle.caches.specs.Stored.{Stored}
use Rattle.engine.specs.declared.queue_unit.QueueUnit.{QueueUnit}
use Rattle.engine.specs.declared.verdict.Judgement.{Judgement}
use Rattle.engine.specs.declared.verdict.Judgement.TheVariants as judgement
use Rattle.engine.specs.Counting.{taken}
use Rattle.engine.specs.Stops.{MayComeNext}
use Rattle.engine.specs.Units.{UnitValue, emptied, with_entries, filled, took_words, took_awaited}
use Rattle.engine.specs.QueueUnits.{HasJudgedNext, new_queue_unit}
use Rattle.transactions.specs.declared.recent_invalidations.Invalidation.{Invalidation}
use Rattle.transactions.specs.declared.tracked_judgement.TrackedJudgement.{TrackedJudgement}
use Rattle.transactions.specs.declared.walk.WalkNumbers.{WalkNumbers}
use Rattle.transactions.specs.declared.tracked_judgement.TrackedJudgement.TheVariants.{Judged}
use Rattle.transactions.specs.declared.tracked_judgement.TrackedJudgement.TheVariants.{Waiting}
use Rattle.transactions.specs.Outstanding.{Slots, cover, HasCoveredOutstanding}
use Rattle.transactions.specs.Tracking.{TrackedValue, IsTracked, StaysTracked}
use Rattle.transactions.specs.Tracking.{unit_of, first_number}
use Rattle.transactions.specs.Walks.{walk_number}
use Rattle.transactions.specs.TrackedVerdicts.{IsLegalSync, HasToWait, waited_for}

-- the queue's unit, what is known beside it, and the numbers of its walks
pub record TrackedQueueValue : Type 0 where
  pub queue : QueueUnit
  pub recent : List Invalidation
  pub outstanding : Slots
  pub next_number : ℕ
  pub walks : WalkNumbers

-- the tracked unit in it
abbrev pub tracked_in : TrackedQueueValue → TrackedValue
tracked_in q = record {
  unit = q.queue.unit;
  recent = q.recent;
  outstanding = q.outstanding;
  next_number = q.next_number;
}

abbrev pub with_queue : QueueUnit → TrackedQueueValue → TrackedQueueValue
with_queue queue q = record q { queue = queue }

-- the same with another unit
abbrev pub with_its_unit : UnitValue → TrackedQueueValue → TrackedQueueValue
with_its_unit unit q = with_queue (record q.queue { unit = unit }) q

-- the same with another entry that is born now
abbrev pub with_filled_queue : Tag → ℕ → TrackedQueueValue → TrackedQueueValue
with_filled_queue tag value q =
    with_its_unit (with_entries q.queue.unit (filled tag value q.queue.unit)) q

-- the same without the entry of a tag
abbrev pub with_evicted_queue : Tag → TrackedQueueValue → TrackedQueueValue
with_evicted_queue tag q =
    with_its_unit (with_entries q.queue.unit (finite.remove q.queue.unit.caches.entries tag)) q

-- The queue and its walks are as before.
abbrev pub KeepsQueue : TrackedQueueValue → TrackedQueueValue → Type 0
KeepsQueue old new = (new.queue ≡ old.queue) × (new.walks ≡ old.walks)

-- one of this number that has taken nothing, with these caches and room for so many transactions
abbrev pub new_tracked_queue : ℕ → Stored → ℕ → TrackedQueueValue
new_tracked_queue number caches room = record {
  queue = new_queue_unit caches;
  recent = [];
  outstanding = replicate room None;
  next_number = first_number number;
  walks = record { first = 1; since = 0 };
}

-- ---- walks, whose numbers go on over resets and evictions

-- how many commands were taken since the last reset or eviction
abbrev pub taken_since : TrackedQueueValue → ℕ
taken_since q = taken q.queue.unit.counts - q.walks.since

-- the number of a walk that begins now: the lower 56 bits go on
abbrev pub walk_now : TrackedQueueValue → ℕ
walk_now q = walk_number (unit_of q.next_number) ((q.walks.first + taken_since q) % 2 ^ 56)

-- after how many commands of this unit a walk of this number began. One of another unit, or of
-- before the last reset or eviction, counts as begun after more than are ever taken.
abbrev pub began_in : TrackedQueueValue → ℕ → ℕ
began_in q walk =
    if walk / 2 ^ 56 == unit_of q.next_number
    then q.walks.since + (walk % 2 ^ 56 + (2 ^ 56 - q.walks.first)) % 2 ^ 56
    else 2 ^ 56

-- It began after no more commands than were taken.
abbrev pub BeganHere : TrackedQueueValue → ℕ → Type 0
BeganHere q walk = began_in q walk ≤ taken q.queue.unit.counts

-- Units of other numbers take this walk for one that began after more than are ever taken.
abbrev pub IsRefusedByOthers : TrackedQueueValue → ℕ → Type 0
IsRefusedByOthers here walk =
    (other : TrackedQueueValue) → unit_of other.next_number ≢ unit_of here.next_number
    → most_reserved < began_in other walk

-- numbers that go on behind those of all walks that began until now, from this many commands on
abbrev pub walks_from : ℕ → TrackedQueueValue → WalkNumbers
walks_from since q =
    record { first = (q.walks.first + (taken_since q + 1)) % 2 ^ 56; since = since }

-- ---- a reset

-- The caches are empty, the queue is as a new one, every slot is free, and numbers go on.
abbrev pub reset_queue : TrackedQueueValue → TrackedQueueValue
reset_queue q = record {
  queue = new_queue_unit (emptied q.queue.unit.caches);
  recent = [];
  outstanding = replicate (length q.outstanding) None;
  next_number = q.next_number;
  walks = walks_from 0 q;
}

-- ---- an eviction

-- the same with another unit, some of whose entries were removed without a command; what a walk
-- read that began until now isn't used any more, since it may be what was removed
abbrev pub with_removed : UnitValue → TrackedQueueValue → TrackedQueueValue
with_removed unit q = record (with_its_unit unit q) { walks = walks_from (taken q.queue.unit.counts) q }

-- ---- what becomes of the walks of before

-- Each walk that began here until now comes out as one of another unit.
abbrev pub RefusesWalksOf : TrackedQueueValue → TrackedQueueValue → Type 0
RefusesWalksOf old new = (walk : ℕ) → BeganHere old walk → most_reserved < began_in new walk

-- Each other of this unit comes out nearer by this: refused still, but for one that began
-- 2^56 - 2^46 commands, resets and evictions ago. One of another unit is as before.
abbrev pub BringsNearer : ℕ → TrackedQueueValue → TrackedQueueValue → Type 0
BringsNearer by old new =
    (walk : ℕ) → walk / 2 ^ 56 ≡ unit_of old.next_number
    → taken old.queue.unit.counts < began_in old walk
    → began_in new walk + by ≡ began_in old walk

-- The numbers of walks go on so by an eviction.
pub record RefusesWalks (old new : TrackedQueueValue) : Type 0 where
  pub of_before : RefusesWalksOf old new
  pub nearer : BringsNearer 1 old new

-- ---- judging

-- Where the words were applied, the transactions that their command covers are covered.
abbrev pub CoversBy : Raw → Judgement → Slots → Slots → Type 0
CoversBy raw (judgement.Applied removed) old new =
    (command : Command) → Spells raw command → new ≡ map (cover command) old
CoversBy raw (judgement.Stopped ill) old new = new ≡ old
CoversBy raw (judgement.Replaced ill) old new = new ≡ old

-- The queue's unit judged the words that come next, and the outstanding transactions that they
-- cover are covered. If they are a legal CMD_SYNC, it had none to wait for.
pub record HasJudgedQueue (raw : Raw) (old new : TrackedQueueValue)
    (judgement : Judgement) : Type 0 where
  pub judged : HasJudgedNext raw old.queue new.queue judgement
  pub covers : CoversBy raw judgement old.outstanding new.outstanding
  pub next_number : new.next_number ≡ old.next_number
  pub walks : new.walks ≡ old.walks
  pub none_waited_for : IsLegalSync raw → waited_for (tracked_in old) ≡ 0

-- Waiting: they are a legal CMD_SYNC that has to wait for so many transactions, and nothing
-- changed.
abbrev pub IsTrackedJudgement :
    Raw → TrackedQueueValue → TrackedQueueValue → TrackedJudgement → Type 0
IsTrackedJudgement raw old new (Judged judgement) = HasJudgedQueue raw old new judgement
IsTrackedJudgement raw old new (Waiting transactions) =
    (new ≡ old) × (transactions ≡ waited_for (tracked_in old)) × HasToWait (tracked_in old) raw

abbrev pub IsWaitingQueue : TrackedJudgement → Type 0
IsWaitingQueue (Judged judgement) = ⊥
IsWaitingQueue (Waiting transactions) = Unit {0}

-- It waits exactly if the words are a legal CMD_SYNC and a transaction is outstanding that a
-- command concerns which was taken since what it uses was born.
abbrev pub QueueWaitsExactly : Raw → TrackedQueueValue → TrackedJudgement → Type 0
QueueWaitsExactly raw old answer =
    (list : List Taken) → IsTracked (tracked_in old) list
    → IsWaitingQueue answer ↔ (IsLegalSync raw × HasCoveredOutstanding old.outstanding list)

-- The words that came may come next, and these are taken; or somebody wrote them over those at
-- which it stopped, and those are taken ahead of them.
abbrev pub TookNext : Raw → UnitValue → Judgement → List Taken → Type 0
TookNext raw unit judgement more =
    (MayComeNext raw unit.stop × (more ≡ took_words raw judgement))
    ⊎ (¬ MayComeNext raw unit.stop × ((awaited : Raw) × (unit.stop.next ≡ Some awaited)
    × (more ≡ took_awaited awaited ++ took_words raw judgement)))

-- what a judgement takes: nothing if it waits
abbrev pub TookBy : Raw → UnitValue → TrackedJudgement → List Taken → Type 0
TookBy raw unit (Judged judgement) more = TookNext raw unit judgement more
TookBy raw unit (Waiting transactions) more = more ≡ []

-- It is tracked for what was taken before and for what it took now.
pub record HasTakenNext (raw : Raw) (old new : TrackedQueueValue)
    (answer : TrackedJudgement) : Type 0 where
  pub more : List Taken
  pub took : TookBy raw old.queue.unit answer more
  pub tracked : StaysTracked (tracked_in old) (tracked_in new) more
