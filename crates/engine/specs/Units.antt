-- The unit as contracts see it, and what a command does to it.
use Rattle.std.specs.Prelude.{◌≡◌, ◌≤◌, ◌+◌, ℕ, Bool, List, [], ◌∷◌, ◌++◌, length, None, Some}
use Rattle.std.specs.FinMap as finite
use Rattle.cmdcodec.specs.declared.raw.Raw.{Raw}
use Rattle.cmdcodec.specs.declared.command.Command.{Command}
use Rattle.cmdcodec.specs.declared.ill.Ill.{Ill}
use Rattle.cmdcodec.specs.Spelling.{Spells}
use Rattle.cmdcodec.specs.Legality.{first_ill}
use Rattle.ringcore.specs.declared.world.event.Outcome.TheVariants.{Applied as AsApplied, Replaced as AsReplaced}
use Rattle.ringcore.specs.world.World.{Taken}
use Rattle.caches.specs.Limits.{most_entries}
use Rattle.caches.specs.declared.tag.Tag.{Tag}
use Rattle.caches.specs.declared.tag.Entry.{Entry}
use Rattle.caches.specs.Stored.{Stored}
use Rattle.caches.specs.Held.{Entries, held, without_covered, without_older, without_passing}
use Rattle.engine.specs.declared.stop.Mode.TheVariants.{Running, Replacing}
use Rattle.engine.specs.declared.verdict.Verdict.{Verdict}
use Rattle.engine.specs.declared.verdict.Verdict.TheVariants.{Applied, Stopped, Replaced}
use Rattle.engine.specs.declared.verdict.Judgement.{Judgement}
use Rattle.engine.specs.declared.verdict.Judgement.TheVariants as judgement
use Rattle.engine.specs.Settled.{IsSettled}
use Rattle.engine.specs.Stops.{StopValue, unstopped, stopped_at, gone_on}
use Rattle.engine.specs.Counting.{CountsValue, taken, none_counted, counted_applied, counted_replaced, AreCountsOf}

-- the unit: its caches, its stop and its counts
pub record UnitValue : Type 0 where
  pub caches : Stored
  pub stop : StopValue
  pub counts : CountsValue

-- The unit has taken exactly these: its counts are theirs, and its entries are settled for them.
pub record IsSettledUnit (unit : UnitValue) (list : List Taken) : Type 0 where
  pub entries : IsSettled unit.caches.entries list
  pub counted : AreCountsOf list unit.counts

-- a unit that has taken nothing
abbrev pub new_unit : Stored → UnitValue
new_unit caches = record { caches = caches; stop = unstopped; counts = none_counted }

-- caches of the same capacity that hold nothing
abbrev pub emptied : Stored → Stored
emptied caches = record caches { entries = held [] }

abbrev pub with_entries : UnitValue → Entries → UnitValue
with_entries u entries = record u { caches = record u.caches { entries = entries } }

-- the entries with this one under its tag
abbrev pub with_entry : Entry → UnitValue → Entries
with_entry entry u = finite.insert u.caches.entries entry.tag entry

-- the entries with a new one that is born now
abbrev pub filled : Tag → ℕ → UnitValue → Entries
filled tag value u = with_entry (record { tag = tag; value = value; born = taken u.counts }) u

-- The entries whose tags pass, `count` of them, are gone, and nothing else changed.
pub record HasLost (passes : Tag → Bool) (count : ℕ) (old new : UnitValue) : Type 0 where
  pub new_is : new ≡ with_entries old (without_passing passes old.caches.entries)
  pub count_is : count + finite.len new.caches.entries ≡ finite.len old.caches.entries

-- The entries that were filled before this many commands were taken, `count` of them, are gone, and nothing else changed.
pub record HasLostOlder (born count : ℕ) (old new : UnitValue) : Type 0 where
  pub new_is : new ≡ with_entries old (without_older born old.caches.entries)
  pub count_is : count + finite.len new.caches.entries ≡ finite.len old.caches.entries

-- ---- what a command does

-- The words are legal, and spell this command and no other.
pub record IsLegal (raw : Raw) (command : Command) : Type 0 where
  pub legal : first_ill raw ≡ None
  pub spelled : Spells raw command
  pub alone : (other : Command) → Spells raw other → other ≡ command

-- A legal command was applied: what it covers is gone.
pub record IsApplied (raw : Raw) (command : Command) (removed : ℕ) (old new : UnitValue) : Type 0 where
  pub running : old.stop.mode ≡ Running
  pub legal : IsLegal raw command
  pub entries : new.caches.entries ≡ without_covered command old.caches.entries
  pub removed_are : removed + finite.len new.caches.entries ≡ finite.len old.caches.entries
  pub few : removed ≤ most_entries
  pub capacity : new.caches.capacity ≡ old.caches.capacity
  pub stop : new.stop ≡ gone_on old.stop
  pub counts : new.counts ≡ counted_applied raw removed old.counts

-- An illegal command came while it was running: it stopped there, and nothing else changed.
pub record IsStoppedAt (raw : Raw) (ill : Ill) (old new : UnitValue) : Type 0 where
  pub running : old.stop.mode ≡ Running
  pub first : first_ill raw ≡ Some ill
  pub new_is : new ≡ record old { stop = stopped_at raw ill old.stop }

-- The illegal command that it was told to replace was taken, and no entry changed.
pub record IsReplaced (raw : Raw) (ill : Ill) (old new : UnitValue) : Type 0 where
  pub told : old.stop.mode ≡ Replacing
  pub first : first_ill raw ≡ Some ill
  pub new_is : new ≡ record old { stop = gone_on old.stop; counts = counted_replaced raw old.counts }

abbrev pub HasJudged : Raw → UnitValue → UnitValue → Verdict → Type 0
HasJudged raw old new (Applied command removed) = IsApplied raw command removed old new
HasJudged raw old new (Stopped ill) = IsStoppedAt raw ill old new
HasJudged raw old new (Replaced ill) = IsReplaced raw ill old new

-- the commands that a verdict takes
abbrev pub took : Raw → Verdict → List Taken
took raw (Applied command removed) = record { raw = raw; outcome = AsApplied } ∷ []
took raw (Stopped ill) = []
took raw (Replaced ill) = record { raw = raw; outcome = AsReplaced } ∷ []

-- ---- the same of words whose command isn't told

abbrev pub HasJudgedWords : Raw → UnitValue → UnitValue → Judgement → Type 0
HasJudgedWords raw old new (judgement.Applied removed) = (command : Command) × IsApplied raw command removed old new
HasJudgedWords raw old new (judgement.Stopped ill) = IsStoppedAt raw ill old new
HasJudgedWords raw old new (judgement.Replaced ill) = IsReplaced raw ill old new

abbrev pub took_words : Raw → Judgement → List Taken
took_words raw (judgement.Applied removed) = record { raw = raw; outcome = AsApplied } ∷ []
took_words raw (judgement.Stopped ill) = []
took_words raw (judgement.Replaced ill) = record { raw = raw; outcome = AsReplaced } ∷ []

-- It took the illegal words at which it stopped without effect, in place of judging them again, and goes on.
pub record HasReplacedAwaited (awaited : Raw) (old new : UnitValue) : Type 0 where
  pub ill : Ill
  pub next_is : old.stop.next ≡ Some awaited
  pub first : first_ill awaited ≡ Some ill
  pub new_is : new ≡ record old { stop = gone_on old.stop; counts = counted_replaced awaited old.counts }

-- what is taken by that
abbrev pub took_awaited : Raw → List Taken
took_awaited awaited = record { raw = awaited; outcome = AsReplaced } ∷ []

-- ---- what stays settled

-- For every list as long as the number taken: entries settled for it before are settled for it with these
-- appended.
abbrev pub StaysSettled : UnitValue → UnitValue → List Taken → Type 0
StaysSettled old new more =
    (list : List Taken) → length list ≡ taken old.counts → IsSettled old.caches.entries list → IsSettled new.caches.entries (list ++ more)

-- ---- what commands do, one after another

-- All these are legal and were applied in turn, and removed `removed` entries in total.
abbrev pub AreApplied : List Raw → ℕ → UnitValue → UnitValue → Type 0
AreApplied [] removed old new = (removed ≡ 0) × (new ≡ old)
AreApplied (raw ∷ raws) removed old new =
    (between : UnitValue) × (command : Command) × (first : ℕ) × (rest : ℕ)
    × IsApplied raw command first old between × AreApplied raws rest between new × (removed ≡ first + rest)

-- ---- what no command does

-- No entry is new or changed, and those that are gone are counted as removed.
pub record OnlyRemoves (old new : UnitValue) : Type 0 where
  pub held : (tag : Tag) (entry : Entry) → finite.get new.caches.entries tag ≡ Some entry → finite.get old.caches.entries tag ≡ Some entry
  pub counted : new.counts.removed + finite.len new.caches.entries ≡ old.counts.removed + finite.len old.caches.entries
