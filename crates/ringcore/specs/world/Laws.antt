-- The laws of every run, of any length, in a ring of any size.
use Rattle.std.specs.Prelude.{◌≡◌, ◌↔◌, ℕ, suc, ◌+◌, ◌*◌, ◌/◌, ◌^◌, ◌<◌, ◌≤◌, Bool, true, cond, ◌==◌, ◌&&◌, List, [], ◌∷◌, ◌++◌, map, length, Some, slice_get, ⊤}
use Rattle.cmdcodec.specs.declared.raw.Raw.{Raw}
use Rattle.cmdcodec.specs.Opcodes.{is_sync}
use Rattle.cmdcodec.specs.ClosingSync.{cell_address}
use Rattle.qindex.specs.Positions.{size}
use Rattle.ringcore.specs.Limits.{most_senders, most_reserved}
use Rattle.ringcore.specs.declared.world.event.Who.{Who}
use Rattle.ringcore.specs.declared.world.event.Who.TheVariants.{Consumer, Sender}
use Rattle.ringcore.specs.declared.world.event.Event.TheVariants.{Won, Advance, Ask}
use Rattle.ringcore.specs.declared.world.event.Outcome.TheVariants.{Applied}
use Rattle.ringcore.specs.world.Trails.{Trail, Run, trail_of}
use Rattle.ringcore.specs.world.World.{commands, Item, World, items, tail, head, world, sync_raw}
use Rattle.ringcore.specs.world.Allowed.{Ring, SyncIsTaken, IsRun}
use Rattle.ringcore.specs.world.Delivery.{Batch, batches, joined, advanced, has_close, IsCompleted}

abbrev pub EveryRun : (Run → Type 0) → Type 0
EveryRun P = (ring : Ring) (run : Run) → IsRun ring run → P run

-- The ring is never more than full: H ≤ T ≤ H + N.
pub record IsWithin (ring : Ring) (w : World) : Type 0 where
  pub behind : head w ≤ tail w
  pub within : tail w ≤ head w + size ring.geometry

abbrev pub NeverMoreThanFull : Type 0
NeverMoreThanFull = (ring : Ring) (run : Run) → IsRun ring run → IsWithin ring (world run)

-- The sync of each number up to the one in a sender's completion cell is below the head.
abbrev pub AcknowledgedAreTaken : Run → Type 0
AcknowledgedAreTaken run =
    (s number : ℕ) → 1 ≤ number → number ≤ (world run).acknowledged s → SyncIsTaken (world run) s number

-- A sender's batch with this number was completed in the run, and its closing sync was applied.
pub record IsApplied (run : Run) (s number : ℕ) : Type 0 where
  pub completed : IsCompleted run s number
  pub applied : slice_get (world run).taken (length (joined completed.ahead ++ completed.body))
      ≡ Some record { raw = sync_raw s number; outcome = Applied }

-- This holds for all numbers up to the one in a sender's completion cell.
abbrev pub AcknowledgedAreApplied : Run → Type 0
AcknowledgedAreApplied run = (s number : ℕ) → 1 ≤ number → number ≤ (world run).acknowledged s → IsApplied run s number

-- And if an ask of a sender found a number, this held before for all numbers up to it.
abbrev pub ToldOfAllUpTo : Run → Type 0
ToldOfAllUpTo run =
    (later earlier : Run) (s told number : ℕ) → run ≡ later ++ (Sender s, Ask told) ∷ earlier → 1 ≤ number → number ≤ told → IsApplied earlier s number

-- ---- batches, as a driver's author knows them

-- What is reserved is the commands of the batches, one batch after another, and there are as many.
abbrev pub CommandsOfBatches : Run → Type 0
CommandsOfBatches run = map (λ (item : Item). item.raw) (world run).reserved ≡ joined (batches run)

abbrev pub AllOfBatches : Run → Type 0
AllOfBatches run = tail (world run) ≡ length (joined (batches run))

-- The ring is closed once a close was taken, and not before.
abbrev pub ClosedByAClose : Run → Type 0
ClosedByAClose run = (world run).closed ≡ has_close run

-- The commands of this batch are at the positions from here on.
abbrev pub StandsAt : World → ℕ → Batch → Type 0
StandsAt w start b =
    (place : ℕ) (item : Item) → slice_get (items b.sender b.number b.body) place ≡ Some item → slice_get w.reserved (start + place) ≡ Some item

-- Each batch is in one piece, with no other sender's command between, after all that was reserved before it.
abbrev pub BatchesAreUnbroken : Run → Type 0
BatchesAreUnbroken run =
    (ahead behind : List Batch) (b : Batch) → batches run ≡ ahead ++ b ∷ behind → StandsAt (world run) (length (joined ahead)) b

-- the batches of one sender
abbrev pub batches_of : ℕ → List Batch → List Batch
batches_of s [] = []
batches_of s (b ∷ bs) = cond (s == b.sender) (b ∷ batches_of s bs) (batches_of s bs)

-- the batches in a sender's own trail, in order
abbrev pub own_batches : ℕ → Trail → List Batch
own_batches s [] = []
own_batches s (Won body number ∷ es) = own_batches s es ++ record { sender = s; number = number; body = body } ∷ []
own_batches s (e ∷ es) = own_batches s es

-- Each sender's batches are in the order in which it reserved them.
abbrev pub SendersOrderIsKept : Run → Type 0
SendersOrderIsKept run = (s : ℕ) → batches_of s (batches run) ≡ own_batches s (trail_of (Sender s) run)

-- Of two batches, the first is before the second.
pub record StandInOrder (w : World) (one two : Batch) : Type 0 where
  pub first : ℕ
  pub second : ℕ
  pub first_is : StandsAt w first one
  pub second_is : StandsAt w second two
  pub order : first + length (commands one.sender one.number one.body) ≤ second

abbrev pub EarlierStandsBefore : Run → Type 0
EarlierStandsBefore run =
    (s : ℕ) (before between after : List Batch) (one two : Batch)
    → own_batches s (trail_of (Sender s) run) ≡ before ++ one ∷ (between ++ two ∷ after)
    → StandInOrder (world run) one two

-- ---- what seats may know

-- Only the consumer and the senders below this number take steps.
abbrev pub IsOne : ℕ → Who → Type 0
IsOne senders Consumer = ⊤
IsOne senders (Sender s) = s < senders

abbrev pub OnlyOf : ℕ → Run → Type 0
OnlyOf senders [] = ⊤
OnlyOf senders (x ∷ xs) = IsOne senders x.0 × OnlyOf senders xs

-- Each batch belongs to one of the senders.
abbrev pub BatchesHaveOwners : Type 0
BatchesHaveOwners = (senders : ℕ) (run : Run) → OnlyOf senders run → (i : ℕ) (b : Batch) → slice_get (batches run) i ≡ Some b → b.sender < senders

-- At most 64 commands are reserved for each batch that each sender may make.
abbrev pub FewAreReserved : Type 0
FewAreReserved =
    (ring : Ring) (senders : ℕ) (run : Run) → OnlyOf senders run → IsRun ring run → tail (world run) ≤ 64 * (senders * ring.max_batches)

-- No list of a run is longer than most_reserved, if the ring has at most most_senders, each of which makes
-- fewer than 2^32 batches.
pub record AreShort (run : Run) : Type 0 where
  pub reserved : tail (world run) ≤ most_reserved
  pub taken : head (world run) ≤ most_reserved
  pub joined : length (joined (batches run)) ≤ most_reserved
  pub advanced : length (advanced run) ≤ most_reserved
  pub batches : length (batches run) ≤ most_reserved

abbrev pub ListsAreShort : Type 0
ListsAreShort =
    (ring : Ring) (run : Run) → ring.senders ≤ most_senders → ring.max_batches < 2 ^ 32 → OnlyOf ring.senders run → IsRun ring run → AreShort run

-- whether a command is a closing sync of this sender: a CMD_SYNC that writes to its completion cell
abbrev pub is_sync_to : ℕ → Raw → Bool
is_sync_to s raw = is_sync raw && raw.hi == cell_address s

abbrev pub syncs_in : ℕ → List Raw → ℕ
syncs_in s [] = 0
syncs_in s (raw ∷ raws) = cond (is_sync_to s raw) (suc (syncs_in s raws)) (syncs_in s raws)

-- The words of a closing sync tell its number and its sender.
pub record TellsItsBatch (s number : ℕ) : Type 0 where
  pub opcode : is_sync (sync_raw s number) ≡ true
  pub cell : (sync_raw s number).hi ≡ cell_address s
  pub number_is : (sync_raw s number).lo / 2 ^ 32 ≡ number
  pub sender_is : (other : ℕ) → is_sync_to other (sync_raw s number) ≡ (other == s)

abbrev pub SyncsTellTheirBatch : Type 0
SyncsTellTheirBatch = (s number : ℕ) → TellsItsBatch s number

-- how many closing syncs of a sender were taken, by the consumer's trail
abbrev pub syncs_taken : ℕ → Trail → ℕ
syncs_taken s [] = 0
syncs_taken s (Advance raws ∷ es) = syncs_taken s es + syncs_in s raws
syncs_taken s (e ∷ es) = syncs_taken s es

-- Two lists joined have as many closing syncs as both together.
abbrev pub SyncsAddUp : Type 0
SyncsAddUp = (s : ℕ) (xs ys : List Raw) → syncs_in s (xs ++ ys) ≡ syncs_in s xs + syncs_in s ys

-- The consumer's own trail tells which closing syncs are taken: those with numbers up to the count that it
-- took.
abbrev pub SyncsAreCounted : Run → Type 0
SyncsAreCounted run =
    (s number : ℕ) → SyncIsTaken (world run) s number ↔ ((1 ≤ number) × (number ≤ syncs_taken s (trail_of Consumer run)))

-- The number of a closing sync that is taken is at most the number of batches that a sender may make.
abbrev pub NumbersAreFew : Type 0
NumbersAreFew =
    (ring : Ring) (run : Run) → IsRun ring run → (s number : ℕ) → SyncIsTaken (world run) s number → number ≤ ring.max_batches

-- A closing sync belongs to one of the senders, and its number is one more than the count of its sender's
-- syncs before it.
pub record IsNextSync (senders : ℕ) (ahead : List Raw) (raw : Raw) : Type 0 where
  pub sender : ℕ
  pub number : ℕ
  pub known : sender < senders
  pub raw_is : raw ≡ sync_raw sender number
  pub next : number ≡ suc (syncs_in sender ahead)

-- The closing syncs among some commands come in the order of their numbers.
abbrev pub SyncsAreInOrder : ℕ → List Raw → Type 0
SyncsAreInOrder senders raws =
    (ahead behind : List Raw) (raw : Raw) → raws ≡ ahead ++ raw ∷ behind → is_sync raw ≡ true → IsNextSync senders ahead raw

-- So do those among the commands taken.
abbrev pub SyncsComeInOrder : Type 0
SyncsComeInOrder = (ring : Ring) (senders : ℕ) (run : Run) → OnlyOf senders run → IsRun ring run → SyncsAreInOrder senders (advanced run)
