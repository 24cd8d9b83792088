-- What is known once all seats are joined.
use Rattle.std.specs.Prelude.{◌≡◌, ℕ, ◌+◌, ◌*◌, ◌<◌, ◌≤◌, Bool, true, List, [], ◌∷◌, ◌++◌, map, length, Some, slice_get}
use Rattle.ring.specs.Runs.{Raw, sync_raw, Consumer, Sender, Ask, Run, Trail, trail_of, raws_by, world, Ring, IsRun, Batch, batches, joined, has_close, Begins, IsOrderedDelivery, OnlyOf, batches_of, own_batches}
use Rattle.ring.specs.Runs.{IsApplied, SawDrained}
use Rattle.progress.specs.Contention.{all_losses}
use Rattle.ring.specs.table.{Participant, participant, WentOn}
use Rattle.ring.specs.Rings.{RingValue}
use Rattle.ring.specs.sender.{SenderValue}
use Rattle.ring.specs.consumer.{ConsumerValue, taken_of, DeferringValue, settled_raws}

pub record SummaryValue : Type 0 where
  pub reserved : ℕ
  pub taken : ℕ
  pub closed : Bool

-- all of the ring's senders, in the order of their numbers
pub record AreAll (ring : RingValue) (all : List SenderValue) : Type 0 where
  pub many : length all ≡ ring.made_with.senders
  pub each : (k : ℕ) (s : SenderValue) → slice_get all k ≡ Some s → (s.ring ≡ ring) × (s.number ≡ k)

-- the participants of the joined seat, with the run as each of them knew it
abbrev pub sender_in : SenderValue → Participant
sender_in s = participant s.ring.made_with (Sender s.number) s.trail s.history

abbrev pub all_in : Ring → Trail → Run → List SenderValue → List Participant
all_in ring trail history all = map sender_in all ++ participant ring Consumer trail history ∷ []

-- One run has the trails of all seats, and no other steps. What each participant knew at its newest step is
-- an older part of it, after which that participant took no step.
pub record IsRunOf {D : Type 0} (ring : RingValue) (senders : List SenderValue) (consumer : ConsumerValue D) (run : Run) : Type 0 where
  pub run_is : IsRun ring.made_with run
  pub only : OnlyOf ring.made_with.senders run
  pub of_senders : (k : ℕ) (s : SenderValue) → slice_get senders k ≡ Some s → trail_of (Sender k) run ≡ s.trail
  pub of_consumer : trail_of Consumer run ≡ consumer.trail
  pub known_to_senders : (k : ℕ) (s : SenderValue) → slice_get senders k ≡ Some s → WentOn (Sender k) s.history run
  pub known_to_consumer : WentOn Consumer consumer.history run

-- The batches are a merge of the senders': those of each sender in its order, and nobody else's.
pub record IsMerge (senders : List SenderValue) (all : List Batch) : Type 0 where
  pub each : (k : ℕ) (s : SenderValue) → slice_get senders k ≡ Some s → batches_of k all ≡ own_batches k s.trail
  pub only : (i : ℕ) (b : Batch) → slice_get all i ≡ Some b → b.sender < length senders

-- An ask of the sender found this number. The ask is in the run, and before it the closing syncs of all its
-- numbers up to this one, and all that was reserved before them, were taken and applied.
pub record WasTold (run : Run) (s told : ℕ) (older : Trail) : Type 0 where
  pub later : Run
  pub earlier : Run
  pub run_is : run ≡ later ++ (Sender s, Ask told) ∷ earlier
  pub trail_is : trail_of (Sender s) earlier ≡ older
  pub applied : (number : ℕ) → 1 ≤ number → number ≤ told → IsApplied earlier s number

-- This holds for every number that the sender was told, by its trail.
abbrev pub WasToldAll : Run → ℕ → Trail → Type 0
WasToldAll run s trail = (newer older : Trail) (number : ℕ) → trail ≡ newer ++ Ask number ∷ older → WasTold run s number older

-- ---- what a sender was told, by a consumer that acknowledges later

-- what was reserved before a closing sync that was applied
abbrev pub reserved_ahead : {run : Run} {s number : ℕ} → IsApplied run s number → List Raw
reserved_ahead applied = joined applied.completed.ahead ++ applied.completed.body

-- The sender was told this number. For each of its batches up to that number, all that was reserved before its
-- closing sync is settled, and so is that.
pub record WasToldOfSettled (settled : List Raw) (run : Run) (s told : ℕ) (older : Trail) : Type 0 where
  pub was_told : WasTold run s told older
  pub settled_are : (number : ℕ) (some : 1 ≤ number) (most : number ≤ told)
      → Begins (reserved_ahead (was_told.applied number some most) ++ sync_raw s number ∷ []) settled

-- This holds for every number that the sender was told, by its trail.
abbrev pub AllToldOfSettled : List Raw → Run → ℕ → Trail → Type 0
AllToldOfSettled settled run s trail =
    (newer older : Trail) (number : ℕ) → trail ≡ newer ++ Ask number ∷ older → WasToldOfSettled settled run s number older

-- ---- the end

-- One run has all trails. It is ordered delivery, of batches that are a merge of the senders'. The commands
-- taken are a beginning of the merge, and the whole merge if as many were taken as reserved, which is so if
-- the consumer saw the ring closed and empty. All exchanges that senders lost are paid for by what was reserved
-- and taken.
pub record IsEnd {D : Type 0} (ring : RingValue) (senders : List SenderValue) (consumer : ConsumerValue D) (end : SummaryValue) : Type 0 where
  pub run : Run
  pub run_of : IsRunOf ring senders consumer run
  pub delivery : IsOrderedDelivery run
  pub merge : IsMerge senders (batches run)
  pub taken_in_order : Begins (raws_by consumer.trail) (joined (batches run))
  pub taken_list : (world run).taken ≡ taken_of consumer.trail
  pub told : (k : ℕ) (s : SenderValue) → slice_get senders k ≡ Some s → (newer older : Trail) (number : ℕ) → s.trail ≡ newer ++ Ask number ∷ older → WasTold run k number older
  pub reserved : end.reserved ≡ length (joined (batches run))
  pub taken : end.taken ≡ length (raws_by consumer.trail)
  pub closed : end.closed ≡ has_close run
  pub whole : end.taken ≡ end.reserved → raws_by consumer.trail ≡ joined (batches run)
  pub drained : SawDrained consumer.trail → (end.closed ≡ true) × (end.taken ≡ end.reserved)
  pub lost : all_losses run ≤ length senders * (end.reserved + end.taken + 1)

-- The end of a consumer that acknowledges later: whatever a sender was told in that run is settled.
pub record IsDeferredEnd {D : Type 0} (ring : RingValue) (senders : List SenderValue) (consumer : DeferringValue D) (end : SummaryValue) : Type 0 where
  pub end_is : IsEnd ring senders consumer.consumer end
  pub settled : (k : ℕ) (s : SenderValue) → slice_get senders k ≡ Some s
      → AllToldOfSettled (settled_raws consumer) end_is.run k s.trail
