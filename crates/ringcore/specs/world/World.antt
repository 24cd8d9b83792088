-- The world: what is reserved, written, flipped, taken, acknowledged and closed, by positions, which never
-- wrap. It is a function of the events so far.
use Rattle.std.specs.Prelude.{ℕ, suc, ◌+◌, Bool, true, false, cond, ◌==◌, ◌||◌, ◌&&◌, List, [], ◌∷◌, ◌++◌, length, map, Option, Some, None, is_none, if◌then◌else◌}
use Rattle.cmdcodec.specs.declared.raw.Raw.{Raw}
use Rattle.cmdcodec.specs.ClosingSync.{closing_sync}
use Rattle.cmdcodec.specs.Legality.{first_ill}
use Rattle.cmdcodec.specs.Words.{encoding}
use Rattle.qindex.specs.declared.control.Control.{Control}
use Rattle.qindex.specs.Positions.{index_of}
use Rattle.ringcore.specs.declared.world.event.Who.{Who}
use Rattle.ringcore.specs.declared.world.event.Who.TheVariants.{Sender}
use Rattle.ringcore.specs.declared.world.event.Half.{Half}
use Rattle.ringcore.specs.declared.world.event.Half.TheVariants.{Lo, Hi}
use Rattle.ringcore.specs.declared.world.event.Event.{Event}
use Rattle.ringcore.specs.declared.world.event.Event.TheVariants.{Won, Write, Flip, Advance, Close, Acknowledge}
use Rattle.ringcore.specs.declared.world.event.Outcome.{Outcome}
use Rattle.ringcore.specs.declared.world.event.Outcome.TheVariants.{Applied, Replaced}
use Rattle.ringcore.specs.world.Trails.{Run, same_half, is_among}

-- ---- what is reserved

-- A reserved command: its sender, its batch's number (none without a closing sync), its place in the batch,
-- and its words.
pub record Item : Type 0 where
  pub sender : ℕ
  pub number : Option ℕ
  pub place : ℕ
  pub raw : Raw

-- the words of the CMD_SYNC that ends a sender's batch with this number
abbrev pub sync_raw : ℕ → ℕ → Raw
sync_raw sender number = encoding (closing_sync sender number)

-- the commands of a batch: its body, and the closing sync if it has a number
abbrev pub commands : ℕ → Option ℕ → List Raw → List Raw
commands sender None body = body
commands sender (Some number) body = body ++ sync_raw sender number ∷ []

-- the commands of a batch from this place on, as items
abbrev pub items_from : ℕ → ℕ → Option ℕ → List Raw → List Item
items_from place sender number [] = []
items_from place sender number (raw ∷ raws) =
    record { sender = sender; number = number; place = place; raw = raw } ∷ items_from (suc place) sender number raws

-- a whole batch
abbrev pub items : ℕ → Option ℕ → List Raw → List Item
items sender number body = items_from 0 sender number (commands sender number body)

-- ---- what is taken

-- A legal command is taken as applied, an illegal one as replaced, without effect.
abbrev pub outcome_of : Raw → Outcome
outcome_of raw = if is_none (first_ill raw) then Applied else Replaced

pub record Taken : Type 0 where
  pub raw : Raw
  pub outcome : Outcome

abbrev pub taken_as : Raw → Taken
taken_as raw = record { raw = raw; outcome = outcome_of raw }

-- ---- the world

-- Everything that holds after the events so far, by positions.
pub record World : Type 0 where
  pub reserved : List Item
  pub taken : List Taken
  pub written : ℕ → Half → Bool
  pub flipped : ℕ → Bool
  -- the position at which each sender's last reservation starts
  pub start : ℕ → ℕ
  -- the number in each sender's completion cell
  pub acknowledged : ℕ → ℕ
  pub closed : Bool

-- before the first event
abbrev pub opening : World
opening = record {
  reserved = [];
  taken = [];
  written = λ position half. false;
  flipped = λ position. false;
  start = λ sender. 0;
  acknowledged = λ sender. 0;
  closed = false;
}

-- The position of the tail, where the next command goes, and of the head, which is taken next. SMMU_CMDQ_PROD
-- and SMMU_CMDQ_CONS hold their indexes (circular queues).
abbrev pub tail : World → ℕ
tail w = length w.reserved

abbrev pub head : World → ℕ
head w = length w.taken

-- f, except that it is x at `at`
abbrev pub with_at : ℕ → ℕ → (ℕ → ℕ) → ℕ → ℕ
with_at at x f n = cond (n == at) x (f n)

-- The world after an event. Everything not mentioned stays.
abbrev pub after : World → Who → Event → World
after w (Sender s) (Won body number) = record w { reserved = w.reserved ++ items s number body; start = with_at s (tail w) w.start }
after w (Sender s) (Write offset half) =
    record w { written = λ p h. (p == w.start s + offset && same_half h half) || w.written p h }
after w (Sender s) (Flip offset count) = record w { flipped = λ p. is_among (w.start s + offset) count p || w.flipped p }
after w who (Advance raws) = record w { taken = w.taken ++ map taken_as raws }
after w who Close = record w { closed = true }
after w who (Acknowledge sender number) = record w { acknowledged = with_at sender number w.acknowledged }
after w who e = w

abbrev pub world : Run → World
world [] = opening
world (x ∷ xs) = after (world xs) x.0 x.1

-- what a look finds
abbrev pub control : ℕ → World → Control
control geometry w = record { prod = index_of geometry (tail w); cons = index_of geometry (head w); closed = w.closed }

abbrev pub half_of : Half → Raw → ℕ
half_of Lo raw = raw.lo
half_of Hi raw = raw.hi
