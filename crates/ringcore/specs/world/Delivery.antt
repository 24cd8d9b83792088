-- Ordered delivery: a fact about a list of events only, without the world.
use Rattle.std.specs.Prelude.{◌≡◌, ℕ, zero, suc, ◌≤◌, Bool, true, false, cond, ◌==◌, List, [], ◌∷◌, ◌++◌, length, Option, Some, None, slice_get}
use Rattle.cmdcodec.specs.declared.raw.Raw.{Raw}
use Rattle.ringcore.specs.declared.world.event.Who.TheVariants.{Sender}
use Rattle.ringcore.specs.declared.world.event.Event.TheVariants.{Won, Advance, Close, Ask}
use Rattle.ringcore.specs.world.Trails.{Run}
use Rattle.ringcore.specs.world.World.{sync_raw, commands}

-- ---- what the events say

-- a batch as it was reserved
pub record Batch : Type 0 where
  pub sender : ℕ
  pub number : Option ℕ
  pub body : List Raw

-- the batches in the order of their won reserves
abbrev pub batches : Run → List Batch
batches [] = []
batches ((Sender s, Won body number) ∷ xs) = batches xs ++ record { sender = s; number = number; body = body } ∷ []
batches (x ∷ xs) = batches xs

-- the commands of batches, one batch after another
abbrev pub joined : List Batch → List Raw
joined [] = []
joined (b ∷ bs) = commands b.sender b.number b.body ++ joined bs

-- the commands of the advances, in order
abbrev pub advanced : Run → List Raw
advanced [] = []
advanced ((who, Advance raws) ∷ xs) = advanced xs ++ raws
advanced (x ∷ xs) = advanced xs

-- the numbers of a sender's batches that have one, in order
abbrev pub number_of : Option ℕ → List ℕ → List ℕ
number_of None later = later
number_of (Some number) later = number ∷ later

abbrev pub numbers : ℕ → List Batch → List ℕ
numbers s [] = []
numbers s (b ∷ bs) = cond (s == b.sender) (number_of b.number (numbers s bs)) (numbers s bs)

-- this many consecutive numbers, starting with the first
abbrev pub counted : ℕ → ℕ → List ℕ
counted first zero = []
counted first (suc many) = first ∷ counted (suc first) many

abbrev pub has_close : Run → Bool
has_close [] = false
has_close ((who, Close) ∷ xs) = true
has_close (x ∷ xs) = has_close xs

abbrev pub Begins : {A : Type 0} → List A → List A → Type 0
Begins {A} xs ys = (rest : List A) × (ys ≡ xs ++ rest)

-- ---- ordered delivery

-- The commands taken are a beginning of the joined batches in the order of their reservation.
abbrev pub TakenInOrder : Run → Type 0
TakenInOrder run = Begins (advanced run) (joined (batches run))

-- Each sender's batches that have a number are numbered 1, 2, 3 and so on.
abbrev pub NumberedInOrder : Run → Type 0
NumberedInOrder run = (s : ℕ) → numbers s (batches run) ≡ counted 1 (length (numbers s (batches run)))

-- No batch was reserved after a close.
abbrev pub NoneAfterClose : Run → Type 0
NoneAfterClose run =
    (later earlier : Run) (s : ℕ) (body : List Raw) (number : Option ℕ) → run ≡ later ++ (Sender s, Won body number) ∷ earlier → has_close earlier ≡ false

-- By the end of these events a sender's batch with this number was reserved, its closing sync was taken, and
-- so was all that was reserved before that sync.
pub record IsCompleted (run : Run) (s number : ℕ) : Type 0 where
  pub ahead : List Batch
  pub body : List Raw
  pub behind : List Batch
  pub reserved : batches run ≡ ahead ++ record { sender = s; number = Some number; body = body } ∷ behind
  pub sync : slice_get (advanced run) (length (joined ahead ++ body)) ≡ Some (sync_raw s number)
  pub all_ahead : Begins (joined ahead ++ body) (advanced run)

-- If an ask of a sender found a number, its batch with that number was completed before.
abbrev pub ToldWhenCompleted : Run → Type 0
ToldWhenCompleted run =
    (later earlier : Run) (s number : ℕ) → run ≡ later ++ (Sender s, Ask number) ∷ earlier → 1 ≤ number → IsCompleted earlier s number

-- all of these
pub record IsOrderedDelivery (run : Run) : Type 0 where
  pub taken : TakenInOrder run
  pub numbered : NumberedInOrder run
  pub closed : NoneAfterClose run
  pub told : ToldWhenCompleted run
