-- The tokens of accesses that aren't over.
use Rattle.std.specs.Prelude.{ℕ, List, [], ◌∷◌, None, slice_set, ⊤}
use Rattle.transactions.specs.Outstanding.{Slots}
use Rattle.transactions.specs.Tracking.{TrackedValue}
use Rattle.transactions.specs.Transactions.{IsOutstandingIn, IsOwn}
use Rattle.trace.specs.declared.access.OpenAccess.{OpenAccess}

-- Each is outstanding, in a slot of its own.
abbrev pub AreIn : Slots → List OpenAccess → Type 0
AreIn slots [] = ⊤
AreIn slots (access ∷ accesses) =
    IsOutstandingIn slots access.transaction
    × AreIn (slice_set slots access.transaction.slot None) accesses

-- Each is of the unit whose next transaction has this number.
abbrev pub AreOwn : ℕ → List OpenAccess → Type 0
AreOwn next [] = ⊤
AreOwn next (access ∷ accesses) = IsOwn next access.transaction × AreOwn next accesses

-- They are the unit's.
pub record AreOf (unit : TrackedValue) (accesses : List OpenAccess) : Type 0 where
  pub outstanding : AreIn unit.outstanding accesses
  pub own : AreOwn unit.next_number accesses
