-- The object that a handle lends.
use Rattle.std.specs.Prelude.{◌≡◌, Option, None, Some, MatchOption}
use Rattle.std.specs.Borrow.{LendsIf, MutBor, Fml}
use Rattle.smmuq_c.specs.declared.handle.Handle.{Handle}
use Rattle.smmuq_c.specs.declared.object.Object.{Object}
use Rattle.smmuq_c.specs.contracts.handle.Handle.{the_row}
use Rattle.smmuq_c.specs.contracts.object.Object.{the_row as object_row}

-- the object is lent, if the handle holds one
abbrev pub IsLent : Option Object → Option (MutBor Object) → Type 0
IsLent held lent = MatchOption lent (held ≡ None) (λ r. held ≡ Some r.now)

-- the handle ends with the last object behind r, or as it was if none was lent
abbrev pub LendsObject : MutBor Handle → Option (MutBor Object) → Fml
LendsObject h r = LendsIf the_row object_row h r (λ w. record h.now { object = Some w }) h.now
