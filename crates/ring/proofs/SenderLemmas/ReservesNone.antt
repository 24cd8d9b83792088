-- Writes and flips reserve no batch, and leave the last one where it is.
use Rattle.std.proofs.Common.{◌≡◌, ℕ, zero, suc, ◌++◌, refl}
use Rattle.ring.specs.Runs.{Trail, reserved_length, start_index}
use Rattle.ring.specs.sender.{writes_from, flips_from, ReservesNone}

pub record StaysReserved (old new : Trail) : Type 0 where
  pub start : (g : ℕ) → start_index g new ≡ start_index g old
  pub length : reserved_length new ≡ reserved_length old
  pub none : ReservesNone old new

stays : (t : Trail) → StaysReserved t t
stays t = record { start = λ g. refl; length = refl; none = record { batches = λ s. refl; numbers = refl } }

pub after_writes : (slot k : ℕ) (t : Trail) → StaysReserved t (writes_from slot k ++ t)
after_writes slot zero t = stays t
after_writes slot (suc k) t = let b = after_writes slot k t in record { start = b.start; length = b.length; none = record { batches = b.none.batches; numbers = b.none.numbers } }

pub after_flips : (slot k : ℕ) (t u : Trail) → StaysReserved t u → StaysReserved t (flips_from slot k ++ u)
after_flips slot zero t u b = b
after_flips slot (suc k) t u b = record { start = b.start; length = b.length; none = record { batches = b.none.batches; numbers = b.none.numbers } }
