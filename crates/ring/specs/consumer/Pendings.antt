-- Commands that were read from the head on and aren't taken yet.
use Rattle.std.specs.Prelude.{◌≡◌, ◌≤◌, ℕ, suc, List, [], ◌∷◌, length, Some, slice_get}
use Rattle.ring.specs.Runs.{Raw, Half, Lo, Hi, Read, Trail, found_ready, half_read, head_read, half_of}
use Rattle.qindex.specs.Positions.{size}
use Rattle.ring.specs.table.{PortValue}
use Rattle.ring.specs.consumer.Consumers.{ConsumerValue}

-- This command was read at the head, and not taken.
abbrev pub HasSeen : Trail → Raw → Type 0
HasSeen t raw = (half : Half) → head_read half t ≡ Some (half_of half raw)

-- reads of both halves of each command, from this offset on
abbrev pub reads_from : ℕ → List Raw → Trail → Trail
reads_from offset [] t = t
reads_from offset (raw ∷ raws) t = reads_from (suc offset) raws (Read offset Hi raw.hi ∷ Read offset Lo raw.lo ∷ t)

-- These commands were read from the head on.
pub record HasReadRun (t : Trail) (raws : List Raw) : Type 0 where
  pub some : 1 ≤ length raws
  pub ready : length raws ≤ found_ready t
  pub read : (i : ℕ) (raw : Raw) (half : Half) → slice_get raws i ≡ Some raw → half_read i half t ≡ Some (half_of half raw)
  pub seen : (raw : Raw) (rest : List Raw) → raws ≡ raw ∷ rest → HasSeen t raw

-- a run that is pending: its consumer, and its commands
pub record PendingValue (D : Type 0) : Type 0 where
  pub consumer : ConsumerValue D
  pub raws : List Raw

pub record IsPending (consumer : PortValue) (raws : List Raw) : Type 0 where
  pub read : HasReadRun consumer.trail raws
  pub few : length raws ≤ 64
  pub fits : length raws ≤ size consumer.ring.made_with.geometry

-- a command that is pending
pub record OneValue (D : Type 0) : Type 0 where
  pub consumer : ConsumerValue D
  pub raw : Raw

abbrev pub run_of : {D : Type 0} → OneValue D → PendingValue D
run_of p = record { consumer = p.consumer; raws = p.raw ∷ [] }

abbrev pub first_of : List Raw → Raw
first_of [] = record { lo = 0; hi = 0 }
first_of (raw ∷ raws) = raw
