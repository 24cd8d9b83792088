-- The events that a take added, by its answer.
use Rattle.std.specs.Prelude.{◌≡◌, ◌≢◌, ◌≤◌, ℕ, Bool, true, false, List, [], ◌∷◌, length}
use Rattle.ring.specs.Runs.{Raw, Control, Consumer, Look, Test, Trail, head, tail, world, control}
use Rattle.ring.specs.declared.consumer.taken.Taken.{Taken}
use Rattle.ring.specs.declared.consumer.taken.Taken.TheVariants as one
use Rattle.ring.specs.declared.consumer.taken.TakenRun.{TakenRun}
use Rattle.ring.specs.declared.consumer.taken.TakenRun.TheVariants.{Empty, Drained, Unwritten, Ready}
use Rattle.ring.specs.Rings.{RingValue}
use Rattle.progress.specs.Waiting.{IsHeldBy}
use Rattle.ring.specs.table.{Grew}
use Rattle.ring.specs.consumer.Consumers.{ConsumerValue}
use Rattle.ring.specs.consumer.Pendings.{PendingValue, run_of, reads_from}

abbrev pub with_trail : {D : Type 0} → ConsumerValue D → Trail → ConsumerValue D
with_trail d t = record d { trail = t }

-- a look that found nothing reserved: in the run known then, all that is reserved is taken
pub record TookNone {D : Type 0} (closed : Bool) (d e : ConsumerValue D) : Type 0 where
  pub seen : Control
  pub nothing : seen.prod.number ≡ seen.cons.number
  pub closed_is : seen.closed ≡ closed
  pub seen_is : seen ≡ control d.ring.made_with.geometry (world e.history)
  pub all_taken : head (world e.history) ≡ tail (world e.history)
  pub trail_is : record e { history = [] } ≡ with_trail (record d { history = [] }) (Look seen ∷ d.trail)
  pub grew : Grew Consumer d.trail e.trail d.history e.history

-- a look that found something reserved, and a test that found the head not handed over: in the run known
-- then, it isn't flipped, and the open reservation of one sender holds it
pub record TookUnwritten {D : Type 0} (most : ℕ) (d e : ConsumerValue D) : Type 0 where
  pub seen : Control
  pub something : seen.prod.number ≢ seen.cons.number
  pub unturned : (world e.history).flipped (head (world e.history)) ≡ false
  pub holder : ℕ
  pub held : IsHeldBy e.history (head (world e.history)) holder
  pub trail_is : record e { history = [] } ≡ with_trail (record d { history = [] }) (Test most 0 ∷ Look seen ∷ d.trail)
  pub grew : Grew Consumer d.trail e.trail d.history e.history

-- a look that found something reserved, a test that found some ready, and reads of exactly these
pub record TookRun {D : Type 0} (most : ℕ) (d : ConsumerValue D) (p : PendingValue D) : Type 0 where
  pub seen : Control
  pub something : seen.prod.number ≢ seen.cons.number
  pub some : 1 ≤ length p.raws
  pub few : length p.raws ≤ most
  pub trail_is : record p.consumer { history = [] } ≡ with_trail (record d { history = [] }) (reads_from 0 p.raws (Test most (length p.raws) ∷ Look seen ∷ d.trail))
  pub grew : Grew Consumer d.trail p.consumer.trail d.history p.consumer.history

abbrev pub HasTakenRun : {D : Type 0} → ℕ → ConsumerValue D → TakenRun D → Type 0
HasTakenRun most d (Empty e) = TookNone false d e
HasTakenRun most d (Drained e) = TookNone true d e
HasTakenRun most d (Unwritten e) = TookUnwritten most d e
HasTakenRun most d (Ready p) = TookRun most d p

-- There is a run at the head, and it begins with this command.
abbrev pub BeginsWith : {D : Type 0} → Raw → TakenRun D → Type 0
BeginsWith raw (Ready p) = (rest : List Raw) × (p.raws ≡ raw ∷ rest)
BeginsWith raw other = ⊥

-- the same for a run of at most one command
abbrev pub HasTaken : {D : Type 0} → ConsumerValue D → Taken D → Type 0
HasTaken d (one.Empty e) = TookNone false d e
HasTaken d (one.Drained e) = TookNone true d e
HasTaken d (one.Unwritten e) = TookUnwritten 1 d e
HasTaken d (one.Ready p) = TookRun 1 d (run_of p)

-- There is a command at the head, and it is this one.
abbrev pub IsReadyWith : {D : Type 0} → Raw → Taken D → Type 0
IsReadyWith raw (one.Ready p) = p.raw ≡ raw
IsReadyWith raw other = ⊥

-- ---- what stays

abbrev pub IsOfRing : {D : Type 0} → RingValue → Taken D → Type 0
IsOfRing ring (one.Empty e) = e.ring ≡ ring
IsOfRing ring (one.Drained e) = e.ring ≡ ring
IsOfRing ring (one.Unwritten e) = e.ring ≡ ring
IsOfRing ring (one.Ready p) = p.consumer.ring ≡ ring

abbrev pub RunIsOfRing : {D : Type 0} → RingValue → TakenRun D → Type 0
RunIsOfRing ring (Empty e) = e.ring ≡ ring
RunIsOfRing ring (Drained e) = e.ring ≡ ring
RunIsOfRing ring (Unwritten e) = e.ring ≡ ring
RunIsOfRing ring (Ready p) = p.consumer.ring ≡ ring
