-- What a take of a kept run may not say, and which CMD_SYNCs no sender closes a batch with.
use Rattle.std.proofs.Common.{◌≡◌, ℕ, Bool, true, false, List, [], ◌∷◌, None, refl, sym, ap, ◌∙◌, arith}
use Rattle.std.proofs.lemmas.Option.{same_Some}
use Rattle.cmdcodec.specs.declared.raw.Raw.{Raw}
use Rattle.cmdcodec.specs.ClosingSync.{cell_address}
use Rattle.qindex.specs.declared.control.Control.{Control}
use Rattle.ringcore.specs.declared.world.event.Who.TheVariants.{Sender}
use Rattle.ringcore.specs.declared.world.event.Event.TheVariants.{Look, Won}
use Rattle.ringcore.specs.world.Trails.{Trail, Run, looked}
use Rattle.ringcore.specs.world.World.{Item}
use Rattle.ring.specs.declared.consumer.taken.Found.TheVariants.{Empty, Drained, Unwritten, Ready}
use Rattle.ring.specs.consumer.Consumers.{ConsumerValue}
use Rattle.ring.specs.consumer.Pendings.{PendingValue}
use Rattle.ring.specs.consumer.Completing.{IsClosingSync, AreClosingSyncs}
use Rattle.ring.specs.consumer.Taking.{TookUnwritten}
use Rattle.ring.specs.consumer.PendingConsumers.{HasFoundRun, with_none}
use Rattle.ring_tests.proofs.WorkedCases.{x, shows}

-- ---- a take of a kept run

-- with these commands pending
abbrev pending : {D : Type 0} → ConsumerValue D → List Raw → PendingValue D
pending consumer raws = record { consumer = consumer; raws = raws }

nothing_is_none : (raw : Raw) (raws : List Raw) → ¬ (raw ∷ raws ≡ [])
nothing_is_none raw raws is = absurd (cc)

-- Where nothing was found, nothing is pending.
pub pending_is_not_empty : {D : Type 0} (old new : ConsumerValue D) → ¬ HasFoundRun 1 (with_none old) (pending new (x ∷ [])) Empty
pending_is_not_empty old new it = nothing_is_none x [] it.1

pub pending_is_not_drained : {D : Type 0} (old new : ConsumerValue D) → ¬ HasFoundRun 1 (with_none old) (pending new (x ∷ [])) Drained
pending_is_not_drained old new it = nothing_is_none x [] it.1

pub pending_is_not_unwritten : {D : Type 0} (old new : ConsumerValue D) → ¬ HasFoundRun 1 (with_none old) (pending new (x ∷ [])) Unwritten
pending_is_not_unwritten old new it = nothing_is_none x [] it.1

-- a run in which sender 3 reserved a command
abbrev of_three : Run
of_three = (Sender 3, Won (x ∷ []) None) ∷ []

-- Who is waited for reserved the command at the head.
pub waited_for_who_reserved : {D : Type 0} (d e : ConsumerValue D) (t : TookUnwritten 1 d (record e { history = of_three })) → t.holder ≡ 3
waited_for_who_reserved d e t =
    let it : Item = record { sender = 3; number = None; place = 0; raw = x } in
    sym (ap (λ (i : Item). i.sender) (same_Some it t.held.item t.held.there) ∙ t.held.sender_is)

-- Of at most one command two aren't found.
pub two_are_not_one : {D : Type 0} (old new : ConsumerValue D) → ¬ HasFoundRun 1 (with_none old) (pending new (x ∷ x ∷ [])) Ready
two_are_not_one old new it = absurd (omega (arith, it.few))

-- an empty ring of two slots, open or closed, at which the consumer looked
abbrev looked_at : {D : Type 0} → Bool → ConsumerValue D → PendingValue D
looked_at closed old = with_none (record old { trail = Look (shows 1 0 0 closed) ∷ old.trail })

the_seen : {D : Type 0} (seen found : Control) (old : ConsumerValue D) (more : Trail)
    → record (record old { trail = Look found ∷ old.trail }) { history = [] } ≡ record (record old { history = [] }) { trail = Look seen ∷ more }
    → found ≡ seen
the_seen {D} seen found old more is = same_Some found seen (ap (λ (c : ConsumerValue D). looked c.trail) is)

pub open_is_not_drained : {D : Type 0} (old : ConsumerValue D) → ¬ HasFoundRun 1 (with_none old) (looked_at false old) Drained
open_is_not_drained old it =
    let seen = the_seen it.0.seen (shows 1 0 0 false) old old.trail it.0.trail_is in
    let is_open : false ≡ it.0.seen.closed = ap (λ (c : Control). c.closed) seen in
    absurd (let closed : it.0.seen.closed ≡ true = it.0.closed_is in cc)

pub closed_is_not_empty : {D : Type 0} (old : ConsumerValue D) → ¬ HasFoundRun 1 (with_none old) (looked_at true old) Empty
closed_is_not_empty old it =
    let seen = the_seen it.0.seen (shows 1 0 0 true) old old.trail it.0.trail_is in
    let closed : true ≡ it.0.seen.closed = ap (λ (c : Control). c.closed) seen in
    absurd (let is_open : it.0.seen.closed ≡ false = it.0.closed_is in cc)

-- ---- the CMD_SYNCs that close a batch

-- a CMD_SYNC that writes to this address
abbrev sync_to : ℕ → Raw
sync_to address = record { lo = 0x46; hi = address }

-- A CMD_SYNC that writes elsewhere is no sender's.
pub elsewhere_is_not_closing : ¬ AreClosingSyncs (sync_to 8 ∷ [])
elsewhere_is_not_closing all =
    let its : IsClosingSync (sync_to 8) = all 0 (sync_to 8) refl refl in
    absurd (omega (arith, its.address))

-- No ring has a sender of this number.
pub nobody_is_not_closing : ¬ AreClosingSyncs (sync_to (cell_address 256) ∷ [])
nobody_is_not_closing all =
    let its : IsClosingSync (sync_to (cell_address 256)) = all 0 (sync_to (cell_address 256)) refl refl in
    absurd (omega (arith, its.address, its.few))

-- It is said of each, not of the first.
pub second_is_not_closing : ¬ AreClosingSyncs (sync_to (cell_address 0) ∷ sync_to 8 ∷ [])
second_is_not_closing all =
    let its : IsClosingSync (sync_to 8) = all 1 (sync_to 8) refl refl in
    absurd (omega (arith, its.address))
