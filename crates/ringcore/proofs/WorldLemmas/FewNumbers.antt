-- No closing sync has a higher number than the batches that its sender may make.
use Rattle.std.proofs.Common.{◌≡◌, ℕ, ◌≤◌, Bool, true, false, cond, [], ◌∷◌, Some, None, refl, sym, ap, ◌∙◌, subst, arith}
use Rattle.std.specs.Prelude.{slice_get}
use Rattle.ringcore.specs.declared.world.event.Who.{Who}
use Rattle.ringcore.specs.declared.world.event.Who.TheVariants.{Sender}
use Rattle.ringcore.specs.declared.world.event.Event.{Event}
use Rattle.ringcore.specs.declared.world.event.Event.TheVariants.{Look, Won, Lost, Write, Flip, Test, Read, Advance, Close, Acknowledge, Ask}
use Rattle.ringcore.specs.world.Trails.{Trail, Run, same, trail_of, batches_made, numbers_given}
use Rattle.ringcore.specs.world.World.{Item, World, sync_raw, world}
use Rattle.ringcore.specs.world.Allowed.{Ring, Allowed, IsRun}
use Rattle.ringcore.specs.world.Laws.{NumbersAreFew}
use Rattle.ringcore.proofs.WorldLemmas.LookedControls.{same_is}
use Rattle.ringcore.proofs.WorldLemmas.Syncs.{sync_opcode, syncs_numbered}
use Rattle.ringcore.proofs.WorldLemmas.SyncCounts.{number_there, in_counted}

-- ---- numbers are of batches

numbers_within_batches : (es : Trail) → numbers_given es ≤ batches_made es
numbers_within_batches [] = omega arith
numbers_within_batches (Look found ∷ es) = numbers_within_batches es
numbers_within_batches (Won body None ∷ es) = let le = numbers_within_batches es in omega (arith, le)
numbers_within_batches (Won body (Some number) ∷ es) = let le = numbers_within_batches es in omega (arith, le)
numbers_within_batches (Lost body closes found ∷ es) = numbers_within_batches es
numbers_within_batches (Write offset half ∷ es) = numbers_within_batches es
numbers_within_batches (Flip offset count ∷ es) = numbers_within_batches es
numbers_within_batches (Test limit found ∷ es) = numbers_within_batches es
numbers_within_batches (Read offset half word ∷ es) = numbers_within_batches es
numbers_within_batches (Advance raws ∷ es) = numbers_within_batches es
numbers_within_batches (Close ∷ es) = numbers_within_batches es
numbers_within_batches (Acknowledge sender number ∷ es) = numbers_within_batches es
numbers_within_batches (Ask found ∷ es) = numbers_within_batches es

-- ---- of which a sender makes no more than it may

one_more : (ring : Ring) (w : World) (mine : Trail) (s : ℕ) (e : Event) → Allowed ring w mine (Sender s) e → batches_made mine ≤ ring.max_batches
    → batches_made (e ∷ mine) ≤ ring.max_batches
one_more ring w mine s (Look found) a le = le
one_more ring w mine s (Won body number) a le = let left = a.left in omega (arith, left)
one_more ring w mine s (Lost body closes found) a le = le
one_more ring w mine s (Write offset half) a le = le
one_more ring w mine s (Flip offset count) a le = le
one_more ring w mine s (Test limit found) a le = le
one_more ring w mine s (Read offset half word) a le = le
one_more ring w mine s (Advance raws) a le = le
one_more ring w mine s Close a le = le
one_more ring w mine s (Acknowledge sender number) a le = le
one_more ring w mine s (Ask found) a le = le

made : (ring : Ring) (run : Run) → IsRun ring run → (s : ℕ) → batches_made (trail_of (Sender s) run) ≤ ring.max_batches
made ring [] ok s = omega arith
made ring (x ∷ xs) ok s = by_seat (made ring xs ok.0 s) x.0 x.1 ok.1 (same (Sender s) x.0) refl
  where
    by_seat : batches_made (trail_of (Sender s) xs) ≤ ring.max_batches → (who : Who) (e : Event) → Allowed ring (world xs) (trail_of who xs) who e
        → (v : Bool) → same (Sender s) who ≡ v → batches_made (cond v (e ∷ trail_of (Sender s) xs) (trail_of (Sender s) xs)) ≤ ring.max_batches
    by_seat le who e a true is =
        let one : who ≡ Sender s = sym (same_is (Sender s) who is) in
        one_more ring (world xs) (trail_of (Sender s) xs) s e (subst (λ (u : Who). Allowed ring (world xs) (trail_of u xs) u e) one a) le
    by_seat le who e a false is = le

pub numbers_few : NumbersAreFew
numbers_few ring run ok s number taken =
    let item : Item = record { sender = s; number = Some number; place = taken.place; raw = sync_raw s number } in
    let its = number_there s number (world run).reserved taken.position item taken.there refl refl (sync_opcode s number) in
    let given = numbers_given (trail_of (Sender s) run) in
    let one = in_counted 1 given its.0 number (ap (λ l. slice_get l its.0) (sym (syncs_numbered ring run ok s)) ∙ its.1) in
    let number_is = one.0 in
    let below = one.1 in
    let le = numbers_within_batches (trail_of (Sender s) run) in
    let most = made ring run ok s in
    omega (arith, number_is, below, le, most)
