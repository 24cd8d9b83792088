-- The syncs whose numbers are in the completion cells are taken.
use Rattle.std.proofs.Common.{◌≡◌, ℕ, ◌<◌, ◌≤◌, Bool, true, false, cond, List, [], ◌∷◌, length, map, Option, refl, sym, ap, ◌∙◌, subst, inl, inr, eqb-true, arith, length-append}
use Rattle.std.proofs.lemmas.Bool.{cases_lt}
use Rattle.std.specs.Prelude.{slice_get, ◌==◌}
use Rattle.cmdcodec.specs.declared.raw.Raw.{Raw}
use Rattle.ringcore.specs.declared.world.event.Who.{Who}
use Rattle.ringcore.specs.declared.world.event.Who.TheVariants.{Consumer, Sender}
use Rattle.ringcore.specs.declared.world.event.Event.{Event}
use Rattle.ringcore.specs.declared.world.event.Event.TheVariants.{Look, Won, Lost, Write, Flip, Test, Read, Advance, Close, Acknowledge, Ask}
use Rattle.ringcore.specs.world.Trails.{Trail, Run, trail_of}
use Rattle.ringcore.specs.world.World.{World, Taken, items, taken_as, after, world}
use Rattle.ringcore.specs.world.Allowed.{Ring, SyncIsTaken, MayAcknowledge, Allowed, IsRun}
use Rattle.ringcore.specs.world.Laws.{AcknowledgedAreTaken}
use Rattle.ringcore.proofs.WorldLemmas.Lists.{get_longer}

-- the syncs up to the numbers of the cells, in a world
abbrev pub AllTaken : World → Type 0
AllTaken w = (s number : ℕ) → 1 ≤ number → number ≤ w.acknowledged s → SyncIsTaken w s number

reserved_more : (w : World) (s : ℕ) (body : List Raw) (number : Option ℕ) → AllTaken w → AllTaken (after w (Sender s) (Won body number))
reserved_more w s body number i t k some up =
    let was = i t k some up in record {
      position = was.position;
      place = was.place;
      below = was.below;
      there = get_longer w.reserved (items s number body) was.position _ was.there;
    }

taken_more : (w : World) (raws : List Raw) → AllTaken w → AllTaken (after w Consumer (Advance raws))
taken_more w raws i t k some up =
    let was = i t k some up in
    let below = was.below in
    let grown = length-append w.taken (map taken_as raws) in record {
      position = was.position;
      place = was.place;
      below = omega (arith, below, grown);
      there = was.there;
    }

acknowledged_more : (w : World) (sender number : ℕ) → MayAcknowledge w sender number → AllTaken w → AllTaken (after w Consumer (Acknowledge sender number))
acknowledged_more w sender number a i t k some up = by_sender (t == sender) refl up
  where
    moved : SyncIsTaken w t k → SyncIsTaken (after w Consumer (Acknowledge sender number)) t k
    moved was = record { position = was.position; place = was.place; below = was.below; there = was.there }

    by_sender : (v : Bool) → (t == sender) ≡ v → k ≤ cond v number (w.acknowledged t) → SyncIsTaken (after w Consumer (Acknowledge sender number)) t k
    by_sender false else up = moved (i t k some up)
    by_sender true here up =
        let at : t ≡ sender = eqb-true t sender here in
        let next = a.next in
        elim (cases_lt k number) [
          | inl less ↦
              let before : k ≤ w.acknowledged sender = omega (arith, less, next) in
              moved (i t k some (subst (λ (u : ℕ). k ≤ w.acknowledged u) (sym at) before))
          | inr all ↦
              let is : k ≡ number = omega (arith, up, all) in
              moved (subst (λ (p : ℕ × ℕ). SyncIsTaken w p.0 p.1) (λ j. (sym at j, sym is j)) a.taken)
        ]

-- An event that leaves what is reserved, taken and acknowledged leaves this.
all_taken_unmoved_by_others : (w v : World) → v.reserved ≡ w.reserved → v.taken ≡ w.taken → v.acknowledged ≡ w.acknowledged → AllTaken w → AllTaken v
all_taken_unmoved_by_others w v r t a i s k some up =
    let was = i s k some (subst (λ (f : ℕ → ℕ). k ≤ f s) a up) in record {
      position = was.position;
      place = was.place;
      below = subst (λ (l : List Taken). was.position < length l) (sym t) was.below;
      there = ap (λ l. slice_get l was.position) r ∙ was.there;
    }

all_taken_after_event : (ring : Ring) (w : World) (mine : Trail) (who : Who) (e : Event) → Allowed ring w mine who e → AllTaken w → AllTaken (after w who e)
all_taken_after_event ring w mine Consumer (Look found) a i = all_taken_unmoved_by_others w (after w Consumer (Look found)) refl refl refl i
all_taken_after_event ring w mine Consumer (Won body number) a i = absurd a
all_taken_after_event ring w mine Consumer (Lost body closes found) a i = absurd a
all_taken_after_event ring w mine Consumer (Write offset half) a i = absurd a
all_taken_after_event ring w mine Consumer (Flip offset count) a i = absurd a
all_taken_after_event ring w mine Consumer (Test limit found) a i = all_taken_unmoved_by_others w (after w Consumer (Test limit found)) refl refl refl i
all_taken_after_event ring w mine Consumer (Read offset half word) a i = all_taken_unmoved_by_others w (after w Consumer (Read offset half word)) refl refl refl i
all_taken_after_event ring w mine Consumer (Advance raws) a i = taken_more w raws i
all_taken_after_event ring w mine Consumer Close a i = absurd a
all_taken_after_event ring w mine Consumer (Acknowledge sender number) a i = acknowledged_more w sender number a i
all_taken_after_event ring w mine Consumer (Ask found) a i = absurd a
all_taken_after_event ring w mine (Sender s) (Look found) a i = all_taken_unmoved_by_others w (after w (Sender s) (Look found)) refl refl refl i
all_taken_after_event ring w mine (Sender s) (Won body number) a i = reserved_more w s body number i
all_taken_after_event ring w mine (Sender s) (Lost body closes found) a i = all_taken_unmoved_by_others w (after w (Sender s) (Lost body closes found)) refl refl refl i
all_taken_after_event ring w mine (Sender s) (Write offset half) a i = all_taken_unmoved_by_others w (after w (Sender s) (Write offset half)) refl refl refl i
all_taken_after_event ring w mine (Sender s) (Flip offset count) a i = all_taken_unmoved_by_others w (after w (Sender s) (Flip offset count)) refl refl refl i
all_taken_after_event ring w mine (Sender s) (Test limit found) a i = absurd a
all_taken_after_event ring w mine (Sender s) (Read offset half word) a i = absurd a
all_taken_after_event ring w mine (Sender s) (Advance raws) a i = absurd a
all_taken_after_event ring w mine (Sender s) Close a i = all_taken_unmoved_by_others w (after w (Sender s) Close) refl refl refl i
all_taken_after_event ring w mine (Sender s) (Acknowledge sender number) a i = absurd a
all_taken_after_event ring w mine (Sender s) (Ask found) a i = all_taken_unmoved_by_others w (after w (Sender s) (Ask found)) refl refl refl i

pub acknowledged : (ring : Ring) (run : Run) → IsRun ring run → AcknowledgedAreTaken run
acknowledged ring [] ok = λ s k some up. absurd (omega (arith, some, up))
acknowledged ring (x ∷ xs) ok = all_taken_after_event ring (world xs) (trail_of x.0 xs) x.0 x.1 ok.1 (acknowledged ring xs ok.0)
