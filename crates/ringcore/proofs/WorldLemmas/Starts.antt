-- Where a sender's last reservation starts follows from its own trail: the index that it looked at.
use Rattle.std.proofs.lemmas.Nat.{pow_pos}
use Rattle.std.proofs.Math.Nat.{mod-eq_of_lt}
use Rattle.std.proofs.Common.{◌≡◌, ℕ, ◌*◌, ◌%◌, Bool, true, false, cond, List, [], ◌∷◌, Option, refl, sym, ap, ◌∙◌, eqb-true, arith}
use Rattle.std.specs.Prelude.{◌==◌}
use Rattle.cmdcodec.specs.declared.raw.Raw.{Raw}
use Rattle.qindex.specs.Positions.{size, index_of}
use Rattle.ringcore.specs.declared.world.event.Who.{Who}
use Rattle.ringcore.specs.declared.world.event.Who.TheVariants.{Consumer, Sender}
use Rattle.ringcore.specs.declared.world.event.Event.{Event}
use Rattle.ringcore.specs.declared.world.event.Event.TheVariants.{Look, Won, Lost, Write, Flip, Test, Read, Advance, Close, Acknowledge, Ask}
use Rattle.ringcore.specs.world.Trails.{Trail, Run, same, trail_of, looked, prod_of, start_index}
use Rattle.ringcore.specs.world.World.{World, tail, after, world}
use Rattle.ringcore.specs.world.Allowed.{Ring, MayWin, Allowed, IsRun}

abbrev StartsThere : ℕ → World → ℕ → Trail → Type 0
StartsThere geometry w s mine = index_of geometry (w.start s) ≡ start_index geometry mine

same_start : (geometry : ℕ) (v : Bool) (e : Event) (t : Trail) → start_index geometry (e ∷ t) ≡ start_index geometry t
    → start_index geometry (cond v (e ∷ t) t) ≡ start_index geometry t
same_start geometry true e t is = is
same_start geometry false e t is = refl

module _ (ring : Ring) (xs : Run) (i : (s : ℕ) → StartsThere ring.geometry (world xs) s (trail_of (Sender s) xs)) where
  abbrev w : World
  w = world xs

  abbrev mine : ℕ → Trail
  mine s = trail_of (Sender s) xs

  starts_unmoved_by_others : (s : ℕ) (who : Who) (e : Event) → ((t : Trail) → start_index ring.geometry (e ∷ t) ≡ start_index ring.geometry t)
      → index_of ring.geometry (w.start s) ≡ start_index ring.geometry (trail_of (Sender s) ((who, e) ∷ xs))
  starts_unmoved_by_others s who e is = i s ∙ sym (same_start ring.geometry (same (Sender s) who) e (mine s) (is (mine s)))

  won : (s : ℕ) (body : List Raw) (number : Option ℕ) → MayWin ring w (mine s) body number → (u : ℕ) (v : Bool) → (u == s) ≡ v
      → index_of ring.geometry (cond v (tail w) (w.start u)) ≡ start_index ring.geometry (cond v (Won body number ∷ mine u) (mine u))
  won s body number a u true is = sym (ap (prod_of ring.geometry) (ap (λ x. looked (mine x)) (eqb-true u s is) ∙ a.looked_at))
  won s body number a u false is = i u

  starts_after_event : (who : Who) (e : Event) → Allowed ring w (trail_of who xs) who e → (s : ℕ) → StartsThere ring.geometry (after w who e) s (trail_of (Sender s) ((who, e) ∷ xs))
  starts_after_event Consumer (Look found) a s = starts_unmoved_by_others s Consumer (Look found) (λ t. refl)
  starts_after_event Consumer (Won body number) a s = absurd a
  starts_after_event Consumer (Lost body closes found) a s = absurd a
  starts_after_event Consumer (Write offset half) a s = absurd a
  starts_after_event Consumer (Flip offset count) a s = absurd a
  starts_after_event Consumer (Test limit found) a s = starts_unmoved_by_others s Consumer (Test limit found) (λ t. refl)
  starts_after_event Consumer (Read offset half word) a s = starts_unmoved_by_others s Consumer (Read offset half word) (λ t. refl)
  starts_after_event Consumer (Advance raws) a s = starts_unmoved_by_others s Consumer (Advance raws) (λ t. refl)
  starts_after_event Consumer Close a s = absurd a
  starts_after_event Consumer (Acknowledge sender number) a s = starts_unmoved_by_others s Consumer (Acknowledge sender number) (λ t. refl)
  starts_after_event Consumer (Ask found) a s = absurd a
  starts_after_event (Sender u) (Look found) a s = starts_unmoved_by_others s (Sender u) (Look found) (λ t. refl)
  starts_after_event (Sender u) (Won body number) a s = won u body number a s (s == u) refl
  starts_after_event (Sender u) (Lost body closes found) a s = starts_unmoved_by_others s (Sender u) (Lost body closes found) (λ t. refl)
  starts_after_event (Sender u) (Write offset half) a s = starts_unmoved_by_others s (Sender u) (Write offset half) (λ t. refl)
  starts_after_event (Sender u) (Flip offset count) a s = starts_unmoved_by_others s (Sender u) (Flip offset count) (λ t. refl)
  starts_after_event (Sender u) (Test limit found) a s = absurd a
  starts_after_event (Sender u) (Read offset half word) a s = absurd a
  starts_after_event (Sender u) (Advance raws) a s = absurd a
  starts_after_event (Sender u) Close a s = starts_unmoved_by_others s (Sender u) Close (λ t. refl)
  starts_after_event (Sender u) (Acknowledge sender number) a s = absurd a
  starts_after_event (Sender u) (Ask found) a s = starts_unmoved_by_others s (Sender u) (Ask found) (λ t. refl)

pub starts_there : (ring : Ring) (run : Run) → IsRun ring run → (s : ℕ) → index_of ring.geometry ((world run).start s) ≡ start_index ring.geometry (trail_of (Sender s) run)
starts_there ring [] ok s = λ j. record { geometry = ring.geometry; number = none j }
  where
    none : 0 % (2 * size ring.geometry) ≡ 0
    none = let some = pow_pos ring.geometry in mod-eq_of_lt (omega (arith, some))
starts_there ring (x ∷ xs) ok s = starts_after_event ring xs (starts_there ring xs ok.0) x.0 x.1 ok.1 s
