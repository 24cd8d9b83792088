-- The control word says the control of the world, and what a seat looked at was one.
use Rattle.std.proofs.Common.{◌≡◌, ℕ, Bool, true, false, cond, [], ◌∷◌, Some, refl, sym, ap, ◌∙◌, subst, eqb-true}
use Rattle.std.proofs.lemmas.Option.{same_Some}
use Rattle.qindex.specs.declared.control.Control.{Control}
use Rattle.qindex.specs.Indexes.{IsGeometry}
use Rattle.qindex.specs.ControlWord.{IsControl, packed, control_in}
use Rattle.qindex.specs.Laws.{QueuesHaveAControl, WordsSayTheirControl}
use Rattle.ringcore.specs.declared.world.event.Who.{Who}
use Rattle.ringcore.specs.declared.world.event.Who.TheVariants.{Consumer, Sender}
use Rattle.ringcore.specs.declared.world.event.Event.{Event}
use Rattle.ringcore.specs.declared.world.event.Event.TheVariants.{Look, Won, Lost, Write, Flip, Test, Read, Advance, Close, Acknowledge, Ask}
use Rattle.ringcore.specs.world.Trails.{Run, same, trail_of, looked}
use Rattle.ringcore.specs.world.World.{tail, head, world, control}
use Rattle.ringcore.specs.world.Allowed.{Ring, Allowed, IsRun}
use Rattle.ringcore.proofs.WorldLemmas.Lists.{off, none_some}
use Rattle.ringcore.proofs.WorldLemmas.Sound.{sound}

pub same_is : (u v : Who) → same u v ≡ true → u ≡ v
same_is Consumer Consumer e = refl
same_is Consumer (Sender t) e = off e
same_is (Sender s) Consumer e = off e
same_is (Sender s) (Sender t) e = ap Sender (eqb-true s t e)

-- a look always finds a control
pub is_control : QueuesHaveAControl → (ring : Ring) → IsGeometry ring.geometry → (run : Run) → IsRun ring run → IsControl ring.geometry (control ring.geometry (world run))
is_control queue ring is run ok =
    let i = sound ring run ok in queue ring.geometry (tail (world run)) (head (world run)) (world run).closed is i.behind i.within

module _ (queue : QueuesHaveAControl) (ring : Ring) (is_geometry : IsGeometry ring.geometry) (xs : Run) (ok : IsRun ring xs)
    (earlier : (who : Who) (c : Control) → looked (trail_of who xs) ≡ Some c → IsControl ring.geometry c) where
  now : IsControl ring.geometry (control ring.geometry (world xs))
  now = is_control queue ring is_geometry xs ok

  step : (who : Who) (e : Event) → Allowed ring (world xs) (trail_of who xs) who e → (c : Control) → looked (e ∷ trail_of who xs) ≡ Some c → IsControl ring.geometry c
  step Consumer (Look found) a c is = subst (IsControl ring.geometry) (sym a ∙ same_Some found c is) now
  step Consumer (Won body number) a c is = absurd a
  step Consumer (Lost body closes found) a c is = absurd a
  step Consumer (Write offset half) a c is = absurd a
  step Consumer (Flip offset count) a c is = absurd a
  step Consumer (Test limit found) a c is = earlier Consumer c is
  step Consumer (Read offset half word) a c is = earlier Consumer c is
  step Consumer (Advance raws) a c is = earlier Consumer c is
  step Consumer Close a c is = absurd a
  step Consumer (Acknowledge sender number) a c is = earlier Consumer c is
  step Consumer (Ask found) a c is = absurd a
  step (Sender s) (Look found) a c is = subst (IsControl ring.geometry) (sym a ∙ same_Some found c is) now
  step (Sender s) (Won body number) a c is = none_some c is
  step (Sender s) (Lost body closes found) a c is = none_some c is
  step (Sender s) (Write offset half) a c is = earlier (Sender s) c is
  step (Sender s) (Flip offset count) a c is = earlier (Sender s) c is
  step (Sender s) (Test limit found) a c is = absurd a
  step (Sender s) (Read offset half word) a c is = absurd a
  step (Sender s) (Advance raws) a c is = absurd a
  step (Sender s) Close a c is = earlier (Sender s) c is
  step (Sender s) (Acknowledge sender number) a c is = absurd a
  step (Sender s) (Ask found) a c is = earlier (Sender s) c is

  pub grown : (who : Who) (e : Event) → Allowed ring (world xs) (trail_of who xs) who e → (seat : Who) (v : Bool) → same seat who ≡ v
      → (c : Control) → looked (cond v (e ∷ trail_of seat xs) (trail_of seat xs)) ≡ Some c → IsControl ring.geometry c
  grown who e a seat true here c is = step who e a c (ap (λ u. looked (e ∷ trail_of u xs)) (sym (same_is seat who here)) ∙ is)
  grown who e a seat false else c is = earlier seat c is

pub looked_is_control : QueuesHaveAControl → (ring : Ring) → IsGeometry ring.geometry → (run : Run) → IsRun ring run → (who : Who) (c : Control)
    → looked (trail_of who run) ≡ Some c → IsControl ring.geometry c
looked_is_control queue ring is_geometry [] ok who c is = none_some c is
looked_is_control queue ring is_geometry (x ∷ xs) ok who c is =
    grown queue ring is_geometry xs ok.0 (looked_is_control queue ring is_geometry xs ok.0) x.0 x.1 ok.1 who (same who x.0) refl c is

-- Equal words say the same control.
pub one_control : WordsSayTheirControl → (geometry : ℕ) (c d : Control) → IsControl geometry c → IsControl geometry d → packed c ≡ packed d → c ≡ d
one_control words geometry c d c_is d_is e =
    sym (words geometry c c_is).says ∙ ap (control_in geometry) e ∙ (words geometry d d_is).says
