-- Alone, a sender wins.
use Rattle.std.proofs.Common.{◌≡◌, ℕ, Bool, true, false, List, ◌∷◌, Option, Some, None, refl, sym, ap, ◌∙◌, subst, inl, inr, suc, arith}
use Rattle.std.proofs.lemmas.Option.{same_Some}
use Rattle.cmdcodec.specs.declared.raw.Raw.{Raw}
use Rattle.qindex.specs.declared.control.Control.{Control}
use Rattle.qindex.specs.Indexes.{distance}
use Rattle.qindex.specs.Laws.{IndexesTellTheQueue}
use Rattle.ringcore.specs.declared.world.event.Who.TheVariants.{Sender}
use Rattle.ringcore.specs.declared.world.event.Event.TheVariants.{Look}
use Rattle.ringcore.specs.world.Trails.{Trail, Run, trail_of, looked, batch_length, numbers_given}
use Rattle.ringcore.specs.world.World.{tail, head, world, control}
use Rattle.ringcore.specs.world.Allowed.{Ring, IsNextNumber, MayWin, MayLose, length_with}
use Rattle.ringcore.proofs.WorldLemmas.Newest.{steps_grow}
use Rattle.ringcore.proofs.WorldLemmas.Sound.{sound}
use Rattle.progress.proofs.Controls.{same_control}
use Rattle.progress.specs.Alone.{AloneNoneIsLost, MayReserve, TwoStepsReserve, EachTryEnds}

pub none_is_lost : AloneNoneIsLost
none_is_lost ring run s body closes found seen ok =
    let a : MayLose ring (world run) (trail_of (Sender s) ((Sender s, Look seen) ∷ run)) body closes found = ok.1 in
    let at : looked (trail_of (Sender s) ((Sender s, Look seen) ∷ run)) ≡ Some seen = ap looked (steps_grow (Sender s) (Look seen) run) in
    let is : seen ≡ a.before = same_Some seen a.before (sym at ∙ a.tries.looked_at) in
    a.other (a.found_is ∙ sym ok.0.1 ∙ is)

wins : (ring : Ring) (run : Run) (s : ℕ) (body : List Raw) (number : Option ℕ) → MayReserve ring run s body number
    → MayWin ring (world run) (Look (control ring.geometry (world run)) ∷ trail_of (Sender s) run) body number
wins ring run s body None m =
    record { looked_at = refl; unclosed = m.unclosed; settled = m.settled; left = m.left; body_is = m.body_is; next = m.next; room = m.room }
wins ring run s body (Some n) m =
    record { looked_at = refl; unclosed = m.unclosed; settled = m.settled; left = m.left; body_is = m.body_is; next = m.next; room = m.room }

pub two_steps : TwoStepsReserve
two_steps ring run s body number ok may = (
  (ok, refl),
  subst (λ (t : Trail). MayWin ring (world run) t body number) (sym (steps_grow (Sender s) (Look (control ring.geometry (world run))) run))
      (wins ring run s body number may),
)

-- ---- each try ends

-- the number that comes next for a batch of this kind
number_for : Bool → Trail → Option ℕ
number_for true mine = Some (suc (numbers_given mine))
number_for false mine = None

next_is : (closes : Bool) (mine : Trail) → IsNextNumber mine (number_for closes mine)
unfolding number_for
next_is true mine = refl
next_is false mine = tt

length_is : (closes : Bool) (mine : Trail) (body : List Raw) → batch_length body (number_for closes mine) ≡ length_with closes body
unfolding number_for
length_is true mine body = refl
length_is false mine body = refl

pub each_try_ends : IndexesTellTheQueue → EachTryEnds
each_try_ends queue ring run s body closes before geometry ok may = elim (same_control (control ring.geometry (world run)) before) [
  | inl is ↦ inl (number_for closes (trail_of (Sender s) run), length_is closes (trail_of (Sender s) run) body, wins is)
  | inr not ↦ inr record { before = before; tries = may; found_is = refl; other = not }
]
  where
    wins : control ring.geometry (world run) ≡ before → MayWin ring (world run) (trail_of (Sender s) run) body (number_for closes (trail_of (Sender s) run))
    wins is =
        let i = sound ring run ok in
        let q = (queue ring.geometry (tail (world run)) (head (world run)) geometry i.behind i.within).distance in
        let same = ap (λ (c : Control). distance c.prod c.cons) is in
        let room = may.room in
        let behind = i.behind in
        let many = length_is closes (trail_of (Sender s) run) body in
        record {
          looked_at = may.looked_at ∙ ap Some (sym is);
          unclosed = ap (λ (c : Control). c.closed) is ∙ may.unclosed;
          settled = may.settled;
          left = may.left;
          body_is = may.body_is;
          next = next_is closes (trail_of (Sender s) run);
          room = omega (arith, q, same, room, behind, many);
        }
