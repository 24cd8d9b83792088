-- The newest event of a seat's trail was allowed in an earlier part of the run.
use Rattle.std.proofs.Common.{◌≡◌, ◌≢◌, zero, suc, Bool, true, false, cond, [], ◌∷◌, refl, sym, ap, ◌∙◌, subst, eq-eqb, ne_eqb, arith}
use Rattle.std.proofs.lemmas.Option.{same_Some}
use Rattle.qindex.specs.declared.control.Control.{Control}
use Rattle.qindex.specs.ControlWord.{IsControl}
use Rattle.qindex.specs.Laws.{QueuesHaveAControl}
use Rattle.ringcore.specs.declared.world.event.Who.{Who}
use Rattle.ringcore.specs.declared.world.event.Who.TheVariants.{Consumer, Sender}
use Rattle.ringcore.specs.declared.world.event.Event.{Event}
use Rattle.ringcore.specs.declared.world.event.Event.TheVariants.{Look, Lost, Ask}
use Rattle.ringcore.specs.world.Trails.{Trail, same, trail_of}
use Rattle.ringcore.specs.world.World.{World, world, control}
use Rattle.ringcore.specs.world.Allowed.{Ring, MayLose, Allowed}
use Rattle.ringcore.specs.world.NewestEvents.{StepsGrowTheirTrail, OthersLeaveTheTrail, WasAllowed, NewestWasAllowed, LooksFindControls, LookedAreControls, LostFoundAnother, AsksFindFew}
use Rattle.ringcore.proofs.WorldLemmas.LookedControls.{same_is, is_control, looked_is_control}
use Rattle.ringcore.proofs.WorldLemmas.Acknowledged.{acknowledged}
use Rattle.ringcore.proofs.WorldLemmas.FewNumbers.{numbers_few}

-- ---- how a trail grows

same_seat : (who : Who) → same who who ≡ true
same_seat Consumer = refl
same_seat (Sender s) = eq-eqb s s refl

other_seat : (who other : Who) → who ≢ other → same who other ≡ false
other_seat Consumer Consumer not = absurd (not refl)
other_seat Consumer (Sender t) not = refl
other_seat (Sender s) Consumer not = refl
other_seat (Sender s) (Sender t) not = ne_eqb s t (λ e. not (ap Sender e))

pub steps_grow : StepsGrowTheirTrail
steps_grow who e run = ap (λ b. cond b (e ∷ trail_of who run) (trail_of who run)) (same_seat who)

pub others_leave : OthersLeaveTheTrail
others_leave who other e run not = ap (λ b. cond b (e ∷ trail_of who run) (trail_of who run)) (other_seat who other not)

-- ---- what it was allowed to be

pub was_allowed : NewestWasAllowed
was_allowed ring [] who e before ok is = absurd (cc)
was_allowed ring (x ∷ xs) who e before ok is = by_seat (same who x.0) refl is (was_allowed ring xs who e before ok.0)
  where
    by_seat : (v : Bool) → same who x.0 ≡ v → cond v (x.1 ∷ trail_of who xs) (trail_of who xs) ≡ e ∷ before
        → (trail_of who xs ≡ e ∷ before → WasAllowed ring xs who e before) → WasAllowed ring (x ∷ xs) who e before
    by_seat true here is rest =
        let seat : x.0 ≡ who = sym (same_is who x.0 here) in
        let event : x.1 ≡ e = cc in
        let behind : trail_of who xs ≡ before = cc in record {
          later = [];
          earlier = xs;
          run_is = λ j. (seat j, event j) ∷ xs;
          is_run = ok.0;
          only = λ senders only. only.1;
          trail_is = behind;
          allowed = subst (λ (q : Who × Event × Trail). Allowed ring (world xs) q.2 q.0 q.1) (λ j. (seat j, event j, (ap (λ u. trail_of u xs) seat ∙ behind) j)) ok.1;
        }
    by_seat false else is rest =
        let r = rest is in record {
          later = x ∷ r.later;
          earlier = r.earlier;
          run_is = ap (λ l. x ∷ l) r.run_is;
          is_run = r.is_run;
          only = λ senders only. r.only senders only.1;
          trail_is = r.trail_is;
          allowed = r.allowed;
        }

-- ---- what it found

look_found : (ring : Ring) (w : World) (mine : Trail) (who : Who) (found : Control) → Allowed ring w mine who (Look found) → found ≡ control ring.geometry w
look_found ring w mine Consumer found a = a
look_found ring w mine (Sender s) found a = a

pub look_finds_control : QueuesHaveAControl → LooksFindControls
look_finds_control queue ring run who found before is_geometry ok is =
    let was = was_allowed ring run who (Look found) before ok is in
    subst (IsControl ring.geometry) (sym (look_found ring (world was.earlier) before who found was.allowed)) (is_control queue ring is_geometry was.earlier was.is_run)

pub looked_control : QueuesHaveAControl → LookedAreControls
looked_control queue ring run who found is_geometry ok is = looked_is_control queue ring is_geometry run ok who found is

pub lost_found_another : QueuesHaveAControl → LostFoundAnother
lost_found_another queue ring run s body closes found before is_geometry ok is =
    let was = was_allowed ring run (Sender s) (Lost body closes found) before ok is in
    let lost : MayLose ring (world was.earlier) before body closes found = was.allowed in record {
      control = subst (IsControl ring.geometry) (sym lost.found_is) (is_control queue ring is_geometry was.earlier was.is_run);
      other = λ seen at same.
          let seen_is : seen ≡ lost.before = same_Some seen lost.before (sym at ∙ lost.tries.looked_at) in lost.other (same ∙ seen_is);
    }

pub asks_find_few : AsksFindFew
asks_find_few ring run s zero before ok is = omega arith
asks_find_few ring run s (suc n) before ok is =
    let was = was_allowed ring run (Sender s) (Ask (suc n)) before ok is in
    let found : suc n ≡ (world was.earlier).acknowledged s = was.allowed in
    numbers_few ring was.earlier was.is_run s (suc n) (acknowledged ring was.earlier was.is_run s (suc n) (omega arith) (omega (arith, found)))
