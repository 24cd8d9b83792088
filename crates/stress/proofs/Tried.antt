-- What a try to reserve leaves behind in the sender's trail.
use Rattle.std.proofs.Common.{◌≡◌, suc, Bool, true, false, cond, List, ◌∷◌, refl, ap, ◌∙◌}
use Rattle.cmdcodec.specs.declared.raw.Raw.{Raw}
use Rattle.ringcore.specs.declared.world.event.Event.TheVariants.{Look, Won, Lost}
use Rattle.qindex.specs.declared.control.Control.{Control}
use Rattle.ringcore.specs.world.Trails.{Trail, numbers_given}
use Rattle.ringcore.specs.world.Laws.{own_batches}
use Rattle.ringcore.specs.machine.StepAnswers.{next_number}
use Rattle.ring.specs.declared.sender.cause.Cause.{Cause}
use Rattle.ring.specs.declared.sender.cause.Cause.TheVariants.{TooLong, Exhausted, Closed, Full, Contended}
use Rattle.ring.specs.sender.Senders.{SenderValue}
use Rattle.ring.specs.sender.Reservations.{ReservationValue}
use Rattle.ring.specs.sender.Reserving.{IsReserved, IsRefused}
use Rattle.ring.specs.sender.Publishing.{ReservesNone}
use Rattle.stress.specs.Workers.{HasReservedOne}

-- ---- a refusal

nothing : (old new : Trail) → new ≡ old → ReservesNone old new
nothing old new is = record { batches = λ s. ap (own_batches s) is; numbers = ap numbers_given is }

a_look : (old new : Trail) (seen : Control) → new ≡ Look seen ∷ old → ReservesNone old new
a_look old new seen is = record { batches = λ s. ap (own_batches s) is; numbers = ap numbers_given is }

lost : (old new : Trail) (body : List Raw) (closes : Bool) (found seen : Control) → new ≡ Lost body closes found ∷ Look seen ∷ old → ReservesNone old new
lost old new body closes found seen is = record { batches = λ s. ap (own_batches s) is; numbers = ap numbers_given is }

pub refused_none : (body : List Raw) (closes : Bool) (s : SenderValue) (cause : Cause) (t : SenderValue) → IsRefused body closes s cause t → ReservesNone s.trail t.trail
refused_none body closes s TooLong t is = nothing s.trail t.trail (ap (λ (v : SenderValue). v.trail) is.stays)
refused_none body closes s Exhausted t is = nothing s.trail t.trail (ap (λ (v : SenderValue). v.trail) is.stays)
refused_none body closes s Closed t is = a_look s.trail t.trail is.seen (ap (λ (v : SenderValue). v.trail) is.looked.trail_is)
refused_none body closes s Full t is = a_look s.trail t.trail is.seen (ap (λ (v : SenderValue). v.trail) is.looked.trail_is)
refused_none body closes s Contended t is =
    lost s.trail t.trail body closes is.lost.found is.seen
    (ap (λ (v : SenderValue). v.trail) is.lost.trail_is ∙ ap (λ (l : Trail). Lost body closes is.lost.found ∷ l) (ap (λ (v : SenderValue). v.trail) is.looked.trail_is))

-- ---- a reservation

numbers_after : (body : List Raw) (closes : Bool) (seen : Control) (l : Trail) → numbers_given (Won body (next_number l closes) ∷ Look seen ∷ l) ≡ cond closes (suc (numbers_given l)) (numbers_given l)
numbers_after body true seen l = refl
numbers_after body false seen l = refl

module _ (body : List Raw) (closes : Bool) (s : SenderValue) (r : ReservationValue) (is : IsReserved body closes s r) where
  pub won : r.trail ≡ Won body (next_number s.trail closes) ∷ Look is.seen ∷ s.trail
  won =
      ap (λ (v : ReservationValue). v.trail) is.won.trail_is
      ∙ ap (λ (l : Trail). Won body (next_number l closes) ∷ l) (ap (λ (v : SenderValue). v.trail) is.looked.trail_is)

  pub reserved_one : (t : SenderValue) → ReservesNone r.trail t.trail → HasReservedOne body closes s t
  reserved_one t none = record {
    batches = none.batches s.number ∙ ap (own_batches s.number) won;
    numbers = none.numbers ∙ ap numbers_given won ∙ numbers_after body closes is.seen s.trail;
  }
