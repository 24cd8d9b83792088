-- What is sent is reserved behind the run that the sender knew, with the next number.
use Rattle.std.proofs.Common.{◌≡◌, ℕ, zero, suc, ◌≤◌, Bool, true, List, [], ◌∷◌, ◌++◌, Some, None, sym, ap, ◌∙◌, subst, arith}
use Rattle.cmdcodec.specs.declared.raw.Raw.{Raw}
use Rattle.ring.specs.Runs.{Sender, Won, Trail, Run, trail_of, numbers_given}
use Rattle.ring.specs.declared.sender.cause.Cause.{Cause}
use Rattle.ring.specs.declared.sender.cause.Cause.TheVariants.{TooLong, Exhausted, Closed, Full, Contended}
use Rattle.ring.specs.sender.Senders.{SenderValue, ReceiptValue}
use Rattle.ring.specs.sender.Reservations.{ReservationValue, reserved_number}
use Rattle.ring.specs.sender.Reserving.{IsRefused}
use Rattle.ring.specs.sender.GoingOn.{WentOn}
use Rattle.ring.specs.sender.Sending.{HasTried, IsSent}
use Rattle.ringcore.specs.machine.StepAnswers.{next_number}
use Rattle.detachment.proofs.GoingOn.{Continues, continues_again, by_one_step, by_tries}
use Rattle.guest_forwarding.specs.Values.{IsForwarding, behind_batch}
use Rattle.guest_forwarding.specs.Carrying.{IsReservedBehind}

-- ---- numbers

more_given : (newer older : Trail) → numbers_given older ≤ numbers_given (newer ++ older)
more_given [] older = omega arith
more_given (Won body None ∷ es) older = more_given es older
more_given (Won body (Some n) ∷ es) older = let more = more_given es older in omega arith
more_given (e ∷ es) older = more_given es older

pub given_on : (s t : SenderValue) → WentOn s t → numbers_given s.trail ≤ numbers_given t.trail
given_on s t on = subst (λ (trail : Trail). numbers_given s.trail ≤ numbers_given trail) (sym on.grew.trail_is) (more_given (trail_of (Sender s.number) on.grew.newer) s.trail)

given : SenderValue → ℕ
given s = numbers_given s.trail

none_by_refusal : (words : List Raw) (closes : Bool) (s : SenderValue) (cause : Cause) (t : SenderValue) → IsRefused words closes s cause t → given t ≡ given s
unfolding given
none_by_refusal words closes s TooLong t is = ap given is.stays
none_by_refusal words closes s Exhausted t is = ap given is.stays
none_by_refusal words closes s Closed t is = ap given is.looked.trail_is
none_by_refusal words closes s Full t is = ap given is.looked.trail_is
none_by_refusal words closes s Contended t is = ap given is.lost.trail_is ∙ ap given is.looked.trail_is

none_by_tries : (words : List Raw) (closes : Bool) (tries : ℕ) (s t : SenderValue) → HasTried words closes tries s t → given t ≡ given s
none_by_tries words closes zero s t is = ap given is
none_by_tries words closes (suc k) s t is = none_by_refusal words closes is.0 is.1 t is.4 ∙ none_by_tries words closes k s is.0 is.2

-- ---- what is sent

some_is : (m n : ℕ) → Some m ≡ Some n → m ≡ n
some_is m n is = cc

module _ (words : List Raw) (tries : ℕ) (s t : SenderValue) (receipt : ReceiptValue) (sent : IsSent words tries s t receipt) where
  won_by : sent.reservation.sender ≡ sent.reserved.reserved.after.number
  won_by = ap (λ (r : ReservationValue). r.sender) sent.reserved.reserved.won.trail_is

  its_number : next_number sent.reserved.reserved.after.trail true ≡ Some receipt.number
  its_number = sym (ap (λ (r : ReservationValue). reserved_number r.trail) sent.reserved.reserved.won.trail_is) ∙ sent.receipt_is.number_is

  its_sender : t.number ≡ sent.reserved.reserved.after.number
  its_sender = ap (λ (u : SenderValue). u.number) sent.sender_is ∙ won_by

  none_before : given sent.reserved.reserved.after ≡ given s
  unfolding given
  none_before = ap given sent.reserved.reserved.looked.trail_is ∙ none_by_tries words true sent.reserved.refusals s sent.reserved.after sent.reserved.tried

  pub next_is : receipt.number ≡ suc (numbers_given s.trail)
  unfolding given
  next_is = let number = some_is (suc (numbers_given sent.reserved.reserved.after.trail)) receipt.number its_number in let none = none_before in omega arith

  given_then : numbers_given sent.reservation.trail ≡ suc (numbers_given sent.reserved.reserved.after.trail)
  given_then = ap (λ (r : ReservationValue). numbers_given r.trail) sent.reserved.reserved.won.trail_is

  pub is_given : receipt.number ≤ numbers_given t.trail
  unfolding given
  is_given =
      let then = given_then in let none = none_before in let next = next_is in
      let more = subst (λ (trail : Trail). numbers_given sent.reservation.trail ≤ numbers_given trail) (sym sent.grew.trail_is) (more_given (trail_of (Sender sent.reservation.sender) sent.grew.newer) sent.reservation.trail) in
      omega arith

  -- the run right before it was reserved
  goes_on : Continues s.history sent.reserved.reserved.won.grew.before
  goes_on =
      continues_again _ _ _ (by_tries words true sent.reserved.refusals s sent.reserved.after sent.reserved.tried)
      (continues_again _ _ _ (by_one_step _ _ _ _ sent.reserved.reserved.looked.grew)
      record { newer = sent.reserved.reserved.won.grew.went_on.newer; run_is = sent.reserved.reserved.won.grew.went_on.run_is })

  pub reserved_behind : IsReservedBehind s.history words receipt.number t
  reserved_behind = record {
    between = goes_on.newer;
    reserved = record {
      later = sent.grew.newer;
      run_is =
          sent.grew.run_is ∙ ap (λ (r : Run). sent.grew.newer ++ r)
          (sent.reserved.reserved.won.grew.run_is
          ∙ (λ i. let l : Run = (Sender (sym its_sender i), Won words (its_number i)) ∷ goes_on.run_is i in l));
    };
  }

  pub is_last : receipt.sender ≡ t.number → IsForwarding (behind_batch receipt t)
  is_last own = record { own = own; given = is_given }
