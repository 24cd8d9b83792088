-- What a send of a seat's own sender did.
use Rattle.std.proofs.Common.{◌≡◌, ℕ, List, Option, None, Some, Ok, refl, sym, ap, subst, ◌∙◌, true}
use Rattle.cmdcodec.specs.declared.raw.Raw.{Raw}
use Rattle.batch.specs.declared.fault.BatchFault.{BatchFault}
use Rattle.batch.specs.Refusals.{unless, list_refusal}
use Rattle.ring.specs.sender.GoingOn.{WentOn, HasOpened}
use Rattle.ring.specs.sender.Senders.{SenderValue, ReceiptValue}
use Rattle.ring.specs.sender.Sending.{IsReservedWithin, IsSent, IsSentBare, IsGivenUp}
use Rattle.ring.specs.declared.sender.cause.Cause.{Cause}
use Rattle.ring.specs.sender.Reservations.{ReservationValue}
use Rattle.smmuq_c.specs.declared.status.Status.TheVariants.{Done, Refused}
use Rattle.smmuq_c.specs.Seats.{sender_in}
use Rattle.smmuq_c.specs.Sends.{HasSent, HasSentBare, tries_of}
use Rattle.smmuq_c.specs.Reserving.{IsOpened, IsUnreserved}

pub unrefused : (refusal : Option BatchFault) (batch commands : List Raw) → Ok batch ≡ unless refusal commands → refusal ≡ None
unrefused None batch commands e = cc
unrefused (Some fault) batch commands e = absurd (cc)

pub is_batch : (refusal : Option BatchFault) (batch commands : List Raw) → Ok batch ≡ unless refusal commands → batch ≡ commands
is_batch None batch commands e = cc
is_batch (Some fault) batch commands e = absurd (cc)

-- the sender that is lent is the one that the seat has
pub lent : {held : Option SenderValue} {sender own : SenderValue} → held ≡ Some sender → sender_in held ≡ own → sender ≡ own
lent is view = sym (ap sender_in is) ∙ view

pub went_on : {sender own new : SenderValue} → sender ≡ own → WentOn sender new → WentOn own new
went_on {new = new} same went = subst (λ (s : SenderValue). WentOn s new) same went

pub sent : (commands : List Raw) (tries : ℕ) {batch : List Raw} {most told : ℕ} {sender own new : SenderValue} {receipt : ReceiptValue}
    → Ok batch ≡ unless (list_refusal commands) commands → most ≡ tries_of tries → sender ≡ own → IsSent batch most sender new receipt → told ≡ receipt.number
    → WentOn own new → HasSent commands tries told own new Done
sent commands tries {batch} {most} {told} {sender} {own} {new} {receipt} made most_is same is told_is grew = (
  (
    receipt,
    unrefused (list_refusal commands) batch commands made,
    subst (λ (b : List Raw). IsSent b (tries_of tries) own new receipt) (is_batch (list_refusal commands) batch commands made)
        (subst (λ (m : ℕ). IsSent batch m own new receipt) most_is (subst (λ (s : SenderValue). IsSent batch most s new receipt) same is)),
    told_is,
  ),
  grew,
)

pub sent_bare : (commands : List Raw) (tries : ℕ) {batch : List Raw} {most : ℕ} {sender own new : SenderValue}
    → Ok batch ≡ unless (list_refusal commands) commands → most ≡ tries_of tries → sender ≡ own → IsSentBare batch most sender new
    → WentOn own new → HasSentBare commands tries own new Done
sent_bare commands tries {batch} {most} {sender} {own} {new} made most_is same is grew = (
  (
    unrefused (list_refusal commands) batch commands made,
    subst (λ (b : List Raw). IsSentBare b (tries_of tries) own new) (is_batch (list_refusal commands) batch commands made)
        (subst (λ (m : ℕ). IsSentBare batch m own new) most_is (subst (λ (s : SenderValue). IsSentBare batch most s new) same is)),
  ),
  grew,
)

-- ---- a reservation that is kept

-- what isn't refused is a batch
pub remade : (refusal : Option BatchFault) (commands : List Raw) (made answer : Unit {0}) → Ok made ≡ unless refusal answer → Ok commands ≡ unless refusal commands
remade None commands made answer e = refl
remade (Some fault) commands made answer e = absurd (cc)

pub opened : (commands : List Raw) (tries : ℕ) {batch : List Raw} {most : ℕ} {sender own : SenderValue} {reservation new : ReservationValue}
    → Ok batch ≡ unless (list_refusal commands) commands → most ≡ tries_of tries → sender ≡ own → new ≡ reservation
    → IsReservedWithin batch true most sender reservation → HasOpened sender reservation → IsOpened commands tries own new
opened commands tries {batch} {most} {sender} {own} {reservation} {new} made most_is same new_is reserved own_is =
    subst (λ (r : ReservationValue). IsOpened commands tries own r) (sym new_is) (subst (λ (s : SenderValue). IsOpened commands tries s reservation) same (record {
      batch = unrefused (list_refusal commands) batch commands made;
      reserved = subst (λ (b : List Raw). IsReservedWithin b true (tries_of tries) sender reservation) (is_batch (list_refusal commands) batch commands made)
          (subst (λ (m : ℕ). IsReservedWithin batch true m sender reservation) most_is reserved);
      own = own_is;
    }))

pub unreserved : (commands : List Raw) (tries : ℕ) (cause : Cause) {batch : List Raw} {most : ℕ} {sender own back new : SenderValue}
    → Ok batch ≡ unless (list_refusal commands) commands → most ≡ tries_of tries → sender ≡ own → new ≡ back
    → IsGivenUp batch true most sender cause back → WentOn sender back → IsUnreserved commands tries own new (Refused cause)
unreserved commands tries cause {batch} {most} {sender} {own} {back} {new} made most_is same new_is refused grew =
    subst (λ (s : SenderValue). IsUnreserved commands tries own s (Refused cause)) (sym new_is) (
      unrefused (list_refusal commands) batch commands made,
      subst (λ (b : List Raw). IsGivenUp b true (tries_of tries) own cause back) (is_batch (list_refusal commands) batch commands made)
          (subst (λ (m : ℕ). IsGivenUp batch true m own cause back) most_is (subst (λ (s : SenderValue). IsGivenUp batch true most s cause back) same refused)),
      subst (λ (s : SenderValue). WentOn s back) same grew,
    )
