-- A sender that goes on, and goes on again.
use Rattle.std.proofs.Common.{◌≡◌, ◌∙◌}
use Rattle.ring.specs.sender.{SenderValue, ReservationValue, WentOn, HasOpened, GrewHandingOver}
use Rattle.ring.proofs.TableLemmas.Grown.{grew_then}

pub on_again : {s t u : SenderValue} → WentOn s t → WentOn t u → WentOn s u
on_again one two = record {
  grew = grew_then _ _ _ _ _ _ _ _ one.number_is one.grew two.grew;
  ring_is = two.ring_is ∙ one.ring_is;
  number_is = two.number_is ∙ one.number_is;
}

pub then_opened : {s t : SenderValue} {r : ReservationValue} → WentOn s t → HasOpened t r → HasOpened s r
then_opened one two = record {
  grew = grew_then _ _ _ _ _ _ _ _ one.number_is one.grew two.grew;
  ring_is = two.ring_is ∙ one.ring_is;
  number_is = two.number_is ∙ one.number_is;
}

pub handed_over : {s t : SenderValue} {r : ReservationValue}
    → HasOpened s r → GrewHandingOver r t → t.ring ≡ r.ring → t.number ≡ r.sender → WentOn s t
handed_over one grew ring number = record {
  grew = grew_then _ _ _ _ _ _ _ _ one.number_is one.grew grew;
  ring_is = ring ∙ one.ring_is;
  number_is = number ∙ one.number_is;
}
