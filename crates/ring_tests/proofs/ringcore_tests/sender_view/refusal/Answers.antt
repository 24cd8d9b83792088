use Rattle.std.proofs.Common.{◌≡◌, [], ◌∷◌, Some, sym, subst, ◌∙◌}
use Rattle.qindex.specs.ControlWord.{IsControl}
use Rattle.ringcore.specs.declared.world.event.Who.TheVariants.{Sender}
use Rattle.ringcore.specs.declared.world.event.Event.TheVariants.{Look}
use Rattle.ringcore.specs.machine.SenderViews.{Knows}
use Rattle.ring_tests.proofs.ringcore_tests.sender_view.refusal.Goals as goal

some_one : {A : Type 0} (x y : A) → Some x ≡ Some y → x ≡ y
some_one x y e = cc

pub reserve_fault-requires : goal.reserve_fault-requires
reserve_fault-requires c = λ other is.
    let found = c.in_ok-found.found in
    let known : Knows ((Sender 0, Look found) ∷ []) 0 c.looks.new.self = c.looks.ensures [] 0 (c.new-view.ensures 0) in
    let one : Some found ≡ Some other = sym known.looked_is ∙ is in
    subst (IsControl c.in_ok-geometry.geometry) (some_one found other one) c.in_ok-found.ensures.packed_again.0
