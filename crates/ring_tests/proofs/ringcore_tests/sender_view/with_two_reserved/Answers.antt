use Rattle.std.proofs.Common.{◌≡◌, [], ◌∷◌, arith}
use Rattle.ringcore.specs.declared.world.event.Who.TheVariants.{Sender}
use Rattle.ringcore.specs.declared.world.event.Event.TheVariants.{Look}
use Rattle.ringcore.specs.machine.SenderViews.{Knows}
use Rattle.ring_tests.proofs.ringcore_tests.sender_view.with_two_reserved.Goals as goal

pub wins-requires-clause-batches : goal.wins-requires-clause-batches
wins-requires-clause-batches g c =
    let known : Knows ((Sender 7, Look c.args.found.now) ∷ []) 7 c.looks.new.self = c.looks.ensures [] 7 (c.new-view.ensures 7) in
    let none : c.looks.new.self.batches ≡ 0 = known.batches_is in
    omega (arith, none)
