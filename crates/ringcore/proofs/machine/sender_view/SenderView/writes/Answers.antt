use Rattle.std.proofs.Common.{◌∷◌, sym, subst, arith}
use Rattle.ringcore.specs.declared.world.event.Half.{Half}
use Rattle.ringcore.specs.declared.world.event.Half.TheVariants.{Lo, Hi}
use Rattle.ringcore.specs.declared.world.event.Who.TheVariants.{Sender}
use Rattle.ringcore.specs.declared.world.event.Event.TheVariants.{Write}
use Rattle.ringcore.specs.machine.SenderViews.{SenderValue, Knows}
use Rattle.ringcore.proofs.MachineLemmas.SenderKnows.{view_written, wrote_known}
use Rattle.ringcore.proofs.machine.sender_view.SenderView.writes.Goals as goal

pub returns-in-Lo : goal.returns-in-Lo
returns-in-Lo c = λ run s known.
    let view : SenderValue = record { looked = c.self.inside.looked; batches = c.self.inside.batches; numbers = c.self.inside.numbers; start = c.self.inside.start; commands = c.self.inside.commands.items; progress = c.self.inside.progress } in
    let places = c.self.invariant.places in
    subst (λ (h : Half). Knows ((Sender s, Write c.args.offset h) ∷ run) s (view_written view c.args.offset Lo)) (sym c.in-Lo.is)
    (wrote_known run s view c.args.offset Lo (omega (arith, places, c.requires)) (subst (Knows run s) (sym c.self.view_is) known))

pub returns-in-Hi : goal.returns-in-Hi
returns-in-Hi c = λ run s known.
    let view : SenderValue = record { looked = c.self.inside.looked; batches = c.self.inside.batches; numbers = c.self.inside.numbers; start = c.self.inside.start; commands = c.self.inside.commands.items; progress = c.self.inside.progress } in
    let places = c.self.invariant.places in
    subst (λ (h : Half). Knows ((Sender s, Write c.args.offset h) ∷ run) s (view_written view c.args.offset Hi)) (sym c.in-Hi.is)
    (wrote_known run s view c.args.offset Hi (omega (arith, places, c.requires)) (subst (Knows run s) (sym c.self.view_is) known))
