use Rattle.std.proofs.Common.{sym, subst}
use Rattle.ringcore.specs.machine.SenderViews.{SenderValue, Knows}
use Rattle.ringcore.proofs.MachineLemmas.SenderKnows.{counted, won_known}
use Rattle.ringcore.proofs.machine.sender_view.SenderView.wins.Goals as goal

pub returns-clause-view : goal.returns-clause-view
returns-clause-view c = λ run known at.
    let s = c.args.sender in
    let body = c.args.body.now in
    let number = c.next_number-number.result in
    let view : SenderValue = record { looked = c.self.inside.looked; batches = c.self.inside.batches; numbers = c.self.inside.numbers; start = c.self.inside.start; commands = c.self.inside.commands.items; progress = c.self.inside.progress } in
    let before : Knows run s view = subst (Knows run s) (sym c.self.view_is) known in
    won_known run s view body number _ c.args.start _ at before
    (counted _ body c.args.closes number c.self.inside.numbers c.from.result (c.next_number-number.ensures run s known) before.numbers_is c.from.ensures)
    c.fill_with_batch.ensures
