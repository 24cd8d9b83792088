use Rattle.std.proofs.Common.{sym, ap₂, subst, ◌∙◌}
use Rattle.std.proofs.lemmas.Bool.{le-ltb}
use Rattle.ringcore.specs.machine.ConsumerViews.{ConsumerValue, ConsumerKnows}
use Rattle.ringcore.proofs.MachineLemmas.ConsumerKnows.{fault_seen, fault_known}
use Rattle.ringcore.proofs.machine.consumer_view.ConsumerView.advance_fault.Goals as goal

pub returns-then-all_read : goal.returns-then-all_read
returns-then-all_read c = λ run known.
    let view : ConsumerValue = record { taken = c.self.inside.taken; found = c.self.inside.found; read = c.self.inside.read } in
    ap₂ fault_seen (sym (le-ltb view.found c.args.count c.if-self-count.false)) (sym (sym c.all_read.ensures ∙ c.if-all_read.true))
    ∙ fault_known run view (subst (ConsumerKnows run) (sym c.self.view_is) known) c.self.invariant.places c.args.count c.requires.most

pub returns-else-all_read : goal.returns-else-all_read
returns-else-all_read c = λ run known.
    let view : ConsumerValue = record { taken = c.self.inside.taken; found = c.self.inside.found; read = c.self.inside.read } in
    ap₂ fault_seen (sym (le-ltb view.found c.args.count c.if-self-count.false)) (sym (sym c.all_read.ensures ∙ c.if-all_read.false))
    ∙ fault_known run view (subst (ConsumerKnows run) (sym c.self.view_is) known) c.self.invariant.places c.args.count c.requires.most
