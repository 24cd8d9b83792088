use Rattle.std.proofs.Common.{length, sym, ◌∙◌, ap, rules}
use Rattle.guest_commands.specs.Mappings.{Mapping, is_used, attached_to}
use Rattle.guest_commands.proofs.MappingLemmas.{if_attached}
use Rattle.guest_commands.proofs.guest.Guest.attach.Goals as goal

pub invariant_of-self : goal.invariant_of-self
invariant_of-self c =
    let m : Mapping = record { vmid = c.self.inside.vmid; smmu = c.self.inside.smmu; streams = c.self.inside.streams.items } in
    let unused = ap (λ (m : Mapping). is_used m c.args.host.sid) c.self.view_is ∙ sym c.is_used.ensures ∙ c.if-is_used.false in
    let count = ap (λ (m : Mapping). length (attached_to m.streams c.args.sid)) c.self.view_is ∙ sym c.count.ensures in
    rw c.push.ensures.items
    (if_attached m _ c.args.sid c.args.host c.self.invariant (search rules) unused (λ full. c.if-count-eq-MOST_BODY_COMMANDS.false (sym count ∙ full)))
