use Rattle.std.proofs.Common.{◌≡◌, ◌==◌, not, ap, ◌∙◌, List, rules}
use Rattle.std.specs.List.{filter}
use Rattle.std.proofs.lemmas.Fn.{filter_same}
use Rattle.guest_commands.specs.declared.streams.Attachment.{Attachment}
use Rattle.guest_commands.specs.Mappings.{Mapping, detached}
use Rattle.guest_commands.proofs.MappingLemmas.{without_stream}
use Rattle.guest_commands.proofs.guest.Guest.detach.Goals as goal

pub invariant_of-self : goal.invariant_of-self
invariant_of-self c =
    let m : Mapping = record { vmid = c.self.inside.vmid; smmu = c.self.inside.smmu; streams = c.self.inside.streams.items } in
    let left : c.retain.new.self.items ≡ filter (λ stream. not (stream.sid == c.args.sid)) m.streams = filter_same _ _ _ (λ x b f' k. search rules) _ _ c.retain.ensures.filtered in
    rw left (without_stream m c.args.sid c.self.invariant)

pub returns : goal.returns
returns c =
    let left : c.retain.new.self.items ≡ filter (λ stream. not (stream.sid == c.args.sid)) c.self.inside.streams.items = filter_same _ _ _ (λ x b f' k. search rules) _ _ c.retain.ensures.filtered in
    ap (λ (streams : List Attachment). record { vmid = c.self.inside.vmid; smmu = c.self.inside.smmu; streams = streams }) left ∙ ap (λ (m : Mapping). detached m c.args.sid) c.self.view_is
