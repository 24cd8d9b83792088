use Rattle.std.proofs.Common.{◌≡◌, ◌==◌, not, ap, ◌∙◌, ℕ, List, rules}
use Rattle.std.specs.List.{filter}
use Rattle.std.proofs.lemmas.Fn.{filter_same}
use Rattle.guest_table.specs.Tables.{Table, table_of, freed}
use Rattle.guest_table.proofs.table.GuestTable.release_vmid.Goals as goal

pub returns : goal.returns
returns c =
    let left : c.retain.new.self.items ≡ filter (λ other. not (other == c.args.vmid)) c.self.inside.leaving_vmids.items = filter_same _ _ _ (λ x b f' k. search rules) _ _ c.retain.ensures.filtered in
    ap (λ (vmids : List ℕ). table_of c.self.inside.smmu c.self.inside.guests.items c.self.inside.leaving_streams.items vmids) left
    ∙ ap (λ (t : Table). freed t c.args.vmid) c.self.view_is
