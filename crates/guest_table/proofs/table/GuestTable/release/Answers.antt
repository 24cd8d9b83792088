use Rattle.std.proofs.Common.{◌≡◌, ◌==◌, not, ap, ◌∙◌, ℕ, List, rules}
use Rattle.std.specs.List.{filter}
use Rattle.std.proofs.lemmas.Fn.{filter_same}
use Rattle.guest_table.specs.Tables.{Table, table_of, released}
use Rattle.guest_table.proofs.table.GuestTable.release.Goals as goal

pub returns : goal.returns
returns c =
    let left : c.retain.new.self.items ≡ filter (λ other. not (other == c.args.detached.stream.sid)) c.self.inside.leaving_streams.items = filter_same _ _ _ (λ x b f' k. search rules) _ _ c.retain.ensures.filtered in
    ap (λ (streams : List ℕ). table_of c.self.inside.smmu c.self.inside.guests.items streams c.self.inside.leaving_vmids.items) left
    ∙ ap (λ (t : Table). released t c.args.detached.stream.sid) c.self.view_is
