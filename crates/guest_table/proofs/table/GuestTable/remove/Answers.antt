use Rattle.std.proofs.Common.{◌≡◌, ◌==◌, true, cond, not, List, [], ◌∷◌, subst, sym, ap, ◌∙◌, AllPairs, ℕ, ◌++◌, Bool, is_ok, rules}
use Rattle.std.specs.List.{filter}
use Rattle.std.proofs.lemmas.Fn.{filter_same}
use Rattle.std.proofs.lemmas.List.Kept.{AllPairs-filter}
use Rattle.guest_commands.specs.Mappings.{Mapping}
use Rattle.guest_commands.specs.Laws.{AreSeparate}
use Rattle.guest_table.specs.Tables.{Table, table_of, removed}
use Rattle.guest_table.proofs.table.GuestTable.remove.Goals as goal

pub invariant_of-self-2 : goal.invariant_of-self-2
invariant_of-self-2 c =
    let left : c.retain.new.self.items ≡ filter (λ guest. not (guest.vmid == c.args.vmid)) c.self.inside.guests.items = filter_same _ _ _ (λ x b f' k. search rules) _ _ c.retain.ensures.filtered in
    record {
      separate = subst (λ (gs : List Mapping). AllPairs AreSeparate gs) (sym left)
          (AllPairs-filter AreSeparate (λ guest. not (guest.vmid == c.args.vmid)) c.self.inside.guests.items c.self.invariant.separate);
    }

pub returns-clause-ok : goal.returns-clause-ok
returns-clause-ok c =
    let left : c.retain.new.self.items ≡ filter (λ guest. not (guest.vmid == c.args.vmid)) c.self.inside.guests.items = filter_same _ _ _ (λ x b f' k. search rules) _ _ c.retain.ensures.filtered in
    let done : is_ok c.push.result ≡ true = c.if-is_err.ensures.negation in
    let after = λ (gs : List Mapping) (vmids : List ℕ). table_of c.self.inside.smmu gs c.self.inside.leaving_streams.items vmids in
    ap (λ (gs : List Mapping). after gs c.push.new.self.items) left
    ∙ ap (λ (vmids : List ℕ). after (filter (λ guest. not (guest.vmid == c.args.vmid)) c.self.inside.guests.items) vmids)
    (c.push.ensures.items ∙ ap (λ (b : Bool). cond b (c.self.inside.leaving_vmids.items ++ c.args.vmid ∷ []) c.self.inside.leaving_vmids.items) done)
    ∙ ap (λ (t : Table). removed t c.args.vmid) c.self.view_is
