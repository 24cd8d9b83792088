use Rattle.std.proofs.Common.{◌≡◌, true, false, List, subst, sym, cond, ◌++◌, ◌∷◌, [], is_ok, AllPairs}
use Rattle.guest_commands.specs.Mappings.{Mapping}
use Rattle.guest_commands.specs.Laws.{AreSeparate}
use Rattle.guest_table.specs.Tables.{is_free}
use Rattle.guest_table.proofs.SeparateLemmas.{with_guest}
use Rattle.guest_table.proofs.table.GuestTable.add.Goals as goal

pub invariant_of-self : goal.invariant_of-self
invariant_of-self c =
    let before = c.self.invariant.separate in
    let first = c.in-Some.ensures in
    let after : AllPairs AreSeparate (c.self.inside.guests.items ++ c.in-Some-new.guest ∷ []) =
    subst (λ (g : Mapping). AllPairs AreSeparate (c.self.inside.guests.items ++ g ∷ [])) (sym c.in-Some-new.ensures.1)
    (with_guest c.self.inside.guests.items c.deref-2.result.now c.in-Some.vmid c.self.inside.smmu before
    (subst (λ (gs : List Mapping). is_free gs c.deref-2.result.now c.in-Some.vmid ≡ true) c.deref.ensures.value first.free)) in
    record { separate = rw c.push.ensures.items (elim (is_ok c.push.result) as (λ b. AllPairs AreSeparate (cond b (c.self.inside.guests.items ++ c.in-Some-new.guest ∷ []) c.self.inside.guests.items)) [ true ↦ after | false ↦ before ]) }
