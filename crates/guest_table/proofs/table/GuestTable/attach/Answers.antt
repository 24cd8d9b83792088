use Rattle.std.proofs.Common.{◌≡◌, ◌==◌, true, false, List, Some, subst, sym, ap, ◌∙◌, get_or, set, AllPairs, OnOk, ℕ, IfSome, Err}
use Rattle.std.specs.List.{list_any}
use Rattle.guest_commands.specs.Mappings as mappings
use Rattle.guest_commands.specs.Mappings.{Mapping, attached, is_used, without_streams}
use Rattle.guest_commands.specs.Laws.{AreSeparate}
use Rattle.guest_table.specs.declared.fault.TableFault.TheVariants.{Leaving, Used, NoMemory}
use Rattle.guest_table.specs.Tables.{Table, IsPlace, table_of, is_leaving, is_used_in, attached_in}
use Rattle.guest_table.specs.Faults.{refusal}
use Rattle.guest_table.proofs.PlaceLemmas.{change_at}
use Rattle.guest_table.proofs.SeparateLemmas.{with_stream, as_it_was}
use Rattle.guest_table.proofs.FaultLemmas.{leaving_fault, used_fault, guests_fault, told, not_memory, told_of_guest, on_ok, either}
use Rattle.guest_table.proofs.table.GuestTable.attach.Goals as goal

pub returns-then-is_leaving-clause-fault : goal.returns-then-is_leaving-clause-fault
returns-then-is_leaving-clause-fault c =
    let place : IsPlace c.self.inside.guests.items c.args.vmid c.in-Some.at = subst (λ (gs : List Mapping). IsPlace gs c.args.vmid c.in-Some.at) c.deref.ensures.value c.in-Some.ensures in
    let t = table_of c.self.inside.smmu c.self.inside.guests.items c.self.inside.leaving_streams.items c.self.inside.leaving_vmids.items in
    let left : is_leaving t c.args.host.sid ≡ true = ap (λ (xs : List ℕ). list_any (λ other. other == c.args.host.sid) xs) (sym c.deref-2.ensures.value) ∙ sym c.if-is_leaving.ensures in
    let guest = without_streams c.args.vmid c.self.inside.smmu in
    told (refusal c.args.self.now c.args.vmid c.args.sid c.args.host.sid) Leaving
    (ap (λ (t : Table). refusal t c.args.vmid c.args.sid c.args.host.sid) (sym c.self.view_is)
    ∙ leaving_fault t c.args.vmid c.args.sid c.args.host.sid (get_or c.self.inside.guests.items c.in-Some.at guest) (place.found guest) left)

pub returns-then-is_leaving-clause-memory : goal.returns-then-is_leaving-clause-memory
returns-then-is_leaving-clause-memory c =
    let place : IsPlace c.self.inside.guests.items c.args.vmid c.in-Some.at = subst (λ (gs : List Mapping). IsPlace gs c.args.vmid c.in-Some.at) c.deref.ensures.value c.in-Some.ensures in
    let t = table_of c.self.inside.smmu c.self.inside.guests.items c.self.inside.leaving_streams.items c.self.inside.leaving_vmids.items in
    let left : is_leaving t c.args.host.sid ≡ true = ap (λ (xs : List ℕ). list_any (λ other. other == c.args.host.sid) xs) (sym c.deref-2.ensures.value) ∙ sym c.if-is_leaving.ensures in
    let guest = without_streams c.args.vmid c.self.inside.smmu in
    not_memory (refusal c.args.self.now c.args.vmid c.args.sid c.args.host.sid) Leaving (Leaving ≡ NoMemory)
    (ap (λ (t : Table). refusal t c.args.vmid c.args.sid c.args.host.sid) (sym c.self.view_is)
    ∙ leaving_fault t c.args.vmid c.args.sid c.args.host.sid (get_or c.self.inside.guests.items c.in-Some.at guest) (place.found guest) left)

pub returns-then-is_used-clause-fault : goal.returns-then-is_used-clause-fault
returns-then-is_used-clause-fault c =
    let place : IsPlace c.self.inside.guests.items c.args.vmid c.in-Some.at = subst (λ (gs : List Mapping). IsPlace gs c.args.vmid c.in-Some.at) c.deref.ensures.value c.in-Some.ensures in
    let t = table_of c.self.inside.smmu c.self.inside.guests.items c.self.inside.leaving_streams.items c.self.inside.leaving_vmids.items in
    let left : is_leaving t c.args.host.sid ≡ false = ap (λ (xs : List ℕ). list_any (λ other. other == c.args.host.sid) xs) (sym c.deref-2.ensures.value) ∙ sym c.if-is_leaving.ensures in
    let taken : is_used_in t c.args.host.sid ≡ true = ap (λ (gs : List Mapping). list_any (λ guest. is_used guest c.args.host.sid) gs) (sym c.deref-3.ensures.value) ∙ sym c.if-is_used.ensures in
    let guest = without_streams c.args.vmid c.self.inside.smmu in
    told (refusal c.args.self.now c.args.vmid c.args.sid c.args.host.sid) Used
    (ap (λ (t : Table). refusal t c.args.vmid c.args.sid c.args.host.sid) (sym c.self.view_is)
    ∙ used_fault t c.args.vmid c.args.sid c.args.host.sid (get_or c.self.inside.guests.items c.in-Some.at guest) (place.found guest) left taken)

pub returns-then-is_used-clause-memory : goal.returns-then-is_used-clause-memory
returns-then-is_used-clause-memory c =
    let place : IsPlace c.self.inside.guests.items c.args.vmid c.in-Some.at = subst (λ (gs : List Mapping). IsPlace gs c.args.vmid c.in-Some.at) c.deref.ensures.value c.in-Some.ensures in
    let t = table_of c.self.inside.smmu c.self.inside.guests.items c.self.inside.leaving_streams.items c.self.inside.leaving_vmids.items in
    let left : is_leaving t c.args.host.sid ≡ false = ap (λ (xs : List ℕ). list_any (λ other. other == c.args.host.sid) xs) (sym c.deref-2.ensures.value) ∙ sym c.if-is_leaving.ensures in
    let taken : is_used_in t c.args.host.sid ≡ true = ap (λ (gs : List Mapping). list_any (λ guest. is_used guest c.args.host.sid) gs) (sym c.deref-3.ensures.value) ∙ sym c.if-is_used.ensures in
    let guest = without_streams c.args.vmid c.self.inside.smmu in
    not_memory (refusal c.args.self.now c.args.vmid c.args.sid c.args.host.sid) Used (Used ≡ NoMemory)
    (ap (λ (t : Table). refusal t c.args.vmid c.args.sid c.args.host.sid) (sym c.self.view_is)
    ∙ used_fault t c.args.vmid c.args.sid c.args.host.sid (get_or c.self.inside.guests.items c.in-Some.at guest) (place.found guest) left taken)

pub invariant_of-self : goal.invariant_of-self
invariant_of-self c =
    let gs = c.self.inside.guests.items in
    let at = c.in-Some.at in
    let guest = c.index_mut-guest.result.now in
    let place : IsPlace gs c.args.vmid at = subst (λ (gs : List Mapping). IsPlace gs c.args.vmid c.in-Some.at) c.deref.ensures.value c.in-Some.ensures in
    let taken : list_any (λ guest. is_used guest c.args.host.sid) gs ≡ false =
    ap (λ (gs : List Mapping). list_any (λ guest. is_used guest c.args.host.sid) gs) (sym c.deref-3.ensures.value) ∙ sym c.if-is_used.ensures in
    record {
      separate = either c.attach.result (c.attach.new.self ≡ attached guest c.args.sid c.args.host) (c.attach.new.self ≡ guest) (AllPairs AreSeparate (set gs at c.attach.new.self))
          (λ new. subst (λ (g : Mapping). AllPairs AreSeparate (set gs at g)) (sym (new ∙ ap (λ (g : Mapping). attached g c.args.sid c.args.host) c.index_mut-guest.ensures.value))
          (with_stream gs at guest c.args.sid c.args.host c.self.invariant.separate place.in_range taken))
          (λ new. subst (λ (g : Mapping). AllPairs AreSeparate (set gs at g)) (sym (new ∙ c.index_mut-guest.ensures.value)) (as_it_was gs at guest c.self.invariant.separate))
          c.attach.ensures.ok c.attach.ensures.err;
    }

pub returns-clause-ok : goal.returns-clause-ok
returns-clause-ok c =
    let gs = c.self.inside.guests.items in
    let at = c.in-Some.at in
    let guest = c.index_mut-guest.result.now in
    let place : IsPlace gs c.args.vmid at = subst (λ (gs : List Mapping). IsPlace gs c.args.vmid c.in-Some.at) c.deref.ensures.value c.in-Some.ensures in
    let after = λ (gs : List Mapping). table_of c.self.inside.smmu gs c.self.inside.leaving_streams.items c.self.inside.leaving_vmids.items in
    let P : Type 0 = after (set gs at c.attach.new.self) ≡ attached_in c.args.self.now c.args.vmid c.args.sid c.args.host in
    subst (λ r. OnOk r P) (sym c.answer.ensures)
    (on_ok c.attach.result (c.attach.new.self ≡ attached guest c.args.sid c.args.host) P
    (λ new. ap (λ (g : Mapping). after (set gs at g)) (new ∙ ap (λ (g : Mapping). attached g c.args.sid c.args.host) c.index_mut-guest.ensures.value)
    ∙ ap after (change_at (λ g. attached g c.args.sid c.args.host) gs c.args.vmid at guest c.self.invariant.separate place.in_range (place.vmid_there guest))
    ∙ ap (λ (t : Table). attached_in t c.args.vmid c.args.sid c.args.host) c.self.view_is)
    c.attach.ensures.ok)

pub returns-clause-fault : goal.returns-clause-fault
returns-clause-fault c =
    let guest = c.index_mut-guest.result.now in
    let place : IsPlace c.self.inside.guests.items c.args.vmid c.in-Some.at = subst (λ (gs : List Mapping). IsPlace gs c.args.vmid c.in-Some.at) c.deref.ensures.value c.in-Some.ensures in
    let t = table_of c.self.inside.smmu c.self.inside.guests.items c.self.inside.leaving_streams.items c.self.inside.leaving_vmids.items in
    let left : is_leaving t c.args.host.sid ≡ false = ap (λ (xs : List ℕ). list_any (λ other. other == c.args.host.sid) xs) (sym c.deref-2.ensures.value) ∙ sym c.if-is_leaving.ensures in
    let taken : is_used_in t c.args.host.sid ≡ false = ap (λ (gs : List Mapping). list_any (λ guest. is_used guest c.args.host.sid) gs) (sym c.deref-3.ensures.value) ∙ sym c.if-is_used.ensures in
    let e = ap (λ (t : Table). refusal t c.args.vmid c.args.sid c.args.host.sid) (sym c.self.view_is)
    ∙ guests_fault t c.args.vmid c.args.sid c.args.host.sid guest (place.found guest ∙ ap Some (sym c.index_mut-guest.ensures.value)) left taken in
    subst (λ r. IfSome (refusal c.args.self.now c.args.vmid c.args.sid c.args.host.sid) (λ fault. r ≡ Err fault)) (sym c.answer.ensures)
    (told_of_guest (refusal c.args.self.now c.args.vmid c.args.sid c.args.host.sid) (mappings.refusal guest c.args.sid c.args.host.sid) c.attach.result e c.attach.ensures.fault)
