use Rattle.std.proofs.Common.{◌≡◌, true, cond, List, Option, Some, subst, sym, ap, ◌∙◌, set, AllPairs, ℕ, ◌++◌, Bool, is_ok}
use Rattle.guest_commands.specs.Mappings.{Mapping, detached}
use Rattle.guest_commands.specs.Laws.{AreSeparate}
use Rattle.guest_table.specs.Tables.{Table, IsPlace, table_of, guest_of, detached_in, changed, hosts_of}
use Rattle.guest_table.proofs.PlaceLemmas.{change_at}
use Rattle.guest_table.proofs.SeparateLemmas.{without_stream}
use Rattle.guest_table.proofs.table.GuestTable.detach.Goals as goal

pub invariant_of-self-2 : goal.invariant_of-self-2
invariant_of-self-2 c =
    let gs = c.self.inside.guests.items in
    let at = c.in-Some.at in
    let guest = c.index_mut-guest.result.now in
    let place : IsPlace gs c.args.vmid at = subst (λ (gs : List Mapping). IsPlace gs c.args.vmid c.in-Some.at) c.deref.ensures.value c.in-Some.ensures in
    record {
      separate = subst (λ (g : Mapping). AllPairs AreSeparate (set gs at g)) (sym (c.detach.ensures ∙ ap (λ (g : Mapping). detached g c.args.sid) c.index_mut-guest.ensures.value))
          (without_stream gs at guest c.args.sid c.self.invariant.separate place.in_range);
    }

pub returns-clause-ok : goal.returns-clause-ok
returns-clause-ok c =
    let gs = c.self.inside.guests.items in
    let at = c.in-Some.at in
    let guest = c.index_mut-guest.result.now in
    let place : IsPlace gs c.args.vmid at = subst (λ (gs : List Mapping). IsPlace gs c.args.vmid c.in-Some.at) c.deref.ensures.value c.in-Some.ensures in
    let after = λ (gs : List Mapping) (streams : List ℕ). table_of c.self.inside.smmu gs streams c.self.inside.leaving_vmids.items in
    let found : guest_of (after gs c.self.inside.leaving_streams.items) c.args.vmid ≡ Some guest = place.found guest ∙ ap Some (sym c.index_mut-guest.ensures.value) in
    let done : is_ok c.extend_from_slice.result ≡ true = c.if-is_err.ensures.negation in
    let streams : c.extend_from_slice.new.self.items ≡ c.self.inside.leaving_streams.items ++ hosts_of (guest_of (after gs c.self.inside.leaving_streams.items) c.args.vmid) c.args.sid =
    c.extend_from_slice.ensures.items ∙ ap (λ (b : Bool). cond b (c.self.inside.leaving_streams.items ++ c.deref-2.result.now) c.self.inside.leaving_streams.items) done
    ∙ ap (λ (xs : List ℕ). c.self.inside.leaving_streams.items ++ xs) (c.deref-2.ensures.value ∙ c.in-Ok.ensures ∙ ap (λ (o : Option Mapping). hosts_of o c.args.sid) (sym found)) in
    ap (λ (g : Mapping). after (set gs at g) c.extend_from_slice.new.self.items) (c.detach.ensures ∙ ap (λ (g : Mapping). detached g c.args.sid) c.index_mut-guest.ensures.value)
    ∙ ap (λ (gs : List Mapping). after gs c.extend_from_slice.new.self.items)
    (change_at (λ g. detached g c.args.sid) gs c.args.vmid at guest c.self.invariant.separate place.in_range (place.vmid_there guest))
    ∙ ap (λ (xs : List ℕ). after (changed gs c.args.vmid (λ g. detached g c.args.sid)) xs) streams
    ∙ ap (λ (t : Table). detached_in t c.args.vmid c.args.sid) c.self.view_is
