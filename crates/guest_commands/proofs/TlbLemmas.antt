-- The host's TLB invalidations cover the guest's translations alone, and all of them that the guest's do.
use Rattle.std.proofs.Common.{◌≡◌, ℕ, ◌^◌, ◌==◌, ◌&&◌, Bool, true, false, cond, inl, inr, Option, Some, None, refl, sym, subst}
use Rattle.std.proofs.lemmas.Bool.{and_from, and_parts, eqb-true, eq-eqb}
use Rattle.cmdcodec.specs.declared.command.Command.{Command}
use Rattle.cmdcodec.specs.declared.command.Command.TheVariants.{TlbiNhAll, TlbiNhAsid, TlbiNhVa, TlbiNhVaa, TlbiNsnhAll}
use Rattle.cmdcodec.specs.declared.reach.Reach.{Reach}
use Rattle.cmdcodec.specs.PageRuns.{run_from}
use Rattle.caches.specs.declared.tag.Tag.{Tag}
use Rattle.caches.specs.declared.tag.Tag.TheVariants.{S1, S2}
use Rattle.caches.specs.declared.tag.Scope.{Scope}
use Rattle.caches.specs.Blocks.{meets, block}
use Rattle.caches.specs.Covers.{covers, is_of, reaches}
use Rattle.range_hints.specs.declared.ttl.Ttl.{Ttl}
use Rattle.range_hints.specs.declared.ttl.Ttl.TheVariants.{AnyLevel}
use Rattle.range_hints.specs.Hints.{kept_ttl}
use Rattle.guest_commands.specs.Limits.{has_vmid, has_asid}
use Rattle.guest_commands.specs.Mappings.{Mapping}
use Rattle.guest_commands.specs.HostCommands.{host_reach, all_of, by_asid, by_va, by_vaa, own_tlb_command, tlb_command}
use Rattle.guest_commands.specs.Entries.{IsImage, IsOfGuest}
use Rattle.guest_commands.specs.Theorems.{Has, IsNarrowedAlike}
use Rattle.guest_commands.proofs.ReachLemmas.{IsNear, IsGoodReach, good_reach, meets_more}

-- What is proved of the host's command for a command of the guest, with their hints.
pub record IsGood (m : Mapping) (command : Command) (ttl : Ttl) (host : Command × Ttl) : Type 0 where
  pub isolated : (tag : Tag) → covers host.0 tag ≡ true → IsOfGuest m tag
  pub had : Has m.smmu host.1 host.0
  pub narrowed : IsNarrowedAlike command ttl host.0 host.1
  pub complete : (tag image : Tag) → covers command tag ≡ true → IsImage m tag image → covers host.0 image ≡ true
  pub kept : kept_ttl host.0 host.1 ≡ host.1

-- The host has what a TLB invalidation of the guest needs.
record Serves (m : Mapping) : Type 0 where
  stage : m.smmu.stage_1 ≡ true
  machine : has_vmid m.smmu m.vmid ≡ true

self : (n : ℕ) → (n == n) ≡ true
self n = eq-eqb n n refl

-- ---- all of them

abbrev IsS1 : Tag → Type 0
IsS1 (S1 v o p n) = Unit {0}
IsS1 other = ⊥

abbrev IsOfStage1 : Command → Type 0
IsOfStage1 command = (tag : Tag) → covers command tag ≡ true → IsS1 tag

all_isolated : (m : Mapping) (tag : Tag) → covers (TlbiNhAll m.vmid) tag ≡ true → IsOfGuest m tag
all_isolated m (S1 v o p n) e = eqb-true v m.vmid e
all_isolated m other e = cc

all_covers : (m : Mapping) (tag image : Tag) → IsS1 tag → IsImage m tag image → covers (TlbiNhAll m.vmid) image ≡ true
all_covers m (S1 v o p n) image of (stage, is) = subst (λ t. covers (TlbiNhAll m.vmid) t ≡ true) (sym is) (self m.vmid)
all_covers m other image of is = absurd of

good_all : (m : Mapping) (command : Command) (ttl : Ttl) → Serves m → IsOfStage1 command → IsGood m command ttl (all_of m)
good_all m command ttl serves of = record {
  isolated = all_isolated m;
  had = (serves.stage, serves.machine);
  narrowed = record { leaf = inr refl; level = inl refl };
  complete = λ tag image e is. all_covers m tag image (of tag e) is;
  kept = refl;
}

of_all : (vmid : ℕ) → IsOfStage1 (TlbiNhAll vmid)
of_all vmid (S1 v o p n) e = tt
of_all vmid other e = cc

of_asid : (vmid asid : ℕ) → IsOfStage1 (TlbiNhAsid vmid asid)
of_asid vmid asid (S1 v o p n) e = tt
of_asid vmid asid other e = cc

of_va : (vmid asid : ℕ) (leaf : Bool) (page : ℕ) (reach : Reach) → IsOfStage1 (TlbiNhVa vmid asid leaf page reach)
of_va vmid asid leaf page reach (S1 v o p n) e = tt
of_va vmid asid leaf page reach other e = cc

of_vaa : (vmid : ℕ) (leaf : Bool) (page : ℕ) (reach : Reach) → IsOfStage1 (TlbiNhVaa vmid leaf page reach)
of_vaa vmid leaf page reach (S1 v o p n) e = tt
of_vaa vmid leaf page reach other e = cc

-- ---- NSNH_ALL covers stage 2, too, of which the guest has none

good_nsnh : (m : Mapping) (ttl : Ttl) → Serves m → IsGood m TlbiNsnhAll ttl (all_of m)
good_nsnh m ttl serves = record {
  isolated = all_isolated m;
  had = (serves.stage, serves.machine);
  narrowed = record { leaf = inr refl; level = inl refl };
  complete = covered;
  kept = refl;
}
  where
    covered : (tag image : Tag) → covers TlbiNsnhAll tag ≡ true → IsImage m tag image → covers (TlbiNhAll m.vmid) image ≡ true
    covered (S1 v o p n) image e is = all_covers m (S1 v o p n) image tt is
    covered (S2 v p n) image e is = absurd is
    covered other image e is = cc

-- ---- those of an address space

own_s1 : (m : Mapping) (vmid : ℕ) (rest : Bool) → (vmid == m.vmid && rest) ≡ true → vmid ≡ m.vmid
own_s1 m vmid rest e = eqb-true vmid m.vmid (and_parts (vmid == m.vmid) rest e).0

asid_isolated : (m : Mapping) (asid : ℕ) (tag : Tag) → covers (TlbiNhAsid m.vmid asid) tag ≡ true → IsOfGuest m tag
asid_isolated m asid (S1 v o p n) e = own_s1 m v (is_of asid o) e
asid_isolated m asid other e = cc

asid_covers : (m : Mapping) (vmid asid : ℕ) (tag image : Tag) → covers (TlbiNhAsid vmid asid) tag ≡ true → IsImage m tag image → covers (TlbiNhAsid m.vmid asid) image ≡ true
asid_covers m vmid asid (S1 v o p n) image e (stage, is) =
    subst (λ t. covers (TlbiNhAsid m.vmid asid) t ≡ true) (sym is) (and_from _ _ (self m.vmid) (and_parts (v == vmid) (is_of asid o) e).1)
asid_covers m vmid asid other image e is = cc

good_asid : (m : Mapping) (vmid asid : ℕ) (ttl : Ttl) (b : Bool) → has_asid m.smmu asid ≡ b → Serves m
    → IsGood m (TlbiNhAsid vmid asid) ttl (cond b (TlbiNhAsid m.vmid asid) (TlbiNhAll m.vmid), AnyLevel)
good_asid m vmid asid ttl true e serves = record {
  isolated = asid_isolated m asid;
  had = (serves.stage, serves.machine, e);
  narrowed = record { leaf = inr refl; level = inl refl };
  complete = asid_covers m vmid asid;
  kept = refl;
}
good_asid m vmid asid ttl false e serves = good_all m (TlbiNhAsid vmid asid) ttl serves (of_asid vmid asid)

-- ---- by address in all address spaces

vaa_isolated : (m : Mapping) (leaf : Bool) (page : ℕ) (reach : Reach) (tag : Tag) → covers (TlbiNhVaa m.vmid leaf page reach) tag ≡ true → IsOfGuest m tag
vaa_isolated m leaf page reach (S1 v o p n) e = own_s1 m v _ e
vaa_isolated m leaf page reach other e = cc

-- The image of a stage 1 entry whose pages are met.
vaa_covers_s1 : (m : Mapping) (leaf : Bool) (page : ℕ) (reach to : Reach) (o : Scope) (p n : ℕ) (image : Tag) → IsNear page reach to
    → meets (block p n) (run_from page reach (2 ^ 52)) ≡ true → image ≡ S1 m.vmid o p n → covers (TlbiNhVaa m.vmid leaf page to) image ≡ true
vaa_covers_s1 m leaf page reach to o p n image near met is =
    subst (λ t. covers (TlbiNhVaa m.vmid leaf page to) t ≡ true) (sym is) (and_from _ _ (self m.vmid) (meets_more (block p n) _ _ near met))

vaa_covers : (m : Mapping) (vmid : ℕ) (leaf : Bool) (page : ℕ) (reach to : Reach) → IsNear page reach to → (tag image : Tag) → covers (TlbiNhVaa vmid leaf page reach) tag ≡ true
    → IsImage m tag image → covers (TlbiNhVaa m.vmid leaf page to) image ≡ true
vaa_covers m vmid leaf page reach to near (S1 v o p n) image e (stage, is) = vaa_covers_s1 m leaf page reach to o p n image near (and_parts (v == vmid) _ e).1 is
vaa_covers m vmid leaf page reach to near other image e is = cc

good_vaa : (m : Mapping) (vmid : ℕ) (leaf : Bool) (page : ℕ) (reach : Reach) (ttl : Ttl) (to : Option (Reach × Ttl)) → host_reach m.smmu reach ttl ≡ to → Serves m
    → IsGood m (TlbiNhVaa vmid leaf page reach) ttl (by_vaa m leaf page to)
good_vaa m vmid leaf page reach ttl None e serves = good_all m (TlbiNhVaa vmid leaf page reach) ttl serves (of_vaa vmid leaf page reach)
good_vaa m vmid leaf page reach ttl (Some (to, hint)) e serves =
    let good = good_reach m.smmu page reach ttl (to, hint) e in
    record {
      isolated = vaa_isolated m leaf page to;
      had = (serves.stage, serves.machine, good.had);
      narrowed = record { leaf = inl refl; level = good.kept };
      complete = vaa_covers m vmid leaf page reach to good.near;
      kept = refl;
    }

-- ---- by address in one

va_isolated : (m : Mapping) (asid : ℕ) (leaf : Bool) (page : ℕ) (reach : Reach) (tag : Tag) → covers (TlbiNhVa m.vmid asid leaf page reach) tag ≡ true → IsOfGuest m tag
va_isolated m asid leaf page reach (S1 v o p n) e = own_s1 m v _ e
va_isolated m asid leaf page reach other e = cc

va_parts : (vmid asid : ℕ) (page : ℕ) (reach : Reach) (v : ℕ) (o : Scope) (p n : ℕ) → (v == vmid && (reaches asid o && meets (block p n) (run_from page reach (2 ^ 52)))) ≡ true
    → (reaches asid o ≡ true) × (meets (block p n) (run_from page reach (2 ^ 52)) ≡ true)
va_parts vmid asid page reach v o p n e = and_parts (reaches asid o) _ (and_parts (v == vmid) _ e).1

va_covers : (m : Mapping) (vmid asid : ℕ) (leaf : Bool) (page : ℕ) (reach to : Reach) → IsNear page reach to → (tag image : Tag) → covers (TlbiNhVa vmid asid leaf page reach) tag ≡ true
    → IsImage m tag image → covers (TlbiNhVa m.vmid asid leaf page to) image ≡ true
va_covers m vmid asid leaf page reach to near (S1 v o p n) image e (stage, is) =
    let both = va_parts vmid asid page reach v o p n e in
    subst (λ t. covers (TlbiNhVa m.vmid asid leaf page to) t ≡ true) (sym is)
    (and_from _ _ (self m.vmid) (and_from _ _ both.0 (meets_more (block p n) _ _ near both.1)))
va_covers m vmid asid leaf page reach to near other image e is = cc

va_by_vaa : (m : Mapping) (vmid asid : ℕ) (leaf : Bool) (page : ℕ) (reach to : Reach) → IsNear page reach to → (tag image : Tag) → covers (TlbiNhVa vmid asid leaf page reach) tag ≡ true
    → IsImage m tag image → covers (TlbiNhVaa m.vmid leaf page to) image ≡ true
va_by_vaa m vmid asid leaf page reach to near (S1 v o p n) image e (stage, is) =
    vaa_covers_s1 m leaf page reach to o p n image near (va_parts vmid asid page reach v o p n e).1 is
va_by_vaa m vmid asid leaf page reach to near other image e is = cc

good_va_at : (m : Mapping) (vmid asid : ℕ) (leaf : Bool) (page : ℕ) (reach : Reach) (ttl : Ttl) (to : Reach) (hint : Ttl) (b : Bool) → has_asid m.smmu asid ≡ b
    → IsGoodReach m.smmu page reach ttl (to, hint) → Serves m
    → IsGood m (TlbiNhVa vmid asid leaf page reach) ttl (cond b (TlbiNhVa m.vmid asid leaf page to, hint) (TlbiNhVaa m.vmid leaf page to, hint))
good_va_at m vmid asid leaf page reach ttl to hint true e good serves = record {
  isolated = va_isolated m asid leaf page to;
  had = (serves.stage, serves.machine, e, good.had);
  narrowed = record { leaf = inl refl; level = good.kept };
  complete = va_covers m vmid asid leaf page reach to good.near;
  kept = refl;
}
good_va_at m vmid asid leaf page reach ttl to hint false e good serves = record {
  isolated = vaa_isolated m leaf page to;
  had = (serves.stage, serves.machine, good.had);
  narrowed = record { leaf = inl refl; level = good.kept };
  complete = va_by_vaa m vmid asid leaf page reach to good.near;
  kept = refl;
}

good_va : (m : Mapping) (vmid asid : ℕ) (leaf : Bool) (page : ℕ) (reach : Reach) (ttl : Ttl) (to : Option (Reach × Ttl)) → host_reach m.smmu reach ttl ≡ to → Serves m
    → IsGood m (TlbiNhVa vmid asid leaf page reach) ttl (by_va m asid leaf page to)
good_va m vmid asid leaf page reach ttl None e serves = good_all m (TlbiNhVa vmid asid leaf page reach) ttl serves (of_va vmid asid leaf page reach)
good_va m vmid asid leaf page reach ttl (Some (to, hint)) e serves =
    good_va_at m vmid asid leaf page reach ttl to hint (has_asid m.smmu asid) refl (good_reach m.smmu page reach ttl (to, hint) e) serves

-- ---- each

pair_same : (x y : Command × Ttl) → Some x ≡ Some y → x ≡ y
pair_same x y e = cc

own_good : (m : Mapping) (command : Command) (ttl : Ttl) (host : Command × Ttl) → Serves m → own_tlb_command m command ttl ≡ Some host → IsGood m command ttl host
own_good m (TlbiNhAll vmid) ttl host serves e = subst (IsGood m (TlbiNhAll vmid) ttl) (pair_same (all_of m) host e) (good_all m (TlbiNhAll vmid) ttl serves (of_all vmid))
own_good m TlbiNsnhAll ttl host serves e = subst (IsGood m TlbiNsnhAll ttl) (pair_same (all_of m) host e) (good_nsnh m ttl serves)
own_good m (TlbiNhAsid vmid asid) ttl host serves e =
    subst (IsGood m (TlbiNhAsid vmid asid) ttl) (pair_same (by_asid m asid, AnyLevel) host e) (good_asid m vmid asid ttl (has_asid m.smmu asid) refl serves)
own_good m (TlbiNhVa vmid asid leaf page reach) ttl host serves e =
    subst (IsGood m (TlbiNhVa vmid asid leaf page reach) ttl) (pair_same (by_va m asid leaf page (host_reach m.smmu reach ttl)) host e)
    (good_va m vmid asid leaf page reach ttl (host_reach m.smmu reach ttl) refl serves)
own_good m (TlbiNhVaa vmid leaf page reach) ttl host serves e =
    subst (IsGood m (TlbiNhVaa vmid leaf page reach) ttl) (pair_same (by_vaa m leaf page (host_reach m.smmu reach ttl)) host e)
    (good_vaa m vmid leaf page reach ttl (host_reach m.smmu reach ttl) refl serves)
own_good m other ttl host serves e = cc

tlb_at : (m : Mapping) (command : Command) (ttl : Ttl) (host : Command × Ttl) (b : Bool) → m.smmu.stage_1 ≡ b → has_vmid m.smmu m.vmid ≡ true
    → cond b (own_tlb_command m command ttl) None ≡ Some host → IsGood m command ttl host
tlb_at m command ttl host true stage machine e = own_good m command ttl host (record { stage = stage; machine = machine }) e
tlb_at m command ttl host false stage machine e = cc

pub good_tlb : (m : Mapping) (command : Command) (ttl : Ttl) (host : Command × Ttl) → has_vmid m.smmu m.vmid ≡ true → tlb_command m command ttl ≡ Some host → IsGood m command ttl host
good_tlb m command ttl host machine e = tlb_at m command ttl host m.smmu.stage_1 refl machine e
