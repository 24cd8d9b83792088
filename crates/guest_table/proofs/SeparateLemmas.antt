-- What keeps guests separate.
use Rattle.std.proofs.Common.{zero, suc, ◌≡◌, ◌≢◌, ℕ, ◌<◌, ◌==◌, ◌||◌, nat_lt, nat_eq, not, Bool, true, false, cond, List, [], ◌∷◌, ◌++◌, length, get_or, set, refl, ap, sym, ◌∙◌, subst, arith, AllPairs, inl, inr}
use Rattle.std.specs.Prelude.{Contains}
use Rattle.std.specs.List.{filter, list_any}
use Rattle.std.proofs.lemmas.Bool.{both_ways, eq-eqb, eqb-true, eqb-false, ltb-true, ltb-false}
use Rattle.std.proofs.lemmas.List.{set-get_or, get_or-set_same, get_or-set_other}
use Rattle.std.proofs.lemmas.List.Elements.{All-filter, All-contains, All-contains_itself, Contains-push_cases}
use Rattle.std.proofs.lemmas.List.Folds.{list_any_at}
use Rattle.std.proofs.lemmas.List.Quantifiers.{all_pairs_push}
use Rattle.std.proofs.Math.ListN.{length-set}
use Rattle.smmu_features.specs.declared.smmu.Smmu.{Smmu}
use Rattle.guest_commands.specs.declared.streams.Attachment.{Attachment}
use Rattle.guest_commands.specs.declared.streams.HostStream.{HostStream}
use Rattle.guest_commands.specs.Mappings.{Mapping, without_streams, attached, detached, is_used}
use Rattle.guest_commands.specs.Entries.{IsOwnStream}
use Rattle.guest_commands.specs.Laws.{AreSeparate, EntriesAreOfOneGuest}
use Rattle.guest_table.specs.Tables.{Table, is_free, HaveNoEntryInCommon}
use Rattle.guest_table.proofs.PlaceLemmas.{found_at}

symmetric : (one other : Mapping) → AreSeparate one other → AreSeparate other one
symmetric one other apart = record { machines = λ same. apart.machines (sym same); streams = λ sid here there. apart.streams sid there here }

-- ---- any two places

by_order : (guests : List Mapping) (i k : ℕ) (d : Mapping) (b : Bool) → nat_lt k i ≡ b → AllPairs AreSeparate guests → i < length guests → k < length guests → k ≢ i
    → AreSeparate (get_or guests k d) (get_or guests i d)
by_order guests i k d true less apart small large other = apart k i d (ltb-true k i less) small
by_order guests i k d false less apart small large other =
    let most = ltb-false k i less in symmetric (get_or guests i d) (get_or guests k d) (apart i k d (omega arith) large)

pub apart_at : (guests : List Mapping) (i k : ℕ) (d : Mapping) → AllPairs AreSeparate guests → i < length guests → k < length guests → k ≢ i
    → AreSeparate (get_or guests k d) (get_or guests i d)
apart_at guests i k d = by_order guests i k d (nat_lt k i) refl

-- ---- another guest at one place

got : (guests : List Mapping) (i k : ℕ) (y d : Mapping) (b : Bool) → nat_eq k i ≡ b → i < length guests → get_or (set guests i y) k d ≡ cond b y (get_or guests k d)
got guests i k y d true same small = ap (λ k. get_or (set guests i y) k d) (eqb-true k i same) ∙ get_or-set_same guests i y d small
got guests i k y d false other small = get_or-set_other guests i k y d (eqb-false k i other)

abbrev IsApart : List Mapping → ℕ → Mapping → Type 0
IsApart guests i y = (k : ℕ) (d : Mapping) → k < length guests → k ≢ i → AreSeparate (get_or guests k d) y

pair : (guests : List Mapping) (i : ℕ) (y : Mapping) (m n : ℕ) (d : Mapping) (p q : Bool) → nat_eq m i ≡ p → nat_eq n i ≡ q → AllPairs AreSeparate guests → IsApart guests i y
    → m < n → n < length guests → AreSeparate (cond p y (get_or guests m d)) (cond q y (get_or guests n d))
pair guests i y m n d true true first second apart others less small = let a = eqb-true m i first in let b = eqb-true n i second in absurd (omega arith)
pair guests i y m n d true false first second apart others less small = symmetric (get_or guests n d) y (others n d small (eqb-false n i second))
pair guests i y m n d false true first second apart others less small = others m d (omega arith) (eqb-false m i first)
pair guests i y m n d false false first second apart others less small = apart m n d less small

pub with_another : (guests : List Mapping) (i : ℕ) (y : Mapping) → AllPairs AreSeparate guests → i < length guests → IsApart guests i y → AllPairs AreSeparate (set guests i y)
with_another guests i y apart small others m n d less most =
    let same = length-set guests i y in
    subst (λ (one : Mapping). AreSeparate one (get_or (set guests i y) n d)) (sym (got guests i m y d (nat_eq m i) refl small))
    (subst (λ (other : Mapping). AreSeparate (cond (nat_eq m i) y (get_or guests m d)) other) (sym (got guests i n y d (nat_eq n i) refl small))
    (pair guests i y m n d (nat_eq m i) (nat_eq n i) refl refl apart others less (omega arith)))

-- What stands at a place doesn't depend on what is read behind the last.
same : (guests : List Mapping) (i : ℕ) (d e : Mapping) → i < length guests → get_or guests i d ≡ get_or guests i e
same [] i d e small = absurd (omega arith)
same (guest ∷ guests) zero d e small = refl
same (guest ∷ guests) (suc i) d e small = same guests i d e (omega arith)

-- ---- attach

own_is_used : (guest : Mapping) (host : ℕ) → IsOwnStream guest host → is_used guest host ≡ true
own_is_used guest host (sid, stream, (k, small, at), same) =
    let attachment : Attachment = record { sid = sid; host = stream } in
    list_any_at (λ (stream : Attachment). stream.host.sid == host) guest.streams k attachment small
    (eq-eqb (get_or guest.streams k attachment).host.sid host (ap (λ (a : Attachment). a.host.sid) at ∙ sym same))

attached_apart : (other guest : Mapping) (sid : ℕ) (host : HostStream) → AreSeparate other guest → (is_used other host.sid ≡ true → ⊥) → AreSeparate other (attached guest sid host)
attached_apart other guest sid host apart unused = record {
  machines = apart.machines;
  streams = λ number theirs (own, stream, there, same). elim (Contains-push_cases guest.streams (record { sid = sid; host = host }) (record { sid = own; host = stream }) there) [
    | inl before ↦ apart.streams number theirs (own, stream, before, same)
    | inr new ↦ unused (own_is_used other host.sid (subst (λ n. IsOwnStream other n) (same ∙ sym (ap (λ (a : Attachment). a.host.sid) new)) theirs))
  ];
}

pub with_stream : (guests : List Mapping) (i : ℕ) (d : Mapping) (sid : ℕ) (host : HostStream) → AllPairs AreSeparate guests → i < length guests
    → list_any (λ guest. is_used guest host.sid) guests ≡ false → AllPairs AreSeparate (set guests i (attached (get_or guests i d) sid host))
with_stream guests i d sid host apart small unused =
    with_another guests i (attached (get_or guests i d) sid host) apart small (λ k e less other.
    let there = subst (λ (g : Mapping). AreSeparate (get_or guests k e) g) (same guests i e d small) (apart_at guests i k e apart small less other) in
    attached_apart (get_or guests k e) (get_or guests i d) sid host there
    (λ used. both_ways (list_any (λ guest. is_used guest host.sid) guests) unused (list_any_at (λ guest. is_used guest host.sid) guests k e less used)))

pub as_it_was : (guests : List Mapping) (i : ℕ) (d : Mapping) → AllPairs AreSeparate guests → AllPairs AreSeparate (set guests i (get_or guests i d))
as_it_was guests i d apart = subst (λ (guests : List Mapping). AllPairs AreSeparate guests) (sym (set-get_or guests i d)) apart

-- ---- detach

kept : (p : Attachment → Bool) (streams : List Attachment) (stream : Attachment) → Contains (filter p streams) stream → Contains streams stream
kept p streams stream there =
    All-contains (Contains streams) (filter p streams) stream (All-filter p (Contains streams) streams (All-contains_itself streams)) there

detached_apart : (other guest : Mapping) (sid : ℕ) → AreSeparate other guest → AreSeparate other (detached guest sid)
detached_apart other guest sid apart = record {
  machines = apart.machines;
  streams = λ number theirs (own, stream, there, same). apart.streams number theirs
      (own, stream, kept (λ stream. not (stream.sid == sid)) guest.streams (record { sid = own; host = stream }) there, same);
}

pub without_stream : (guests : List Mapping) (i : ℕ) (d : Mapping) (sid : ℕ) → AllPairs AreSeparate guests → i < length guests
    → AllPairs AreSeparate (set guests i (detached (get_or guests i d) sid))
without_stream guests i d sid apart small =
    with_another guests i (detached (get_or guests i d) sid) apart small (λ k e less other.
    let there = subst (λ (g : Mapping). AreSeparate (get_or guests k e) g) (same guests i e d small) (apart_at guests i k e apart small less other) in
    detached_apart (get_or guests k e) (get_or guests i d) sid there)

-- ---- add

neither : (one other : Bool) → not (one || other) ≡ true → one ≡ false
neither true other h = absurd cc
neither false other h = refl

pub with_guest : (guests : List Mapping) (leaving : List ℕ) (vmid : ℕ) (smmu : Smmu) → AllPairs AreSeparate guests → is_free guests leaving vmid ≡ true
    → AllPairs AreSeparate (guests ++ without_streams vmid smmu ∷ [])
with_guest guests leaving vmid smmu apart free =
    let none = neither (list_any (λ guest. guest.vmid == vmid) guests) (list_any (λ other. other == vmid) leaving) free in
    all_pairs_push AreSeparate guests (without_streams vmid smmu) apart (λ k d small. record {
      machines = λ same. both_ways (list_any (λ guest. guest.vmid == vmid) guests) none (list_any_at (λ guest. guest.vmid == vmid) guests k d small (eq-eqb (get_or guests k d).vmid vmid same));
      streams = λ number theirs (own, stream, (j, less, at), same). absurd (omega (arith, less));
    })

-- ---- entries

pub of_one : (table : Table) → EntriesAreOfOneGuest → AllPairs AreSeparate table.guests → HaveNoEntryInCommon table
of_one table law apart m n one other tag differ first second here there =
    let a = found_at table.guests m one first in
    let b = found_at table.guests n other second in
    let not_same : a.0 ≢ b.0 = λ same. differ (sym a.3 ∙ ap (λ (g : Mapping). g.vmid) (sym (a.2 one) ∙ ap (λ k. get_or table.guests k one) same ∙ b.2 one) ∙ b.3) in
    let both = apart_at table.guests b.0 a.0 one apart b.1 a.1 not_same in
    law one other tag (subst (λ (g : Mapping). AreSeparate g other) (a.2 one) (subst (λ (g : Mapping). AreSeparate (get_or table.guests a.0 one) g) (b.2 one) both)) here there
