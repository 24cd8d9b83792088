-- The order of keys: which are equal, and which are in a range.
use Rattle.std.proofs.Common.{◌≡◌, ℕ, ◌+◌, ◌<◌, ◌≤◌, Bool, true, false, not, ◌&&◌, inl, inr, Option, Some, None, refl, sym, ◌∙◌, ap, subst, arith}
use Rattle.std.specs.declared.cmp.Ordering.{Ordering}
use Rattle.std.specs.declared.cmp.Ordering.TheVariants.{Less, Equal, Greater}
use Rattle.std.specs.declared.ops.Bound.TheVariants.{Included, Excluded, Unbounded}
use Rattle.std.specs.Ordering.{nat_cmp, ordering_then, ordering_reverse, is_le, is_lt}
use Rattle.std.specs.Cmp.{IsTotalOrder, ranked, nat_cmp_is, tied_itself}
use Rattle.std.specs.BTreeMap.Range.{range_contains}
use Rattle.std.proofs.lemmas.Bool.{cases_lt}
use Rattle.std.proofs.lemmas.Map.Lookups.{exact_unsigned}
use Rattle.cmdcodec.specs.declared.reach.PageRun.{PageRun}
use Rattle.caches.specs.declared.key.Stage.{Stage}
use Rattle.caches.specs.declared.key.Stage.TheVariants.{Two, One}
use Rattle.caches.specs.declared.key.Key.{Key}
use Rattle.caches.specs.declared.key.Key.TheVariants.{Configuration, Machine, Hypervisor, Endpoint}
use Rattle.caches.specs.declared.key.Owner.{Owner}
use Rattle.caches.specs.declared.key.Owner.TheVariants.{Guest, Host, Device}
use Rattle.caches.specs.Keys.{owner_of, page_of, span_of, least, IsOfStreams}
use Rattle.caches.specs.contracts.key.KeyOrd.TheImpl as key_order
use Rattle.caches.specs.contracts.key.KeyOrd.TheImpl.Laws as key_laws
use Rattle.caches.specs.contracts.key.StageOrd.TheImpl as stage_order
use Rattle.caches.proofs.Sweeping.{left_true, right_true, not_from}

abbrev pub key_cmp : Key → Key → Ordering
key_cmp = key_order.ghosts.cmp

abbrev pub stage_cmp : Stage → Stage → Ordering
stage_cmp = stage_order.ghosts.cmp

pub key_total : IsTotalOrder key_cmp
key_total = key_laws.total-law

-- ---- keys that compare equal are the same
then_equal : (a b : Ordering) → ordering_then a b ≡ Equal → (a ≡ Equal) × (b ≡ Equal)
then_equal Less b e = cc
then_equal Equal b e = (refl, e)
then_equal Greater b e = cc

abbrev pub some_cmp : Option ℕ → Option ℕ → Ordering
some_cmp x y = stage_cmp (One x) (One y)

some_exact : (x y : Option ℕ) → some_cmp x y ≡ Equal → x ≡ y
some_exact None None e = refl
some_exact None (Some y) e = cc
some_exact (Some x) None e = cc
some_exact (Some x) (Some y) e = ap Some (exact_unsigned x y e)

stage_exact : (x y : Stage) → stage_cmp x y ≡ Equal → x ≡ y
stage_exact Two Two e = refl
stage_exact Two (One y) e = cc
stage_exact (One x) Two e = cc
stage_exact (One x) (One y) e = ap One (some_exact x y e)

pub key_exact : (x y : Key) → key_cmp x y ≡ Equal → x ≡ y
key_exact (Configuration s c) (Configuration t d) e =
    let a = then_equal (nat_cmp s t) _ e in
    let v = exact_unsigned s t a.0 in
    let w = some_exact c d a.1 in
    λ i. Configuration (v i) (w i)
key_exact (Machine v p n c) (Machine w q m d) e =
    let a = then_equal (nat_cmp v w) _ e in
    let b = then_equal (nat_cmp p q) _ a.1 in
    let g = then_equal (nat_cmp n m) _ b.1 in
    let h = exact_unsigned v w a.0 in
    let j = exact_unsigned p q b.0 in
    let k = exact_unsigned n m g.0 in
    let l = stage_exact c d g.1 in
    λ i. Machine (h i) (j i) (k i) (l i)
key_exact (Hypervisor p n c) (Hypervisor q m d) e =
    let b = then_equal (nat_cmp p q) _ e in
    let g = then_equal (nat_cmp n m) _ b.1 in
    let j = exact_unsigned p q b.0 in
    let k = exact_unsigned n m g.0 in
    let l = some_exact c d g.1 in
    λ i. Hypervisor (j i) (k i) (l i)
key_exact (Endpoint v p n c) (Endpoint w q m d) e =
    let a = then_equal (nat_cmp v w) _ e in
    let b = then_equal (nat_cmp p q) _ a.1 in
    let g = then_equal (nat_cmp n m) _ b.1 in
    let h = exact_unsigned v w a.0 in
    let j = exact_unsigned p q b.0 in
    let k = exact_unsigned n m g.0 in
    let l = some_exact c d g.1 in
    λ i. Endpoint (h i) (j i) (k i) (l i)
key_exact (Configuration s c) (Machine w q m d) e = let l : Less ≡ Equal = e in cc
key_exact (Configuration s c) (Hypervisor q m d) e = let l : Less ≡ Equal = e in cc
key_exact (Configuration s c) (Endpoint w q m d) e = let l : Less ≡ Equal = e in cc
key_exact (Machine v p n c) (Configuration t d) e = let l : Greater ≡ Equal = e in cc
key_exact (Machine v p n c) (Hypervisor q m d) e = let l : Less ≡ Equal = e in cc
key_exact (Machine v p n c) (Endpoint w q m d) e = let l : Less ≡ Equal = e in cc
key_exact (Hypervisor p n c) (Configuration t d) e = let l : Greater ≡ Equal = e in cc
key_exact (Hypervisor p n c) (Machine w q m d) e = let l : Greater ≡ Equal = e in cc
key_exact (Hypervisor p n c) (Endpoint w q m d) e = let l : Less ≡ Equal = e in cc
key_exact (Endpoint v p n c) (Configuration t d) e = let l : Greater ≡ Equal = e in cc
key_exact (Endpoint v p n c) (Machine w q m d) e = let l : Greater ≡ Equal = e in cc
key_exact (Endpoint v p n c) (Hypervisor q m d) e = let l : Greater ≡ Equal = e in cc

-- ---- numbers compared in turn
pub cmp_less : (a b : ℕ) → a < b → nat_cmp a b ≡ Less
cmp_less a b h = sym (nat_cmp_is a b Less h)

pub cmp_same : (a b : ℕ) → a ≡ b → nat_cmp a b ≡ Equal
cmp_same a b h = sym (nat_cmp_is a b Equal h)

pub cmp_more : (a b : ℕ) → b < a → nat_cmp a b ≡ Greater
cmp_more a b h = sym (nat_cmp_is a b Greater h)

le_then : (a b : ℕ) (o : Ordering) → a ≤ b → is_le o ≡ true → is_le (ordering_then (nat_cmp a b) o) ≡ true
le_then a b o h l =
    elim (nat_cmp a b) as (λ r. r ≡ nat_cmp a b → is_le (ordering_then r o) ≡ true) [
      | Less ↦ λ e. refl
      | Equal ↦ λ e. l
      | Greater ↦ λ e. let f : b < a = ranked a b Greater e in absurd (omega arith)
    ] refl

more_then : (a b : ℕ) (o : Ordering) → b < a → is_le (ordering_then (nat_cmp a b) o) ≡ false
more_then a b o h = ap (λ r. is_le (ordering_then r o)) (cmp_more a b h)

same_then : (a b : ℕ) (o : Ordering) → a ≡ b → is_le o ≡ false → is_le (ordering_then (nat_cmp a b) o) ≡ false
same_then a b o h l = ap (λ r. is_le (ordering_then r o)) (cmp_same a b h) ∙ l

between : (a b : Bool) → a ≡ true → b ≡ false → (a && not b) ≡ true
between true b p q = ap not q
between false b p q = cc

pub le_itself : (k : Key) → is_le (key_cmp k k) ≡ true
le_itself k = ap is_le (tied_itself key_total k)

low : (x : Option ℕ) → is_le (some_cmp None x) ≡ true
low None = refl
low (Some x) = refl

low_stage : (x : Stage) → is_le (stage_cmp Two x) ≡ true
low_stage Two = refl
low_stage (One x) = refl

-- ---- keys in a range
pub in_pages : (w : Owner) (first end : ℕ) (k : Key) → owner_of k ≡ Some w → first ≤ page_of k → page_of k < end → range_contains key_cmp (Included (least w first 0)) (Excluded (least w end 0)) k ≡ true
in_pages w first end (Configuration s c) o a b = cc
in_pages w first end (Machine v p n c) o a b =
    let e : Guest v ≡ w = cc in
    subst (λ w. range_contains key_cmp (Included (least w first 0)) (Excluded (least w end 0)) (Machine v p n c) ≡ true) e
    (between _ _ (le_then v v _ (omega arith) (le_then first p _ a (le_then 0 n _ (omega arith) (low_stage c)))) (same_then v v _ refl (more_then end p _ b)))
in_pages w first end (Hypervisor p n c) o a b =
    let e : Host ≡ w = cc in
    subst (λ w. range_contains key_cmp (Included (least w first 0)) (Excluded (least w end 0)) (Hypervisor p n c) ≡ true) e
    (between _ _ (le_then first p _ a (le_then 0 n _ (omega arith) (low c))) (more_then end p _ b))
in_pages w first end (Endpoint v p n c) o a b =
    let e : Device v ≡ w = cc in
    subst (λ w. range_contains key_cmp (Included (least w first 0)) (Excluded (least w end 0)) (Endpoint v p n c) ≡ true) e
    (between _ _ (le_then v v _ (omega arith) (le_then first p _ a (le_then 0 n _ (omega arith) (low c)))) (same_then v v _ refl (more_then end p _ b)))

pub up_to_page : (w : Owner) (end : ℕ) (k : Key) → owner_of k ≡ Some w → page_of k < end → range_contains key_cmp Unbounded (Excluded (least w end 0)) k ≡ true
up_to_page w end k o b = right_true _ _ (in_pages w 0 end k o (omega arith) b)

pub in_streams : (run : PageRun) (k : Key) → IsOfStreams run k → range_contains key_cmp (Included (Configuration run.first None)) (Excluded (Configuration run.end None)) k ≡ true
in_streams run (Configuration s c) h = between _ _ (le_then run.first s _ h.0 (low c)) (more_then run.end s _ h.1)
in_streams run (Machine u p n c) h = absurd h
in_streams run (Hypervisor p n c) h = absurd h
in_streams run (Endpoint u p n c) h = absurd h

pub in_top_streams : (run : PageRun) (k : Key) → IsOfStreams run k → range_contains key_cmp (Included (Configuration run.first None)) (Excluded (least (Guest 0) 0 0)) k ≡ true
in_top_streams run (Configuration s c) h = between _ _ (le_then run.first s _ h.0 (low c)) refl
in_top_streams run (Machine u p n c) h = absurd h
in_top_streams run (Hypervisor p n c) h = absurd h
in_top_streams run (Endpoint u p n c) h = absurd h

-- ---- keys from an owner's own key on and below a page of that owner
le_pages : (p r page : ℕ) (o s : Ordering) → is_le s ≡ true → is_le (ordering_then (nat_cmp p r) o) ≡ true → is_le (ordering_then (nat_cmp page r) s) ≡ false → (p ≤ r) × (r < page)
le_pages p r page o s l a b = (at_most, below)
  where
    at_most : p ≤ r
    at_most = elim (cases_lt r p) as (λ _. p ≤ r) [
      | inl h ↦ let f : false ≡ true = sym (more_then p r o h) ∙ a in cc
      | inr h ↦ h
    ]

    below : r < page
    below = elim (cases_lt r page) as (λ _. r < page) [
      | inl h ↦ h
      | inr h ↦ let f : true ≡ false = sym (le_then page r s h l) ∙ b in cc
    ]

le_owners : (v u p r page : ℕ) (o s : Ordering) → is_le s ≡ true → is_le (ordering_then (nat_cmp v u) (ordering_then (nat_cmp p r) o)) ≡ true → is_le (ordering_then (nat_cmp v u) (ordering_then (nat_cmp page r) s)) ≡ false
    → (u ≡ v) × (p ≤ r) × (r < page)
le_owners v u p r page o s l =
    elim (nat_cmp v u) as (λ t. nat_cmp v u ≡ t → is_le (ordering_then t (ordering_then (nat_cmp p r) o)) ≡ true → is_le (ordering_then t (ordering_then (nat_cmp page r) s)) ≡ false → (u ≡ v) × (p ≤ r) × (r < page)) [
      | Less ↦ λ e a b. cc
      | Equal ↦ λ e a b. let h = le_pages p r page o s l a b in (sym (exact_unsigned v u e), h.0, h.1)
      | Greater ↦ λ e a b. cc
    ] refl

-- k has the same owner, and its page is between q's and that one.
abbrev pub StandsBefore : Owner → ℕ → Key → Key → Type 0
StandsBefore w page q k = is_le (key_cmp q k) ≡ true → is_le (key_cmp (least w page 0) k) ≡ false → (owner_of k ≡ Some w) × (page_of q ≤ page_of k) × (page_of k < page)

guest_before : (v p n : ℕ) (c : Stage) (page : ℕ) (k : Key) → StandsBefore (Guest v) page (Machine v p n c) k
guest_before v p n c page (Configuration s d) a b = let f : false ≡ true = a in cc
guest_before v p n c page (Machine u r m d) a b = let h = le_owners v u p r page _ _ (le_then 0 m _ (omega arith) (low_stage d)) a b in (ap (λ x. Some (Guest x)) h.0, h.1, h.2)
guest_before v p n c page (Hypervisor r m d) a b = let f : true ≡ false = b in cc
guest_before v p n c page (Endpoint u r m d) a b = let f : true ≡ false = b in cc

host_before : (p n : ℕ) (c : Option ℕ) (page : ℕ) (k : Key) → StandsBefore Host page (Hypervisor p n c) k
host_before p n c page (Configuration s d) a b = let f : false ≡ true = a in cc
host_before p n c page (Machine u r m d) a b = let f : false ≡ true = a in cc
host_before p n c page (Hypervisor r m d) a b = let h = le_pages p r page _ _ (le_then 0 m _ (omega arith) (low d)) a b in (refl, h.0, h.1)
host_before p n c page (Endpoint u r m d) a b = let f : true ≡ false = b in cc

device_before : (v p n : ℕ) (c : Option ℕ) (page : ℕ) (k : Key) → StandsBefore (Device v) page (Endpoint v p n c) k
device_before v p n c page (Configuration s d) a b = let f : false ≡ true = a in cc
device_before v p n c page (Machine u r m d) a b = let f : false ≡ true = a in cc
device_before v p n c page (Hypervisor r m d) a b = let f : false ≡ true = a in cc
device_before v p n c page (Endpoint u r m d) a b = let h = le_owners v u p r page _ _ (le_then 0 m _ (omega arith) (low d)) a b in (ap (λ x. Some (Device x)) h.0, h.1, h.2)

pub stands_before : (w : Owner) (page : ℕ) (q k : Key) → owner_of q ≡ Some w → StandsBefore w page q k
stands_before w page (Configuration s c) k o = cc
stands_before w page (Machine v p n c) k o = let e : Guest v ≡ w = cc in subst (λ w. StandsBefore w page (Machine v p n c) k) e (guest_before v p n c page k)
stands_before w page (Hypervisor p n c) k o = let e : Host ≡ w = cc in subst (λ w. StandsBefore w page (Hypervisor p n c) k) e (host_before p n c page k)
stands_before w page (Endpoint v p n c) k o = let e : Device v ≡ w = cc in subst (λ w. StandsBefore w page (Endpoint v p n c) k) e (device_before v p n c page k)

pub owner_of-least : (w : Owner) (page span : ℕ) → owner_of (least w page span) ≡ Some w
owner_of-least (Guest v) page span = refl
owner_of-least Host page span = refl
owner_of-least (Device s) page span = refl

-- No key of an owner is before its least.
pub from_least : (w : Owner) (k : Key) → owner_of k ≡ Some w → is_le (key_cmp (least w 0 0) k) ≡ true
from_least w k o = left_true _ _ (in_pages w 0 (page_of k + 1) k o (omega arith) (omega arith))

-- ---- keys of an owner one after another
pub at_or_after : (k q : Key) → is_lt (key_cmp k q) ≡ false → is_le (key_cmp q k) ≡ true
at_or_after k q h =
    elim (key_cmp k q) as (λ r. key_cmp k q ≡ r → is_lt r ≡ false → is_le (key_cmp q k) ≡ true) [
      | Less ↦ λ e l. cc
      | Equal ↦ λ e l. ap is_le (key_total.antisymm q k ∙ ap ordering_reverse e)
      | Greater ↦ λ e l. ap is_le (key_total.antisymm q k ∙ ap ordering_reverse e)
    ] refl h

pub less_at_most : (k q r : Key) → key_cmp k q ≡ Less → is_le (key_cmp q r) ≡ true → key_cmp k r ≡ Less
less_at_most k q r less h =
    elim (key_cmp q r) as (λ o. key_cmp q r ≡ o → is_le o ≡ true → key_cmp k r ≡ Less) [
      | Less ↦ λ e l. key_total.trans k q r less e
      | Equal ↦ λ e l. subst (λ x. key_cmp k x ≡ Less) (key_exact q r e) less
      | Greater ↦ λ e l. cc
    ] refl h

pub not_after : (k q : Key) → key_cmp k q ≡ Less → is_le (key_cmp q k) ≡ false
not_after k q less = ap is_le (key_total.antisymm q k ∙ ap ordering_reverse less)

-- A key of an owner is before the least key of a page past its own.
pub before_page : (w : Owner) (page : ℕ) (k : Key) → owner_of k ≡ Some w → page_of k < page → key_cmp k (least w page 0) ≡ Less
before_page w page k o h = not_from key_total (least w page 0) k (up_to_page w page k o h)

-- What is between an owner's least key and another of its keys is the owner's too, at a page before what bounds that.
pub own_between : (w : Owner) (page : ℕ) (k : Key) → key_cmp k (least w page 0) ≡ Less → is_lt (key_cmp k (least w 0 0)) ≡ false → (owner_of k ≡ Some w) × (page_of k < page)
own_between w page k before from =
    let at = stands_before w page (least w 0 0) k (owner_of-least w 0 0) (at_or_after k (least w 0 0) from) (not_after k (least w page 0) before) in
    (at.0, at.2)

lesser : (p r n m : ℕ) (o : Ordering) → p ≤ r → (p ≡ r → n < m) → ordering_then (nat_cmp p r) (ordering_then (nat_cmp n m) o) ≡ Less
lesser p r n m o low more =
    elim (cases_lt p r) as (λ _. ordering_then (nat_cmp p r) (ordering_then (nat_cmp n m) o) ≡ Less) [
      | inl less ↦ ap (λ c. ordering_then c (ordering_then (nat_cmp n m) o)) (cmp_less p r less)
      | inr from ↦
          let same : p ≡ r = omega arith in
          ap (λ c. ordering_then c (ordering_then (nat_cmp n m) o)) (cmp_same p r same) ∙ ap (λ c. ordering_then c o) (cmp_less n m (more same))
    ]

-- Blocks of an owner are ordered by page, and those of a page by span.
pub block_order : (w : Owner) (k q : Key) → owner_of k ≡ Some w → owner_of q ≡ Some w → page_of k ≤ page_of q → (page_of k ≡ page_of q → span_of k < span_of q) → key_cmp k q ≡ Less
block_order w (Configuration s c) q a b low more = cc
block_order w (Machine v p n c) (Configuration t d) a b low more = cc
block_order w (Machine v p n c) (Machine u r m d) a b low more =
    let same : v ≡ u = cc in
    ap (λ t. ordering_then t (ordering_then (nat_cmp p r) (ordering_then (nat_cmp n m) (stage_cmp c d)))) (cmp_same v u same) ∙ lesser p r n m (stage_cmp c d) low more
block_order w (Machine v p n c) (Hypervisor r m d) a b low more = let bad : Guest v ≡ Host = cc in cc
block_order w (Machine v p n c) (Endpoint u r m d) a b low more = let bad : Guest v ≡ Device u = cc in cc
block_order w (Hypervisor p n c) (Configuration t d) a b low more = cc
block_order w (Hypervisor p n c) (Machine u r m d) a b low more = let bad : Host ≡ Guest u = cc in cc
block_order w (Hypervisor p n c) (Hypervisor r m d) a b low more = lesser p r n m (some_cmp c d) low more
block_order w (Hypervisor p n c) (Endpoint u r m d) a b low more = let bad : Host ≡ Device u = cc in cc
block_order w (Endpoint v p n c) (Configuration t d) a b low more = cc
block_order w (Endpoint v p n c) (Machine u r m d) a b low more = let bad : Device v ≡ Guest u = cc in cc
block_order w (Endpoint v p n c) (Hypervisor r m d) a b low more = let bad : Device v ≡ Host = cc in cc
block_order w (Endpoint v p n c) (Endpoint u r m d) a b low more =
    let same : v ≡ u = cc in
    ap (λ t. ordering_then t (ordering_then (nat_cmp p r) (ordering_then (nat_cmp n m) (some_cmp c d)))) (cmp_same v u same) ∙ lesser p r n m (some_cmp c d) low more
