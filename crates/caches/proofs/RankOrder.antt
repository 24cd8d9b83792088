-- The order of keys is that of their numbers.
use Rattle.std.proofs.Common.{◌≡◌, ℕ, suc, ◌+◌, ◌*◌, ◌/◌, ◌%◌, ◌^◌, ◌<◌, ◌≤◌, Option, Some, None, refl, sym, ◌∙◌, ap, subst, arith}
use Rattle.std.proofs.Math.Nat.{mul-le-mul_left}
use Rattle.std.proofs.lemmas.Nat.{div-mul-add, mod-mul-add}
use Rattle.std.specs.declared.cmp.Ordering.{Ordering}
use Rattle.std.specs.declared.cmp.Ordering.TheVariants.{Less, Equal, Greater}
use Rattle.std.specs.Ordering.{nat_cmp, ordering_then}
use Rattle.std.specs.Cmp.{ranked}
use Rattle.caches.specs.declared.key.Stage.{Stage}
use Rattle.caches.specs.declared.key.Stage.TheVariants.{Two, One}
use Rattle.caches.specs.declared.key.Key.{Key}
use Rattle.caches.specs.declared.key.Key.TheVariants.{Configuration, Machine, Hypervisor, Endpoint}
use Rattle.caches.specs.Keys.{page_of, span_of}
use Rattle.caches.specs.Ranks.{kind_of, id_of, part_of, option_number, stage_number, owner_number, number_of, key_from, key_at, IsRoomy, IsRank}
use Rattle.caches.proofs.KeyOrder.{key_cmp, stage_cmp, some_cmp, cmp_less, cmp_same, cmp_more}

-- ---- a number is cut into the parts of its key
abbrev upper : Key → ℕ
upper k = owner_number k * 2 ^ 64 + page_of k

abbrev middle : Key → ℕ
middle k = upper k * 2 ^ 8 + span_of k

record Cut (k : Key) : Type 0 where
  low : number_of k / 2 ^ 22 ≡ middle k
  part : number_of k % 2 ^ 22 ≡ part_of k
  above : middle k / 2 ^ 8 ≡ upper k
  span : middle k % 2 ^ 8 ≡ span_of k
  top : upper k / 2 ^ 64 ≡ owner_number k
  page : upper k % 2 ^ 64 ≡ page_of k
  kind : owner_number k / 2 ^ 32 ≡ kind_of k
  id : owner_number k % 2 ^ 32 ≡ id_of k

cut : (k : Key) → IsRoomy k → Cut k
cut k h = record {
  low = div-mul-add (middle k) (2 ^ 22) (part_of k) h.part;
  part = mod-mul-add (middle k) (2 ^ 22) (part_of k) h.part;
  above = div-mul-add (upper k) (2 ^ 8) (span_of k) h.span;
  span = mod-mul-add (upper k) (2 ^ 8) (span_of k) h.span;
  top = div-mul-add (owner_number k) (2 ^ 64) (page_of k) h.page;
  page = mod-mul-add (owner_number k) (2 ^ 64) (page_of k) h.page;
  kind = div-mul-add (kind_of k) (2 ^ 32) (id_of k) h.id;
  id = mod-mul-add (kind_of k) (2 ^ 32) (id_of k) h.id;
}

-- ---- the key of its number
round : (k : Key) → key_from (kind_of k) (id_of k) (page_of k) (span_of k) (part_of k) ≡ k
round (Configuration s None) = refl
round (Configuration s (Some c)) = refl
round (Machine v p n Two) = refl
round (Machine v p n (One None)) = refl
round (Machine v p n (One (Some c))) = refl
round (Hypervisor p n None) = refl
round (Hypervisor p n (Some c)) = refl
round (Endpoint v p n None) = refl
round (Endpoint v p n (Some c)) = refl

same_from : (a b c d e f g h j k : ℕ) → a ≡ f → b ≡ g → c ≡ h → d ≡ j → e ≡ k → key_from a b c d e ≡ key_from f g h j k
same_from a b c d e f g h j k p q r s t = λ i. key_from (p i) (q i) (r i) (s i) (t i)

pub key_of_number : (k : Key) → IsRoomy k → key_at (number_of k) ≡ k
key_of_number k h =
    let c : Cut k = cut k h in
    let rest : number_of k / 2 ^ 22 / 2 ^ 8 ≡ upper k = ap (λ n. n / 2 ^ 8) c.low ∙ c.above in
    let owner : number_of k / 2 ^ 22 / 2 ^ 8 / 2 ^ 64 ≡ owner_number k = ap (λ n. n / 2 ^ 64) rest ∙ c.top in
    same_from _ _ _ _ _ (kind_of k) (id_of k) (page_of k) (span_of k) (part_of k) (ap (λ n. n / 2 ^ 32) owner ∙ c.kind) (ap (λ n. n % 2 ^ 32) owner ∙ c.id) (ap (λ n. n % 2 ^ 64) rest ∙ c.page) (ap (λ n. n % 2 ^ 8) c.low ∙ c.span) c.part
    ∙ round k

pub rank_of : (n : ℕ) (k : Key) → IsRoomy k → n ≡ number_of k → IsRank n
rank_of n k h e =
    let back : key_at n ≡ k = ap key_at e ∙ key_of_number k h in
    record { same = ap number_of back ∙ sym e; roomy = subst IsRoomy (sym back) h }

pub page_in : (n : ℕ) → IsRank n → n / 2 ^ 22 / 2 ^ 8 % 2 ^ 64 ≡ page_of (key_at n)
page_in n h =
    let k : Key = key_at n in
    let c : Cut k = cut k h.roomy in
    ap (λ x. x / 2 ^ 22 / 2 ^ 8 % 2 ^ 64) (sym h.same) ∙ ap (λ x. x / 2 ^ 8 % 2 ^ 64) c.low ∙ ap (λ x. x % 2 ^ 64) c.above ∙ c.page

-- ---- the order
same_cmp : (a b c d : ℕ) → (a < b → c < d) → (a ≡ b → c ≡ d) → (b < a → d < c) → nat_cmp c d ≡ nat_cmp a b
same_cmp a b c d less same more =
    elim (nat_cmp a b) as (λ r. r ≡ nat_cmp a b → nat_cmp c d ≡ r) [
      | Less ↦ λ e. cmp_less c d (less (ranked a b Less e))
      | Equal ↦ λ e. cmp_same c d (same (ranked a b Equal e))
      | Greater ↦ λ e. cmp_more c d (more (ranked a b Greater e))
    ] refl

cmp_add : (x b d : ℕ) → nat_cmp (x + b) (x + d) ≡ nat_cmp b d
cmp_add x b d = same_cmp b d (x + b) (x + d) (λ h. omega arith) (λ h. omega arith) (λ h. omega arith)

cmp_suc : (b d : ℕ) → nat_cmp (suc b) (suc d) ≡ nat_cmp b d
cmp_suc b d = same_cmp b d (suc b) (suc d) (λ h. omega arith) (λ h. omega arith) (λ h. omega arith)

carried : (m a b c d : ℕ) → a < c → b < m → a * m + b < c * m + d
carried m a b c d f p =
    let g : a + 1 ≤ c = omega arith in
    let h : m * (a + 1) ≤ m * c = mul-le-mul_left m g in
    omega arith

radix : (m a b c d : ℕ) → b < m → d < m → nat_cmp (a * m + b) (c * m + d) ≡ ordering_then (nat_cmp a c) (nat_cmp b d)
radix m a b c d p q =
    elim (nat_cmp a c) as (λ r. r ≡ nat_cmp a c → nat_cmp (a * m + b) (c * m + d) ≡ ordering_then r (nat_cmp b d)) [
      | Less ↦ λ e. cmp_less (a * m + b) (c * m + d) (carried m a b c d (ranked a c Less e) p)
      | Equal ↦ λ e. let f : a ≡ c = ranked a c Equal e in subst (λ (x : ℕ). nat_cmp (a * m + b) (x * m + d) ≡ nat_cmp b d) f (cmp_add (a * m) b d)
      | Greater ↦ λ e. cmp_more (a * m + b) (c * m + d) (carried m c d a b (ranked a c Greater e) q)
    ] refl

flat_two : (r s t : Ordering) → ordering_then (ordering_then r s) t ≡ ordering_then r (ordering_then s t)
flat_two Less s t = refl
flat_two Equal s t = refl
flat_two Greater s t = refl

flat : (r s t u : Ordering) → ordering_then (ordering_then (ordering_then r s) t) u ≡ ordering_then r (ordering_then s (ordering_then t u))
flat Less s t u = refl
flat Equal s t u = flat_two s t u
flat Greater s t u = refl

padded : (r o : Ordering) → ordering_then (ordering_then (ordering_then r Equal) Equal) o ≡ ordering_then r o
padded Less o = refl
padded Equal o = refl
padded Greater o = refl

abbrev parts_cmp : Key → Key → Ordering
parts_cmp x y = ordering_then (ordering_then (ordering_then (ordering_then (nat_cmp (kind_of x) (kind_of y)) (nat_cmp (id_of x) (id_of y))) (nat_cmp (page_of x) (page_of y))) (nat_cmp (span_of x) (span_of y))) (nat_cmp (part_of x) (part_of y))

number_parts : (x y : Key) → IsRoomy x → IsRoomy y → nat_cmp (number_of x) (number_of y) ≡ parts_cmp x y
number_parts x y g h =
    radix (2 ^ 22) (middle x) (part_of x) (middle y) (part_of y) g.part h.part
    ∙ ap (λ r. ordering_then r (nat_cmp (part_of x) (part_of y))) (radix (2 ^ 8) (upper x) (span_of x) (upper y) (span_of y) g.span h.span
    ∙ ap (λ r. ordering_then r (nat_cmp (span_of x) (span_of y))) (radix (2 ^ 64) (owner_number x) (page_of x) (owner_number y) (page_of y) g.page h.page
    ∙ ap (λ r. ordering_then r (nat_cmp (page_of x) (page_of y))) (radix (2 ^ 32) (kind_of x) (id_of x) (kind_of y) (id_of y) g.id h.id)))

option_order : (c d : Option ℕ) → nat_cmp (option_number c) (option_number d) ≡ some_cmp c d
option_order None None = refl
option_order None (Some d) = cmp_less 0 (suc d) (omega arith)
option_order (Some c) None = cmp_more (suc c) 0 (omega arith)
option_order (Some c) (Some d) = cmp_suc c d

stage_order : (c d : Stage) → nat_cmp (stage_number c) (stage_number d) ≡ stage_cmp c d
stage_order Two Two = refl
stage_order Two (One d) = cmp_less 0 (suc (option_number d)) (omega arith)
stage_order (One c) Two = cmp_more (suc (option_number c)) 0 (omega arith)
stage_order (One c) (One d) = cmp_suc (option_number c) (option_number d) ∙ option_order c d

parts_order : (x y : Key) → parts_cmp x y ≡ key_cmp x y
parts_order (Configuration s c) (Configuration t d) = padded (nat_cmp s t) (nat_cmp (option_number c) (option_number d)) ∙ ap (ordering_then (nat_cmp s t)) (option_order c d)
parts_order (Machine v p n c) (Machine w q m d) =
    flat (nat_cmp v w) (nat_cmp p q) (nat_cmp n m) (nat_cmp (stage_number c) (stage_number d))
    ∙ ap (λ r. ordering_then (nat_cmp v w) (ordering_then (nat_cmp p q) (ordering_then (nat_cmp n m) r))) (stage_order c d)
parts_order (Hypervisor p n c) (Hypervisor q m d) =
    flat_two (nat_cmp p q) (nat_cmp n m) (nat_cmp (option_number c) (option_number d))
    ∙ ap (λ r. ordering_then (nat_cmp p q) (ordering_then (nat_cmp n m) r)) (option_order c d)
parts_order (Endpoint v p n c) (Endpoint w q m d) =
    flat (nat_cmp v w) (nat_cmp p q) (nat_cmp n m) (nat_cmp (option_number c) (option_number d))
    ∙ ap (λ r. ordering_then (nat_cmp v w) (ordering_then (nat_cmp p q) (ordering_then (nat_cmp n m) r))) (option_order c d)
parts_order (Configuration s c) (Machine w q m d) = refl
parts_order (Configuration s c) (Hypervisor q m d) = refl
parts_order (Configuration s c) (Endpoint w q m d) = refl
parts_order (Machine v p n c) (Configuration t d) = refl
parts_order (Machine v p n c) (Hypervisor q m d) = refl
parts_order (Machine v p n c) (Endpoint w q m d) = refl
parts_order (Hypervisor p n c) (Configuration t d) = refl
parts_order (Hypervisor p n c) (Machine w q m d) = refl
parts_order (Hypervisor p n c) (Endpoint w q m d) = refl
parts_order (Endpoint v p n c) (Configuration t d) = refl
parts_order (Endpoint v p n c) (Machine w q m d) = refl
parts_order (Endpoint v p n c) (Hypervisor q m d) = refl

pub rank_cmp : (a b : ℕ) → IsRank a → IsRank b → nat_cmp a b ≡ key_cmp (key_at a) (key_at b)
rank_cmp a b g h = (λ i. nat_cmp (sym g.same i) (sym h.same i)) ∙ number_parts (key_at a) (key_at b) g.roomy h.roomy ∙ parts_order (key_at a) (key_at b)
