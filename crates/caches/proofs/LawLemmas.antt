-- The laws of the definitions.
use Rattle.std.proofs.Common.{◌≡◌, ℕ, ◌+◌, ◌*◌, ◌/◌, ◌^◌, ◌<◌, ◌≤◌, ◌==◌, ◌&&◌, not, Bool, true, false, cond, inl, inr, Option, Some, None, refl, sym, ◌∙◌, ap, arith}
use Rattle.std.specs.FinMap as finite
use Rattle.std.specs.FinMap.{same_map}
use Rattle.std.proofs.Math.Nat.{div-eq_of_lt}
use Rattle.std.proofs.lemmas.Nat.{pow_pos}
use Rattle.std.proofs.lemmas.Bool.{lt-ltb, le-ltb, and_from, and_parts, ltb-true, cases_lt}
use Rattle.caches.specs.declared.tag.Tag.TheVariants.{Ste, Cd, S1, S2, El2, Atc}
use Rattle.caches.specs.declared.tag.Entry.{Entry}
use Rattle.caches.specs.Blocks.{block, meets, holds, aligned}
use Rattle.caches.specs.Covers.{covers}
use Rattle.caches.specs.Held.{held, without_covered}
use Rattle.caches.specs.TagOrder.{tag_cmp_total, tag_cmp_exact}
use Rattle.caches.specs.Laws.{HeldSpeaksOfEachTagOnce, UncoveredEntriesStay, Range31IsAllStreams, Size52IsAllPages, NsnhIsAllMachines, MeetingIsToShareAPage}
use Rattle.caches.proofs.Standing.{held_are}
use Rattle.caches.proofs.Viewed.{get_without}

pub once : HeldSpeaksOfEachTagOnce
once h x y s u same =
    let a : finite.get (held h) x.tag ≡ Some x = (held_are h x.tag x).1 s in
    let b : finite.get (held h) y.tag ≡ Some y = (held_are h y.tag y).1 u in
    let c : Some x ≡ Some y = sym a ∙ ap (finite.get (held h)) same ∙ b in
    cc

uncovered : (b : Bool) (o : Option Entry) → ((e : Entry) → o ≡ Some e → b ≡ false) → cond b None o ≡ o
uncovered false o h = refl
uncovered true None h = refl
uncovered true (Some e) h = let n : true ≡ false = h e refl in cc

pub stay : UncoveredEntriesStay
stay c m none = same_map tag_cmp_total tag_cmp_exact (without_covered c m) m (λ t. get_without (covers c) m t ∙ uncovered (covers c t) (finite.get m t) (none t))

all_held : (n m size : ℕ) → n < size → m < size → holds (aligned n size) m ≡ true
all_held n m size h k =
    let zero : n / size ≡ 0 = div-eq_of_lt h in
    let first : n / size * size ≡ 0 = ap (λ q. q * size) zero ∙ omega arith in
    and_from _ _ (ap not (le-ltb m (n / size * size) (omega (arith, first)))) (lt-ltb m (n / size * size + size) (omega (arith, first, k)))

pub all_streams : Range31IsAllStreams
all_streams sid (Ste s) h r = all_held sid s (2 ^ 32) h r
all_streams sid (Cd s c) h r = all_held sid s (2 ^ 32) h r
all_streams sid (S1 v o p n) h r = refl
all_streams sid (S2 v p n) h r = refl
all_streams sid (El2 o p n) h r = refl
all_streams sid (Atc s c p n) h r = refl

all_met : (page p n : ℕ) → page < 2 ^ 52 → p < 2 ^ 52 → meets (block p n) (aligned page (2 ^ 52)) ≡ true
all_met page p n h k =
    let zero : page / 2 ^ 52 ≡ 0 = div-eq_of_lt h in
    let first : page / 2 ^ 52 * 2 ^ 52 ≡ 0 = ap (λ q. q * 2 ^ 52) zero ∙ omega arith in
    let some = pow_pos n in
    and_from _ _ (lt-ltb p (page / 2 ^ 52 * 2 ^ 52 + 2 ^ 52) (omega (arith, first, k))) (lt-ltb (page / 2 ^ 52 * 2 ^ 52) (p + 2 ^ n) (omega (arith, first, some)))

with_true : (a b : Bool) → b ≡ true → (a && (true && b)) ≡ a
with_true true b e = e
with_true false b e = refl

pub all_pages : Size52IsAllPages
all_pages sid ssid page global (Ste s) h r = refl
all_pages sid ssid page global (Cd s c) h r = refl
all_pages sid ssid page global (S1 v o p n) h r = refl
all_pages sid ssid page global (S2 v p n) h r = refl
all_pages sid ssid page global (El2 o p n) h r = refl
all_pages sid ssid page global (Atc s c p n) h r = with_true (s == sid) _ (all_met page p n h r)

pub all_machines : NsnhIsAllMachines
all_machines tag = refl

pub later : (a b c d : ℕ) → a < b → a < d → c < d → c < b → (n : ℕ) × ((a ≤ n) × (n < b)) × ((c ≤ n) × (n < d))
later a b c d e f g h = elim (cases_lt a c) as (λ _. (n : ℕ) × ((a ≤ n) × (n < b)) × ((c ≤ n) × (n < d))) [
  | inl l ↦ (c, (omega (arith, l), h), (omega arith, g))
  | inr l ↦ (a, (omega arith, e), (l, f))
]

pub share : MeetingIsToShareAPage
share page span run some = (
  λ e. let both = and_parts _ _ e in later page (page + 2 ^ span) run.first run.end (omega (arith, pow_pos span)) (ltb-true page run.end both.0) some (ltb-true run.first (page + 2 ^ span) both.1),
  λ s. let a = s.1 in let b = s.2 in and_from _ _ (lt-ltb page run.end (omega (arith, a.0, b.1))) (lt-ltb run.first (page + 2 ^ span) (omega (arith, a.1, b.0))),
)
