-- Each entry is covered by a command that was taken, so none is left.
use Rattle.std.proofs.Common.{◌≡◌, ℕ, zero, suc, ◌+◌, ◌*◌, ◌^◌, ◌<◌, Bool, true, false, cond, ◌==◌, ◌&&◌, List, [], ◌∷◌, map, length, Some, refl, sym, ap, ap₂, ◌∙◌, subst, eqb-true, eq-eqb, arith}
use Rattle.std.proofs.lemmas.Bool.{and_parts}
use Rattle.std.specs.Prelude.{slice_get, is_none}
use Rattle.std.specs.FinMap as finite
use Rattle.std.specs.FinMap.{find, get-entries, len-entries}
use Rattle.std.specs.Cmp.{eq_by_cmp_equiv}
use Rattle.cmdcodec.specs.declared.raw.Raw.{Raw}
use Rattle.cmdcodec.specs.Fields.{field}
use Rattle.cmdcodec.specs.Legality.{first_ill}
use Rattle.cmdcodec.specs.Words.{encoding}
use Rattle.cmdcodec.specs.Spelling.{Spells}
use Rattle.ringcore.specs.declared.world.event.Outcome.TheVariants.{Applied}
use Rattle.ringcore.specs.world.World.{taken_as, outcome_of}
use Rattle.ringcore.specs.world.Delivery.{Batch, joined}
use Rattle.caches.specs.declared.tag.Tag.{Tag}
use Rattle.caches.specs.declared.tag.Entry.{Entry}
use Rattle.caches.specs.Covers.{covers}
use Rattle.caches.specs.Held.{Entries}
use Rattle.caches.specs.TagOrder.{tag_cmp, tag_cmp_total}
use Rattle.engine.specs.Settled.{HasCovered, IsSettled}
use Rattle.stress.specs.Plans.{PlanValue, IsPlan, command}
use Rattle.stress.specs.FirstEntries.{tag_of, HoldsFirst}
use Rattle.stress.proofs.Weights.{weigh}
use Rattle.stress.proofs.Totals.{IsMergeOf, command_legal, passed}

-- ---- the first command of a sender covers its entry

low : (s : ℕ) → field (0x12 + 0 + s * 2 ^ 32 + 0 * 2 ^ 48) 7 0 ≡ 0x12
low s =
    let word : 0x12 + 0 + s * 2 ^ 32 + 0 * 2 ^ 48 ≡ 0x12 + (s * 2 ^ 24) * 256 = omega arith in
    let short : field (0x12 + (s * 2 ^ 24) * 256) 7 0 ≡ 0x12 = omega arith in
    ap (λ lo. field lo 7 0) word ∙ short

machine : (s : ℕ) → s < 64 → field (0x12 + 0 + s * 2 ^ 32 + 0 * 2 ^ 48) 47 32 ≡ s
machine s few = omega arith

space : (s : ℕ) → s < 64 → field (0x12 + 0 + s * 2 ^ 32 + 0 * 2 ^ 48) 63 48 ≡ 0
space s few = omega arith

spelled : (s : ℕ) → s < 64 → Spells (encoding (command s 1 0)) (command s 1 0)
unfolding encoding
spelled s few = ((low s, machine s few, space s few, tt), (refl, refl, refl))

covers_own : (s : ℕ) → covers (command s 1 0) (tag_of s) ≡ true
covers_own s = ap (λ (b : Bool). b && true) (eq-eqb s s refl)

is_applied : (raw : Raw) → is_none (first_ill raw) ≡ true → outcome_of raw ≡ Applied
is_applied raw legal = search

own_covers : (s : ℕ) → s < 64 → HasCovered (taken_as (encoding (command s 1 0))) (tag_of s)
own_covers s few = record { applied = is_applied (encoding (command s 1 0)) (command_legal s 1 0); command = command s 1 0; spelled = spelled s few; covered = covers_own s }

-- ---- it is among those taken

abbrev same_raw : Raw → Raw → Bool
same_raw a b = a.lo == b.lo && a.hi == b.hi

same_is : (a b : Raw) → same_raw a b ≡ true → a ≡ b
same_is a b same =
    let parts = and_parts (a.lo == b.lo) (a.hi == b.hi) same in
    ap₂ (λ (lo hi : ℕ). words lo hi) (eqb-true a.lo b.lo parts.0) (eqb-true a.hi b.hi parts.1)
  where
    words : ℕ → ℕ → Raw
    words lo hi = record { lo = lo; hi = hi }

itself : (a : Raw) → same_raw a a ≡ true
itself a = ap₂ (λ (b c : Bool). b && c) (eq-eqb a.lo a.lo refl) (eq-eqb a.hi a.hi refl)

not_true : (b : Bool) → (b ≡ true → ⊥) → b ≡ false
not_true true never = absurd (never refl)
not_true false never = refl

none_weighs : (t : Raw → Bool) (raws : List Raw) → ((j : ℕ) (raw : Raw) → slice_get raws j ≡ Some raw → t raw ≡ false) → weigh (λ raw. cond (t raw) 1 0) raws ≡ 0
none_weighs t [] none = refl
none_weighs t (raw ∷ raws) none =
    let here : cond {A = ℕ} (t raw) 1 0 ≡ 0 = ap (λ (b : Bool). cond {A = ℕ} b 1 0) (none 0 raw refl) in
    let rest = none_weighs t raws (λ j x at. none (suc j) x at) in
    omega (arith, here, rest)

get_taken : (raws : List Raw) (j : ℕ) (raw : Raw) → slice_get raws j ≡ Some raw → slice_get (map taken_as raws) j ≡ Some (taken_as raw)
get_taken [] j raw at = absurd (cc)
get_taken (x ∷ raws) zero raw at = let same : x ≡ raw = cc in ap (λ (r : Raw). Some (taken_as r)) same
get_taken (x ∷ raws) (suc j) raw at = get_taken raws j raw at

module _ (plan : PlanValue) (all : List Batch) (entries : Entries) (plan_is : IsPlan plan) (merge : IsMergeOf plan all) (first : HoldsFirst plan.senders entries)
    (settled : IsSettled entries (map taken_as (joined all))) where
  emptied : (tag : Tag) (entry : Entry) → finite.get entries tag ≡ Some entry → ⊥
  emptied tag entry at =
      let f = first tag entry at in
      let few : f.sender < 64 = (let k = f.known in let m = plan_is.few_senders in omega (arith, k, m)) in
      let own : Raw = encoding (command f.sender 1 0) in
      let apart : (j : ℕ) (raw : Raw) → slice_get (joined all) j ≡ Some raw → same_raw own raw ≡ false =
      λ j raw there. not_true (same_raw own raw) (λ same.
      let here : HasCovered (taken_as raw) tag =
      subst (λ (x : Raw × Tag). HasCovered (taken_as x.0) x.1) (λ k. (same_is own raw same k, sym f.tag_is k)) (own_covers f.sender few) in
      (settled tag entry at).uncovered j (taken_as raw) (get_taken (joined all) j raw there) (let b = f.born_is in omega (arith, b)) here) in
      let none = none_weighs (same_raw own) (joined all) apart in
      let one : cond {A = ℕ} (same_raw own own) 1 0 ≡ 1 = ap (λ (b : Bool). cond {A = ℕ} b 1 0) (itself own) in
      let more = passed (λ raw. cond (same_raw own raw) 1 0) plan all merge plan_is.some_batch f.sender f.known in
      absurd (omega (arith, none, one, more))

  pub none_left : finite.len entries ≡ 0
  none_left = len-entries entries ∙ by_list (finite.entries entries) refl
    where
      by_list : (list : List (Tag × Entry)) → finite.entries entries ≡ list → length list ≡ 0
      by_list [] is = refl
      by_list (e ∷ es) is =
          absurd (emptied e.0 e.1
          (get-entries entries e.0 ∙ ap (find tag_cmp e.0) is
          ∙ ap (λ (b : Bool). cond b (Some e.1) (find tag_cmp e.0 es)) ((eq_by_cmp_equiv tag_cmp_total).refl e.0)))
