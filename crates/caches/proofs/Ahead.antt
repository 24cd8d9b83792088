-- Covered entries that begin before a page, span by span.
use Rattle.std.proofs.Common.{◌≡◌, ℕ, ◌+◌, ◌-◌, ◌%◌, ◌^◌, ◌<◌, ◌≤◌, Bool, true, inl, inr, Some, None, sym, ◌∙◌, arith}
use Rattle.std.specs.BTreeMap.{BTreeMap, get}
use Rattle.std.proofs.lemmas.Bool.{cases_lt}
use Rattle.caches.specs.declared.tag.Entry.{Entry}
use Rattle.caches.specs.declared.key.Key.{Key}
use Rattle.caches.specs.declared.key.Owner.{Owner}
use Rattle.caches.specs.Keys.{owner_of, page_of, span_of}
use Rattle.caches.specs.Sweep.{IsKeeping, IsPruned}
use Rattle.caches.proofs.Aligned.{aligned_start, start_falls}
use Rattle.caches.proofs.KeyOrder.{key_cmp}
use Rattle.caches.proofs.Pruned.{aligned_key, none_pruned, none_unless}

module _ (p : Key → Bool) (w : Owner) (page : ℕ) where
  -- Nothing is left with a span below this one.
  abbrev pub AreGone : BTreeMap Key Entry → ℕ → Type 0
  AreGone m span = (q : Key) → span_of q < span → p q ≡ true → page_of q < page → get key_cmp m q ≡ None

  -- What is left begins before a bound.
  abbrev pub AreBelow : BTreeMap Key Entry → ℕ → Type 0
  AreBelow m bound = (q : Key) (e : Entry) → p q ≡ true → page_of q < page → get key_cmp m q ≡ Some e → page_of q < bound

  -- What begins before a start also begins before a bound if nothing before the start is left from the bound on.
  pub below_bound : (m : BTreeMap Key Entry) (start bound : ℕ) → AreBelow m start → ((q : Key) → p q ≡ true → page_of q < start → bound ≤ page_of q → get key_cmp m q ≡ None) → AreBelow m bound
  below_bound m start bound below clean q e covered before there =
      elim (cases_lt (page_of q) bound) as (λ _. page_of q < bound) [
        | inl less ↦ less
        | inr from ↦ let h : None ≡ Some e = sym (clean q covered (below q e covered before there) from) ∙ there in cc
      ]

  module _ (reach : (q : Key) → p q ≡ true → (owner_of q ≡ Some w) × (page < page_of q + 2 ^ span_of q)) where
    starts_at : (m : BTreeMap Key Entry) → IsKeeping key_cmp m → (q : Key) (e : Entry) → p q ≡ true → page_of q < page → get key_cmp m q ≡ Some e → page - page % 2 ^ span_of q ≡ page_of q
    starts_at m keeping q e covered before there = aligned_start (page_of q) page (span_of q) (aligned_key q (keeping q e there).well_formed).1 (omega arith) (reach q covered).1

    module _ (span start : ℕ) (is : start ≡ page - page % 2 ^ span) where
      -- Nothing of a span is left if everything begins before the page rounded down to it.
      pub gone_below : (m : BTreeMap Key Entry) → IsKeeping key_cmp m → AreBelow m start → AreGone m (span + 1)
      gone_below m keeping below q h covered before = none_unless (get key_cmp m q) (λ e there.
          let a = starts_at m keeping q e covered before there in
          let b = start_falls page (span_of q) span (omega arith) in
          let c = below q e covered before there in
          absurd (omega arith))

      -- Nor if no block has that span.
      pub gone_unused : (m : BTreeMap Key Entry) → AreGone m span → ((q : Key) → span_of q ≡ span → get key_cmp m q ≡ None) → AreGone m (span + 1)
      gone_unused m gone unused q h covered before = elim (cases_lt (span_of q) span) as (λ _. get key_cmp m q ≡ None) [
        | inl less ↦ gone q less covered before
        | inr more ↦ unused q (omega arith)
      ]

      -- What is left begins before a page if nothing of this span or a longer one is left there.
      pub below_start : (m n : BTreeMap Key Entry) → IsKeeping key_cmp n → AreGone m span → IsPruned key_cmp p m n
          → ((q : Key) → p q ≡ true → owner_of q ≡ Some w → page_of q ≡ start → span ≤ span_of q → get key_cmp n q ≡ None) → AreBelow n start
      below_start m n keeping gone pruned clean q e covered before there =
          let a : page - page % 2 ^ span_of q ≡ page_of q = starts_at n keeping q e covered before there in
          elim (cases_lt (span_of q) span) as (λ _. page_of q < start) [
            | inl less ↦ let h : None ≡ Some e = sym (none_pruned key_cmp p m n pruned q (gone q less covered before)) ∙ there in cc
            | inr more ↦ elim (cases_lt (page_of q) start) as (λ _. page_of q < start) [
              | inl below ↦ below
              | inr at ↦
                  let b : page - page % 2 ^ span_of q ≤ page - page % 2 ^ span = start_falls page span (span_of q) more in
                  let here : page_of q ≡ start = omega arith in
                  let h : None ≡ Some e = sym (clean q covered (reach q covered).0 here more) ∙ there in
                  cc
            ]
          ]
