-- A command for a single page covers just the blocks that hold it, and these are removed span by span.
use Rattle.std.proofs.Common.{◌≡◌, inl, inr, ℕ, ◌+◌, ◌-◌, ◌%◌, ◌^◌, ◌<◌, ◌==◌, Bool, true, false, ◌&&◌, Some, None, cond, refl, sym, ◌∙◌, ap, subst, arith, pow_pos}
use Rattle.std.proofs.Math.Nat.{mod-lt}
use Rattle.std.proofs.lemmas.Bool.{lt-ltb, le-ltb, eq-eqb, eqb-true, ltb-true, and_from, and_parts, and_right, or_left, or_right, or_cases, cases_lt, cases_eq}
use Rattle.std.specs.Prelude.{nat_lt}
use Rattle.std.specs.Ordering.{eq_by_cmp, is_eq}
use Rattle.std.specs.Cmp.{tied_itself, Equal-is}
use Rattle.std.specs.FinMap as finite
use Rattle.std.specs.FinMap.{same_map, get-remove}
use Rattle.cmdcodec.specs.declared.reach.PageRun.{PageRun}
use Rattle.cmdcodec.specs.declared.command.Command.{Command}
use Rattle.cmdcodec.specs.declared.command.Command.TheVariants.{TlbiNhVa, TlbiEl2Va, TlbiS2Ipa}
use Rattle.cmdcodec.specs.declared.reach.Reach.TheVariants.{Page}
use Rattle.caches.specs.declared.tag.Scope.TheVariants.{Global, Of}
use Rattle.caches.specs.declared.tag.Tag.{Tag}
use Rattle.caches.specs.declared.tag.Tag.TheVariants.{Ste, Cd, S1, S2, El2, Atc}
use Rattle.caches.specs.declared.tag.Entry.{Entry}
use Rattle.caches.specs.declared.key.Stage.TheVariants.{Two, One}
use Rattle.caches.specs.declared.one_page.Holder.{Holder}
use Rattle.caches.specs.declared.one_page.Holder.TheVariants.{Guest, Host}
use Rattle.caches.specs.declared.one_page.OnePage.{OnePage}
use Rattle.caches.specs.Blocks.{IsBlock, block, meets}
use Rattle.caches.specs.Covers.{covers}
use Rattle.caches.specs.Held.{Entries, without_covered}
use Rattle.caches.specs.Keys.{key_of, span_of, tag_of}
use Rattle.caches.specs.OnePages.{key_in, is_block_at, is_on}
use Rattle.caches.specs.TagOrder.{tag_cmp, tag_cmp_total, tag_cmp_exact}
use Rattle.caches.proofs.Aligned.{aligned_start}
use Rattle.caches.proofs.Pruned.{none_either}
use Rattle.caches.proofs.Viewed.{get_without, key_back}

pub same_bool : (a b : Bool) → (a ≡ true → b ≡ true) → (b ≡ true → a ≡ true) → a ≡ b
same_bool true b f g = sym (f refl)
same_bool false true f g = g refl
same_bool false false f g = refl

and_kept : (a b : Bool) → b ≡ true → (a && b) ≡ a
and_kept true b e = e
and_kept false b e = refl

pub tie : (x y : Tag) → x ≡ y → eq_by_cmp tag_cmp x y ≡ true
tie x y e = subst (λ z. eq_by_cmp tag_cmp x z ≡ true) e (ap is_eq (tied_itself tag_cmp_total x))

pub tied : (x y : Tag) → eq_by_cmp tag_cmp x y ≡ true → x ≡ y
tied x y e = tag_cmp_exact x y ((Equal-is (tag_cmp x y)).0 e)

-- ---- what is covered
abbrev only : ℕ → PageRun
only page = record { first = page; end = page + 1 }

starts_at : (q p n : ℕ) → q % 2 ^ n ≡ 0 → meets (block q n) (only p) ≡ true → p - p % 2 ^ n ≡ q
starts_at q p n z m =
    let both = and_parts _ _ m in
    let low : q < p + 1 = ltb-true q (p + 1) both.0 in
    aligned_start q p n z (omega arith) (ltb-true p (q + 2 ^ n) both.1)

holds_page : (p n : ℕ) → meets (block (p - p % 2 ^ n) n) (only p) ≡ true
holds_page p n =
    let below : p % 2 ^ n < 2 ^ n = mod-lt p (pow_pos n) in
    and_from _ _ (lt-ltb (p - p % 2 ^ n) (p + 1) (omega arith)) (lt-ltb p (p - p % 2 ^ n + 2 ^ n) (omega (arith, below)))

pub same_number : (n : ℕ) → (n == n) ≡ true
same_number n = eq-eqb n n refl

module _ (v a p : ℕ) (leaf : Bool) where
  abbrev pub guest_page : OnePage
  guest_page = record { page = p; own = Guest v (One (Some a)); shared = Some (Guest v (One None)) }

  guest_on : (t : Tag) → IsBlock t → covers (TlbiNhVa v a leaf p Page) t ≡ true → is_on guest_page t ≡ true
  guest_on (Ste s) h c = cc
  guest_on (Cd s ss) h c = cc
  guest_on (S1 w Global q n) h c =
      let one = and_parts _ _ c in
      or_right _ _ (tie (S1 w Global q n) (S1 v Global (p - p % 2 ^ n) n) (λ i. S1 (eqb-true w v one.0 i) Global (sym (starts_at q p n h.multiple one.1) i) n))
  guest_on (S1 w (Of b) q n) h c =
      let one = and_parts _ _ c in
      let two = and_parts _ _ one.1 in
      or_left _ _ (tie (S1 w (Of b) q n) (S1 v (Of a) (p - p % 2 ^ n) n) (λ i. S1 (eqb-true w v one.0 i) (Of (eqb-true b a two.0 i)) (sym (starts_at q p n h.multiple two.1) i) n))
  guest_on (S2 w q n) h c = cc
  guest_on (El2 s q n) h c = cc
  guest_on (Atc s ss q n) h c = cc

  on_guest : (t : Tag) → is_on guest_page t ≡ true → covers (TlbiNhVa v a leaf p Page) t ≡ true
  on_guest t e = elim (or_cases (is_block_at (Guest v (One (Some a))) p t) (is_block_at (Guest v (One None)) p t) e) as (λ _. covers (TlbiNhVa v a leaf p Page) t ≡ true) [
    | inl own ↦ subst (λ t. covers (TlbiNhVa v a leaf p Page) t ≡ true) (sym (tied t (S1 v (Of a) (p - p % 2 ^ span_of (key_of t)) (span_of (key_of t))) own)) (and_from _ _ (same_number v) (and_from _ _ (same_number a) (holds_page p (span_of (key_of t)))))
    | inr shared ↦ subst (λ t. covers (TlbiNhVa v a leaf p Page) t ≡ true) (sym (tied t (S1 v Global (p - p % 2 ^ span_of (key_of t)) (span_of (key_of t))) shared)) (and_from _ _ (same_number v) (holds_page p (span_of (key_of t))))
  ]

  pub guest_covers : (t : Tag) → IsBlock t → covers (TlbiNhVa v a leaf p Page) t ≡ is_on guest_page t
  guest_covers t h = same_bool _ _ (guest_on t h) (on_guest t)

module _ (a p : ℕ) (leaf : Bool) where
  abbrev pub host_page : OnePage
  host_page = record { page = p; own = Host (Some a); shared = Some (Host None) }

  host_on : (t : Tag) → IsBlock t → covers (TlbiEl2Va a leaf p Page) t ≡ true → is_on host_page t ≡ true
  host_on (Ste s) h c = cc
  host_on (Cd s ss) h c = cc
  host_on (S1 w s q n) h c = cc
  host_on (S2 w q n) h c = cc
  host_on (El2 Global q n) h c = or_right _ _ (tie (El2 Global q n) (El2 Global (p - p % 2 ^ n) n) (λ i. El2 Global (sym (starts_at q p n h.multiple c) i) n))
  host_on (El2 (Of b) q n) h c =
      let one = and_parts _ _ c in
      or_left _ _ (tie (El2 (Of b) q n) (El2 (Of a) (p - p % 2 ^ n) n) (λ i. El2 (Of (eqb-true b a one.0 i)) (sym (starts_at q p n h.multiple one.1) i) n))
  host_on (Atc s ss q n) h c = cc

  on_host : (t : Tag) → is_on host_page t ≡ true → covers (TlbiEl2Va a leaf p Page) t ≡ true
  on_host t e = elim (or_cases (is_block_at (Host (Some a)) p t) (is_block_at (Host None) p t) e) as (λ _. covers (TlbiEl2Va a leaf p Page) t ≡ true) [
    | inl own ↦ subst (λ t. covers (TlbiEl2Va a leaf p Page) t ≡ true) (sym (tied t (El2 (Of a) (p - p % 2 ^ span_of (key_of t)) (span_of (key_of t))) own)) (and_from _ _ (same_number a) (holds_page p (span_of (key_of t))))
    | inr shared ↦ subst (λ t. covers (TlbiEl2Va a leaf p Page) t ≡ true) (sym (tied t (El2 Global (p - p % 2 ^ span_of (key_of t)) (span_of (key_of t))) shared)) (holds_page p (span_of (key_of t)))
  ]

  pub host_covers : (t : Tag) → IsBlock t → covers (TlbiEl2Va a leaf p Page) t ≡ is_on host_page t
  host_covers t h = same_bool _ _ (host_on t h) (on_host t)

module _ (v p : ℕ) (leaf : Bool) where
  abbrev pub stage_2_page : OnePage
  stage_2_page = record { page = p; own = Guest v Two; shared = None }

  stage_2_on : (t : Tag) → IsBlock t → covers (TlbiS2Ipa v leaf p Page) t ≡ true → is_on stage_2_page t ≡ true
  stage_2_on (Ste s) h c = cc
  stage_2_on (Cd s ss) h c = cc
  stage_2_on (S1 w s q n) h c = cc
  stage_2_on (S2 w q n) h c =
      let one = and_parts _ _ c in
      or_left _ _ (tie (S2 w q n) (S2 v (p - p % 2 ^ n) n) (λ i. S2 (eqb-true w v one.0 i) (sym (starts_at q p n h.0.multiple one.1) i) n))
  stage_2_on (El2 s q n) h c = cc
  stage_2_on (Atc s ss q n) h c = cc

  on_stage_2 : (t : Tag) → is_on stage_2_page t ≡ true → covers (TlbiS2Ipa v leaf p Page) t ≡ true
  on_stage_2 t e = elim (or_cases (is_block_at (Guest v Two) p t) false e) as (λ _. covers (TlbiS2Ipa v leaf p Page) t ≡ true) [
    | inl own ↦ subst (λ t. covers (TlbiS2Ipa v leaf p Page) t ≡ true) (sym (tied t (S2 v (p - p % 2 ^ span_of (key_of t)) (span_of (key_of t))) own)) (and_from _ _ (same_number v) (holds_page p (span_of (key_of t))))
    | inr none ↦ cc
  ]

  pub stage_2_covers : (t : Tag) → IsBlock t → covers (TlbiS2Ipa v leaf p Page) t ≡ is_on stage_2_page t
  stage_2_covers t h = same_bool _ _ (stage_2_on t h) (on_stage_2 t)

-- Without the tags that pass a test nothing covered is left, and nothing else is gone, if the two agree on what is held.
pub without_passing : (c : Command) (test : Tag → Bool) (m n : Entries) → ((t : Tag) (e : Entry) → finite.get m t ≡ Some e → covers c t ≡ test t)
    → ((t : Tag) → finite.get n t ≡ cond (test t) None (finite.get m t)) → n ≡ without_covered c m
without_passing c test m n agree after = same_map tag_cmp_total tag_cmp_exact n (without_covered c m) (λ t. after t
    ∙ elim (finite.get m t) as (λ o. finite.get m t ≡ o → cond (test t) None o ≡ cond (covers c t) None o) [
      | None ↦ λ _. none_either (test t) None refl ∙ sym (none_either (covers c t) None refl)
      | Some e ↦ λ is. ap (λ b. cond b None (Some e)) (sym (agree t e is))
    ] refl
    ∙ sym (get_without (covers c) m t))

-- ---- span by span
span_in : (h : Holder) (p n : ℕ) → span_of (key_of (tag_of (key_in h p n))) ≡ n
span_in (Guest v s) p n = ap span_of (key_back (key_in (Guest v s) p n))
span_in (Host a) p n = ap span_of (key_back (key_in (Host a) p n))

module _ (h : Holder) (p : ℕ) (old : Entries) where
  -- The blocks that hold the page are gone as far as their spans are below this one.
  abbrev pub AreGone : Entries → ℕ → Type 0
  AreGone m span = (t : Tag) → finite.get m t ≡ cond (is_block_at h p t && nat_lt (span_of (key_of t)) span) None (finite.get old t)

  pub none_gone : AreGone old 0
  none_gone t = ap (λ b. cond b None (finite.get old t)) (sym (and_right (is_block_at h p t) _ (le-ltb (span_of (key_of t)) 0 (omega arith))))

  module _ (m n : Entries) (span : ℕ) (gone : AreGone m span) where
    abbrev there : Tag
    there = tag_of (key_in h (p - p % 2 ^ span) span)

    pub gone_more : n ≡ finite.remove m there → AreGone n (span + 1)
    gone_more e t =
        let o = finite.get old t in
        let s = span_of (key_of t) in
        let b = is_block_at h p t in
        let removed : finite.get n t ≡ cond (eq_by_cmp tag_cmp t there) None (cond (b && nat_lt s span) None o) = ap (λ x. finite.get x t) e ∙ get-remove tag_cmp_total m there t ∙ ap (cond (eq_by_cmp tag_cmp t there) None) (gone t) in
        let other : (s ≡ span → ⊥) → eq_by_cmp tag_cmp t there ≡ false = λ apart. elim (eq_by_cmp tag_cmp t there) as (λ x. eq_by_cmp tag_cmp t there ≡ x → x ≡ false) [
          | true ↦ λ at. absurd (apart (ap (λ x. span_of (key_of x)) (tied t there at) ∙ span_in h (p - p % 2 ^ span) span))
          | false ↦ λ _. refl
        ] refl in
        removed ∙ elim (cases_lt s span) as (λ _. cond (eq_by_cmp tag_cmp t there) None (cond (b && nat_lt s span) None o) ≡ cond (b && nat_lt s (span + 1)) None o) [
          | inl less ↦ ap (λ x. cond x None (cond (b && nat_lt s span) None o)) (other (λ same. absurd (omega (arith, less, same)))) ∙ ap (λ x. cond (b && x) None o) (lt-ltb s span less ∙ sym (lt-ltb s (span + 1) (omega (arith, less))))
          | inr from ↦ elim (cases_eq s span) as (λ _. cond (eq_by_cmp tag_cmp t there) None (cond (b && nat_lt s span) None o) ≡ cond (b && nat_lt s (span + 1)) None o) [
            | inl same ↦
                let at : b ≡ eq_by_cmp tag_cmp t there = ap (λ k. eq_by_cmp tag_cmp t (tag_of (key_in h (p - p % 2 ^ k) k))) same in
                ap (λ x. cond (eq_by_cmp tag_cmp t there) None (cond x None o)) (and_right b _ (le-ltb s span from)) ∙ ap (λ x. cond x None o) (sym at ∙ sym (and_kept b _ (lt-ltb s (span + 1) (omega (arith, same)))))
            | inr apart ↦ ap (λ x. cond x None (cond (b && nat_lt s span) None o)) (other apart) ∙ ap (λ x. cond (b && x) None o) (le-ltb s span from ∙ sym (le-ltb s (span + 1) (omega (arith, from, apart))))
          ]
        ]

    -- Nothing of this span is held.
    pub gone_unused : ((t : Tag) → span_of (key_of t) ≡ span → finite.get m t ≡ None) → AreGone m (span + 1)
    gone_unused unused t =
        let o = finite.get old t in
        let s = span_of (key_of t) in
        let b = is_block_at h p t in
        gone t ∙ elim (cases_lt s span) as (λ _. cond (b && nat_lt s span) None o ≡ cond (b && nat_lt s (span + 1)) None o) [
          | inl less ↦ ap (λ x. cond (b && x) None o) (lt-ltb s span less ∙ sym (lt-ltb s (span + 1) (omega (arith, less))))
          | inr from ↦ elim (cases_eq s span) as (λ _. cond (b && nat_lt s span) None o ≡ cond (b && nat_lt s (span + 1)) None o) [
            | inl same ↦
                let none : o ≡ None = ap (λ x. cond x None o) (sym (and_right b _ (le-ltb s span from))) ∙ sym (gone t) ∙ unused t same in
                none_either (b && nat_lt s span) o none ∙ sym (none_either (b && nat_lt s (span + 1)) o none)
            | inr apart ↦ ap (λ x. cond (b && x) None o) (le-ltb s span from ∙ sym (le-ltb s (span + 1) (omega (arith, from, apart))))
          ]
        ]

    -- All that was held has a span below this one.
    pub all_gone : ((t : Tag) (e : Entry) → finite.get old t ≡ Some e → span_of (key_of t) < span) → (t : Tag) → finite.get m t ≡ cond (is_block_at h p t) None (finite.get old t)
    all_gone below t = gone t ∙ elim (finite.get old t) as (λ o. finite.get old t ≡ o → cond (is_block_at h p t && nat_lt (span_of (key_of t)) span) None o ≡ cond (is_block_at h p t) None o) [
      | None ↦ λ _. none_either (is_block_at h p t && nat_lt (span_of (key_of t)) span) None refl ∙ sym (none_either (is_block_at h p t) None refl)
      | Some e ↦ λ is. ap (λ b. cond b None (Some e)) (and_kept (is_block_at h p t) _ (lt-ltb (span_of (key_of t)) span (below t e is)))
    ] refl
