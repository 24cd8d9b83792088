-- Reads of a run, one command after another, and what is found again.
use Rattle.std.proofs.Common.{◌≡◌, ◌≢◌, ◌<◌, ◌≤◌, ◌+◌, ℕ, suc, Bool, true, cond, ◌&&◌, List, [], ◌∷◌, ◌++◌, length, length-append, take, Some, refl, sym, ap, subst, ◌∙◌, inl, inr, eq-eqb, ne_eqb, arith}
use Rattle.std.proofs.lemmas.Bool.{cases_eq}
use Rattle.std.proofs.lemmas.Option.{slice_get_within, same_Some}
use Rattle.ring.proofs.Lists.{at_end, in_front}
use Rattle.std.specs.Prelude.{slice_get}
use Rattle.ring.specs.Runs.{Raw, Half, Lo, Hi, Look, Test, Read, Trail, half_read, same_half, head_read, half_of, IsSteady, Control, raws_by, taken_by, acknowledged_by, syncs_taken, syncs_in}
use Rattle.ring.specs.consumer.{HasSeen, reads_from, IsCurrent, IsDeferring}
use Rattle.ring.specs.table.{PortValue}

-- ---- what was read at the head is found again

pub look_again : (c : Control) (t : Trail) (raw : Raw) → IsSteady (Look c ∷ t) → HasSeen t raw → c.prod.number ≢ c.cons.number
look_again c t raw s seen = s.0 Lo raw.lo (seen Lo)

pub test_again : (limit found : ℕ) (c : Control) (t : Trail) (raw : Raw) → IsSteady (Test limit found ∷ Look c ∷ t) → HasSeen t raw → 1 ≤ limit → found ≢ 0
test_again limit found c t raw s seen some none = let one : 1 ≤ found = s.0 Lo raw.lo (seen Lo) some in absurd (omega (arith, one, none))

pub read_again : (lo hi limit found : ℕ) (c : Control) (t : Trail) (raw : Raw) → IsSteady (Read 0 Hi hi ∷ Read 0 Lo lo ∷ Test limit found ∷ Look c ∷ t) → HasSeen t raw
    → ◌≡◌ {A = Raw} (record { lo = lo; hi = hi }) raw
read_again lo hi limit found c t raw s seen =
    let high : hi ≡ raw.hi = s.0 raw.hi (seen Hi) refl in
    let low : lo ≡ raw.lo = s.1.0 raw.lo (seen Lo) refl in
    (λ k. let r : Raw = record { lo = low k; hi = high k } in r)

-- ---- a run of reads

pub reads_snoc : (o : ℕ) (rs : List Raw) (r : Raw) (t : Trail) → reads_from o (rs ++ r ∷ []) t ≡ Read (o + length rs) Hi r.hi ∷ Read (o + length rs) Lo r.lo ∷ reads_from o rs t
reads_snoc o [] r t = let e : o ≡ o + 0 = omega arith in ap (λ (n : ℕ). let u : Trail = Read n Hi r.hi ∷ Read n Lo r.lo ∷ t in u) e
reads_snoc o (x ∷ xs) r t =
    let u : Trail = Read o Hi x.hi ∷ Read o Lo x.lo ∷ t in
    let e : suc o + length xs ≡ o + length (x ∷ xs) = omega arith in
    reads_snoc (suc o) xs r u ∙ ap (λ (n : ℕ). let v : Trail = Read n Hi r.hi ∷ Read n Lo r.lo ∷ reads_from (suc o) xs u in v) e

head_after : (o : ℕ) (rs : List Raw) (t : Trail) (half : Half) → head_read half (reads_from (suc o) rs t) ≡ head_read half t
head_after o [] t half = refl
head_after o (x ∷ xs) t half = head_after (suc o) xs (Read (suc o) Hi x.hi ∷ Read (suc o) Lo x.lo ∷ t) half
    ∙ ap (λ (b : Bool). cond (b && same_half half Hi) (Some x.hi) (cond (b && same_half half Lo) (Some x.lo) (head_read half t))) (ne_eqb (suc o) 0 (λ e. absurd (omega (arith, e))))

pub seen_first : (t : Trail) (rs : List Raw) (raw : Raw) (rest : List Raw) → rs ≡ raw ∷ rest → HasSeen (reads_from 0 rs t) raw
seen_first t rs raw rest is = subst (λ (l : List Raw). HasSeen (reads_from 0 l t) raw) (sym is) (λ half. head_after 0 rest (Read 0 Hi raw.hi ∷ Read 0 Lo raw.lo ∷ t) half ∙ here half)
  where
    here : (half : Half) → head_read half (Read 0 Hi raw.hi ∷ Read 0 Lo raw.lo ∷ t) ≡ Some (half_of half raw)
    here Lo = refl
    here Hi = refl

pub steady_before : (o : ℕ) (rs : List Raw) (t : Trail) → IsSteady (reads_from o rs t) → IsSteady t
steady_before o [] t s = s
steady_before o (x ∷ xs) t s = (steady_before (suc o) xs (Read o Hi x.hi ∷ Read o Lo x.lo ∷ t) s).1.1

-- what one more read in a run leaves
module _ (lo hi : ℕ) where
  abbrev one : Raw
  one = record { lo = lo; hi = hi }

  now : (t : Trail) (k : ℕ) (h : Half) → cond (true && same_half h Hi) (Some hi) (cond (true && same_half h Lo) (Some lo) (half_read k h t)) ≡ Some (half_of h one)
  now t k Lo = refl
  now t k Hi = refl

  pub read_more : (xs : List Raw) (i : ℕ) (t : Trail) → length xs ≡ i
      → ((k : ℕ) (raw : Raw) (half : Half) → slice_get xs k ≡ Some raw → half_read k half t ≡ Some (half_of half raw))
      → (k : ℕ) (raw : Raw) (half : Half) → slice_get (xs ++ one ∷ []) k ≡ Some raw
      → half_read k half (Read i Hi hi ∷ Read i Lo lo ∷ t) ≡ Some (half_of half raw)
  read_more xs i t long before k raw half at = elim (cases_eq k i) [
    | inl same ↦
        let is : one ≡ raw = same_Some one raw (sym (at_end xs one []) ∙ ap (slice_get (xs ++ one ∷ [])) (long ∙ sym same) ∙ at) in
        ap (λ (b : Bool). cond (b && same_half half Hi) (Some hi) (cond (b && same_half half Lo) (Some lo) (half_read k half t))) (eq-eqb k i same)
        ∙ now t k half ∙ ap (λ (r : Raw). Some (half_of half r)) is
    | inr other ↦
        let within : k < length (xs ++ one ∷ []) = slice_get_within (xs ++ one ∷ []) k raw at in
        let many = length-append xs (one ∷ []) in
        let low : k < length xs = omega (arith, within, many, other, long) in
        ap (λ (b : Bool). cond (b && same_half half Hi) (Some hi) (cond (b && same_half half Lo) (Some lo) (half_read k half t))) (ne_eqb k i other)
        ∙ before k raw half (sym (in_front xs (one ∷ []) k low) ∙ at)
  ]

  pub run_more : (d s s1 s2 : PortValue) (xs ys : List Raw) (i : ℕ) → length xs ≡ i → record s { history = [] } ≡ record d { trail = reads_from 0 xs d.trail; history = [] }
      → record s1 { history = [] } ≡ record s { trail = Read i Lo lo ∷ s.trail; history = [] } → record s2 { history = [] } ≡ record s1 { trail = Read i Hi hi ∷ s1.trail; history = [] } → ys ≡ xs ++ one ∷ []
      → record s2 { history = [] } ≡ record d { trail = reads_from 0 ys d.trail; history = [] }
  run_more d s s1 s2 xs ys i long s_is s1_is s2_is ys_is =
      let n : 0 + length xs ≡ i = omega (arith, long) in
      let trail : reads_from 0 ys d.trail ≡ Read i Hi hi ∷ Read i Lo lo ∷ reads_from 0 xs d.trail =
      ap (λ (l : List Raw). reads_from 0 l d.trail) ys_is ∙ reads_snoc 0 xs one d.trail
      ∙ ap (λ (k : ℕ). let u : Trail = Read k Hi hi ∷ Read k Lo lo ∷ reads_from 0 xs d.trail in u) n in
      s2_is ∙ ap (λ (x : PortValue). let y : PortValue = record x { trail = Read i Hi hi ∷ x.trail } in y) s1_is
      ∙ ap (λ (x : PortValue). let y : PortValue = record x { trail = Read i Hi hi ∷ Read i Lo lo ∷ x.trail } in y) s_is
      ∙ ap (λ (t : Trail). let y : PortValue = record d { trail = t; history = [] } in y) (sym trail)

  pub trail_more : (s s1 s2 : PortValue) (i : ℕ) → record s1 { history = [] } ≡ record s { trail = Read i Lo lo ∷ s.trail; history = [] } → record s2 { history = [] } ≡ record s1 { trail = Read i Hi hi ∷ s1.trail; history = [] }
      → s2.trail ≡ Read i Hi hi ∷ Read i Lo lo ∷ s.trail
  trail_more s s1 s2 i s1_is s2_is =
      ap (λ (x : PortValue). x.trail) s2_is ∙ ap (λ (x : PortValue). let u : Trail = Read i Hi hi ∷ x.trail in u) s1_is

-- Reads acknowledge nothing, and take nothing.
pub reads_keep : {X : Type 0} (f : Trail → X) → ((o : ℕ) (h : Half) (w : ℕ) (t : Trail) → f (Read o h w ∷ t) ≡ f t) → (o : ℕ) (rs : List Raw) (t : Trail) → f (reads_from o rs t) ≡ f t
reads_keep f same o [] t = refl
reads_keep f same o (x ∷ xs) t =
    reads_keep f same (suc o) xs (Read o Hi x.hi ∷ Read o Lo x.lo ∷ t) ∙ same o Hi x.hi (Read o Lo x.lo ∷ t) ∙ same o Lo x.lo t

pub still_current : (o : ℕ) (rs : List Raw) (t : Trail) → IsCurrent t → IsCurrent (reads_from o rs t)
still_current o rs t is s = reads_keep (acknowledged_by s) (λ o h w u. refl) o rs t ∙ is s ∙ sym (reads_keep (syncs_taken s) (λ o h w u. refl) o rs t)

pub still_deferring : (o : ℕ) (rs : List Raw) (t : Trail) (settled : ℕ) → IsDeferring t settled → IsDeferring (reads_from o rs t) settled
still_deferring o rs t settled is = record {
  few = subst (λ (n : ℕ). settled ≤ n) (sym (reads_keep taken_by (λ o h w u. refl) o rs t)) is.few;
  current = λ s. reads_keep (acknowledged_by s) (λ o h w u. refl) o rs t ∙ is.current s
      ∙ ap (λ (l : List Raw). syncs_in s (take settled l)) (sym (reads_keep raws_by (λ o h w u. refl) o rs t));
}

-- A run that is read again begins with the command read before.
pub run_again : (limit found : ℕ) (c : Control) (t u : Trail) (rs : List Raw) (raw : Raw) → u ≡ reads_from 0 rs (Test limit found ∷ Look c ∷ t) → 1 ≤ length rs
    → IsSteady u → HasSeen t raw → (rest : List Raw) × (rs ≡ raw ∷ rest)
run_again limit found c t u [] raw is some s seen = absurd (omega (arith, some))
run_again limit found c t u (r ∷ rs) raw is some s seen =
    let before : IsSteady (Read 0 Hi r.hi ∷ Read 0 Lo r.lo ∷ Test limit found ∷ Look c ∷ t) = steady_before 1 rs _ (subst IsSteady is s) in
    (rs, ap (λ (x : Raw). x ∷ rs) (read_again r.lo r.hi limit found c t raw before seen))
