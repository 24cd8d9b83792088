-- How many keys of an ordered map pass a test, as an entry is put in or taken out.
use Rattle.std.proofs.Common.{◌≡◌, ℕ, ◌+◌, ◌<◌, Bool, true, false, true≢false, cond, Some, is_some, refl, sym, ◌∙◌, ap, List, [], ◌∷◌, arith}
use Rattle.std.proofs.lemmas.List.Sums.{sum_by-cons}
use Rattle.std.specs.List.{count_by}
use Rattle.std.specs.declared.cmp.Ordering.TheVariants.{Less, Equal, Greater}
use Rattle.std.specs.Ordering.{eq_by_cmp, is_eq, match_ordering}
use Rattle.std.specs.Map.{lookup, keys_of, remove_entry}
use Rattle.std.specs.BTreeMap.{is_at, insert_entry}
use Rattle.caches.specs.declared.tag.Entry.{Entry}
use Rattle.caches.specs.declared.key.Key.{Key}
use Rattle.std.proofs.lemmas.Map.Views.{tells_apart}
use Rattle.caches.proofs.KeyOrder.{key_cmp, key_exact}

pub equal_keys : (x y : Key) → eq_by_cmp key_cmp x y ≡ true → x ≡ y
equal_keys = tells_apart key_exact

abbrev pub one_if : Bool → ℕ
one_if b = cond b 1 0

module _ (p : Key → Bool) where
  abbrev passing : List (Key × Entry) → ℕ
  passing es = count_by p (keys_of es)

  one_first : (e : Key × Entry) (es : List (Key × Entry)) → passing (e ∷ es) ≡ one_if (p e.0) + passing es
  one_first e es = sum_by-cons (λ k. one_if (p k)) e.0 (keys_of es)

  -- ---- what is found counts
  pub found_counts : (es : List (Key × Entry)) (k : Key) → p k ≡ true → is_some (lookup (is_at (key_cmp k)) es) ≡ true → 0 < passing es
  found_counts [] k pass found = cc
  found_counts (e ∷ es) k pass found = elim (eq_by_cmp key_cmp k e.0) as (λ b. eq_by_cmp key_cmp k e.0 ≡ b → is_some (cond b (Some e.1) (lookup (is_at (key_cmp k)) es)) ≡ true → 0 < passing (e ∷ es)) [
    | true ↦ λ at _. let here : p e.0 ≡ true = ap p (sym (equal_keys k e.0 at)) ∙ pass in let n : one_if (p e.0) ≡ 1 = ap one_if here in omega (arith, n, one_first e es)
    | false ↦ λ _ more. let rest = found_counts es k pass more in omega (arith, rest, one_first e es)
  ] refl found

  -- two keys that differ count twice
  pub two_count : (es : List (Key × Entry)) (k q : Key) → p k ≡ true → p q ≡ true → eq_by_cmp key_cmp k q ≡ false → is_some (lookup (is_at (key_cmp k)) es) ≡ true → is_some (lookup (is_at (key_cmp q)) es) ≡ true → 1 < passing es
  two_count [] k q pass pass' apart found found' = cc
  two_count (e ∷ es) k q pass pass' apart found found' =
      elim (eq_by_cmp key_cmp k e.0) as (λ b. eq_by_cmp key_cmp k e.0 ≡ b → is_some (cond b (Some e.1) (lookup (is_at (key_cmp k)) es)) ≡ true → 1 < passing (e ∷ es)) [
        | true ↦ λ at _.
            let here : one_if (p e.0) ≡ 1 = ap one_if (ap p (sym (equal_keys k e.0 at)) ∙ pass) in
            elim (eq_by_cmp key_cmp q e.0) as (λ b. eq_by_cmp key_cmp q e.0 ≡ b → is_some (cond b (Some e.1) (lookup (is_at (key_cmp q)) es)) ≡ true → 1 < passing (e ∷ es)) [
              | true ↦ λ at' _. let itself : eq_by_cmp key_cmp k e.0 ≡ false = ap (eq_by_cmp key_cmp k) (sym (equal_keys q e.0 at')) ∙ apart in absurd (true≢false (sym at ∙ itself))
              | false ↦ λ _ more. let rest = found_counts es q pass' more in omega (arith, here, rest, one_first e es)
            ] refl found'
        | false ↦ λ _ more.
            elim (eq_by_cmp key_cmp q e.0) as (λ b. eq_by_cmp key_cmp q e.0 ≡ b → is_some (cond b (Some e.1) (lookup (is_at (key_cmp q)) es)) ≡ true → 1 < passing (e ∷ es)) [
              | true ↦ λ at' _. let here : one_if (p e.0) ≡ 1 = ap one_if (ap p (sym (equal_keys q e.0 at')) ∙ pass') in let rest = found_counts es k pass more in omega (arith, here, rest, one_first e es)
              | false ↦ λ _ more'. let rest = two_count es k q pass pass' apart more more' in omega (arith, rest, one_first e es)
            ] refl found'
      ] refl found

  -- ---- an entry is taken out or put in
  pub count_removed : (es : List (Key × Entry)) (k : Key) → is_some (lookup (is_at (key_cmp k)) es) ≡ true → passing (remove_entry (is_at (key_cmp k)) es) + one_if (p k) ≡ passing es
  count_removed [] k found = cc
  count_removed (e ∷ es) k found = elim (eq_by_cmp key_cmp k e.0) as (λ b. eq_by_cmp key_cmp k e.0 ≡ b → is_some (cond b (Some e.1) (lookup (is_at (key_cmp k)) es)) ≡ true → passing (cond b es (e ∷ remove_entry (is_at (key_cmp k)) es)) + one_if (p k) ≡ passing (e ∷ es)) [
    | true ↦ λ at _. let same = ap (λ x. one_if (p x)) (equal_keys k e.0 at) in omega (arith, same, one_first e es)
    | false ↦ λ _ more. let rest = count_removed es k more in omega (arith, rest, one_first e es, one_first e (remove_entry (is_at (key_cmp k)) es))
  ] refl found

  pub count_inserted : (es : List (Key × Entry)) (k : Key) (v : Entry) → is_some (lookup (is_at (key_cmp k)) es) ≡ false → passing (insert_entry key_cmp es k v) ≡ passing es + one_if (p k)
  count_inserted [] k v none = let one = one_first (k, v) [] in omega (arith, one)
  count_inserted (e ∷ es) k v none = elim (key_cmp k e.0) as (λ r. is_some (cond (is_eq r) (Some e.1) (lookup (is_at (key_cmp k)) es)) ≡ false → passing (match_ordering r ((k, v) ∷ e ∷ es) ((e.0, v) ∷ es) (e ∷ insert_entry key_cmp es k v)) ≡ passing (e ∷ es) + one_if (p k)) [
    | Less ↦ λ _. let one = one_first (k, v) (e ∷ es) in omega (arith, one)
    | Equal ↦ λ no. cc
    | Greater ↦ λ more. let rest = count_inserted es k v more in omega (arith, rest, one_first e es, one_first e (insert_entry key_cmp es k v))
  ] none
