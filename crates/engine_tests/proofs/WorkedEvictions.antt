-- What an eviction of old entries takes, for the stream table entry of stream 5 and the bound 3.
use Rattle.std.proofs.Common.{◌≡◌, ℕ, false, not, cond, Option, Some, None, sym, ◌∙◌, ap}
use Rattle.std.specs.Prelude.{nat_lt}
use Rattle.std.specs.Option.{option_map_or}
use Rattle.std.specs.FinMap as finite
use Rattle.std.specs.FinMap.{get-retain_keys}
use Rattle.caches.specs.declared.tag.Entry.{Entry}
use Rattle.caches.specs.declared.tag.Tag.{Tag}
use Rattle.caches.specs.declared.tag.Tag.TheVariants.{Ste}
use Rattle.caches.specs.Held.{Entries, holds_passing, is_older, without_older}
use Rattle.caches.specs.TagOrder.{tag_cmp_exact}

abbrev tag : Tag
tag = Ste 5

module _ (entries : Entries) (entry : Entry) (held : finite.get entries tag ≡ Some entry) where
  left : finite.get (without_older 3 entries) tag ≡ cond (not (is_older 3 entry)) (Some entry) None
  left = get-retain_keys entries (λ t. not (holds_passing (is_older 3) entries t)) tag (λ x e. ap (λ t. not (holds_passing (is_older 3) entries t)) (sym (tag_cmp_exact tag x e)))
      ∙ ap (λ o. cond (not (option_map_or (is_older 3) o false)) o None) held

  -- What was filled when the third command had been taken stays.
  pub born_at_the_bound_stays : entry.born ≡ 3 → finite.get (without_older 3 entries) tag ≡ Some entry
  born_at_the_bound_stays born = left ∙ ap (λ (n : ℕ). cond (not (nat_lt n 3)) (Some entry) None) born

  -- What was filled before that goes.
  pub older_goes : entry.born ≡ 2 → finite.get (without_older 3 entries) tag ≡ None
  older_goes born = left ∙ ap (λ (n : ℕ). cond (not (nat_lt n 3)) (Some entry) None) born
