-- Words that say a tag with a block say a block.
use Rattle.std.proofs.Common.{◌≡◌, ℕ, ◌==◌, ◌||◌, Bool, true, false, sym, ap, subst, ◌∙◌, refl, Option, None}
use Rattle.caches.specs.declared.tag.Tag.{Tag}
use Rattle.caches.specs.declared.tag.Tag.TheVariants.{Ste, Cd, S1, S2, El2, Atc}
use Rattle.smmuq_c.specs.declared.tags.TagWords.{TagWords}
use Rattle.smmuq_c.specs.Tags.{SaysBlock, SaysTag, IsTagOf}

abbrev pub has_block : ℕ → Bool
has_block kind = kind == 3 || kind == 4 || kind == 5 || kind == 6

abbrev pub SaysABlock : TagWords → Type 0
SaysABlock w = (page : ℕ) × (span : ℕ) × SaysBlock w page span

other : (n : ℕ) {m : ℕ} {A : Type 0} → has_block n ≡ true → m ≡ n → has_block m ≡ false → A
other n has is not_has = let e = ap has_block is in absurd (cc)

pub says_a_block : (w : TagWords) (kind : ℕ) → w.kind ≡ kind → has_block kind ≡ true → (tag : Tag) → SaysTag w tag → SaysABlock w
says_a_block w kind is has (Ste sid) s = other kind has (sym s.0 ∙ is) refl
says_a_block w kind is has (Cd sid ssid) s = other kind has (sym s.0 ∙ is) refl
says_a_block w kind is has (S1 vmid scope page span) s = (page, span, s.3)
says_a_block w kind is has (S2 vmid page span) s = (page, span, s.2)
says_a_block w kind is has (El2 scope page span) s = (page, span, s.2)
says_a_block w kind is has (Atc sid ssid page span) s = (page, span, s.3)

pub no_block : (w : TagWords) (kind : ℕ) (found : Option Tag) → found ≡ None → w.kind ≡ kind → has_block kind ≡ true
    → ((page span : ℕ) → ¬ SaysBlock w page span) → IsTagOf w found
no_block w kind found is kind_is has none =
    subst (λ (r : Option Tag). IsTagOf w r) (sym is) (λ tag says. let b = says_a_block w kind kind_is has tag says in none b.0 b.1 b.2)
