-- What a look-up by address may not answer: for each part of its definition a case in which the answer is false. The page is
-- the sixth of the block of 2^9 pages that begins at page 512, and the mask has single pages and these blocks.
use Rattle.std.proofs.Common.{◌≡◌, ℕ, inl, inr, Some, None, refl, sym, ◌∙◌, arith}
use Rattle.std.proofs.lemmas.Bool.{cases_lt}
use Rattle.std.proofs.lemmas.Nat.Bits.{bit_at_above}
use Rattle.std.proofs.lemmas.Option.{same_Some}
use Rattle.std.specs.FinMap as finite
use Rattle.caches.specs.declared.address_space.AddressSpace.{AddressSpace}
use Rattle.caches.specs.declared.address_space.AddressSpace.TheVariants.{El2, Atc}
use Rattle.caches.specs.declared.tag.Entry.{Entry}
use Rattle.caches.specs.declared.tag.Scope.TheVariants.{Global, Of}
use Rattle.caches.specs.declared.tag.Tag.TheVariants as tag
use Rattle.caches.specs.Blocks.{HasSpan}
use Rattle.caches.specs.Finding.{IsHeldAt, IsGreatest, IsFound}
use Rattle.caches.specs.Held.{Entries}

abbrev space : AddressSpace
space = El2 5

abbrev page : ℕ
page = 517

abbrev mask : ℕ
mask = 513

has_blocks : HasSpan mask 9
has_blocks = (omega arith, refl)

module _ (entries : Entries) (block other : Entry) where
  -- Where the block is held, no single page is told.
  pub greater_is_not_passed_over : finite.get entries (tag.El2 (Of 5) 512 9) ≡ Some block → (it : IsGreatest entries space page mask other) → it.span ≡ 0 → ⊥
  greater_is_not_passed_over held it single =
      let none = (it.greater 9 (omega (arith, single)) has_blocks).0 in
      let both : Some block ≡ None = sym held ∙ none in cc

  -- A mask of single pages alone has no block told.
  pub only_what_is_asked_for_is_told : (it : IsGreatest entries space page 1 other) → it.span ≡ 0
  only_what_is_asked_for_is_told it = elim (cases_lt it.span 1) as (λ _. it.span ≡ 0) [
    | inl below ↦ omega (arith, below)
    | inr from ↦ let clear = bit_at_above 1 1 it.span (omega arith) from in let set = it.asked.1 in absurd (omega (arith, clear, set))
  ]

  -- Where the space's own block is held, the global one isn't told.
  pub own_comes_first : finite.get entries (tag.El2 (Of 5) 512 9) ≡ Some block → IsHeldAt entries space page 9 other → other ≡ block
  own_comes_first held it = elim it as (λ _. other ≡ block) [
    | inl own ↦ same_Some other block (sym own ∙ held)
    | inr shared ↦ let both : Some block ≡ None = sym held ∙ shared.0 in cc
  ]

  -- Where the space's own block is held, none isn't told, and neither where the global one is.
  pub own_is_not_missed : finite.get entries (tag.El2 (Of 5) 512 9) ≡ Some block → ¬ IsFound entries space page mask None
  own_is_not_missed held it = let both : Some block ≡ None = sym held ∙ (it 9 has_blocks).0 in cc

  pub global_is_not_missed : finite.get entries (tag.El2 Global 512 9) ≡ Some block → ¬ IsFound entries space page mask None
  global_is_not_missed held it = let both : Some block ≡ None = sym held ∙ (it 9 has_blocks).1 in cc

  -- What an endpoint holds for no substream isn't told of one.
  pub substreams_are_apart : finite.get entries (tag.Atc 7 (Some 9) 32 0) ≡ None → ¬ IsHeldAt entries (Atc 7 (Some 9)) 32 0 other
  substreams_are_apart none it = elim it as (λ _. ⊥) [
    | inl own ↦ let both : None ≡ Some other = sym none ∙ own in cc
    | inr shared ↦ let both : None ≡ Some other = sym none ∙ shared.1 in cc
  ]
