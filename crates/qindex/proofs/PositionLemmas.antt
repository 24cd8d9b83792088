-- Positions, and the wrapped numbers kept of them.
use Rattle.std.proofs.Common.{◌≡◌, ◌≢◌, ℕ, zero, suc, ◌+◌, ◌-◌, ◌*◌, ◌%◌, ◌^◌, ◌<◌, ◌≤◌, inl, inr, refl, ap, sym, ◌∙◌, arith}
use Rattle.std.proofs.lemmas.Bool.{cases_lt, lt-leb, le-leb, eq-eqb, ne_eqb}
use Rattle.std.proofs.lemmas.Nat.{and_mask, pow_pos, pow-add, mod-pow-add, mod_below, div-mul-add, mod-mul-add}
use Rattle.std.proofs.Math.Nat.{pow-le-pow_right, mod-add-mod, add-mod_right, add-div_right, mod-eq_of_lt}
use Rattle.std.specs.Prelude.{nat_le, ◌==◌, bit_and}
use Rattle.qindex.specs.Positions.{size, place, lap, wrap_bit, IndexValue, index_of}
use Rattle.qindex.specs.Indexes.{IsGeometry, IsIndex}
use Rattle.qindex.specs.Laws.{IndexesArePlaceAndWrapBit, IndexesTellPlaceAndWrapBit, WrapBitsTurnByLap}

-- ---- sizes

pub some_slots : (g : ℕ) → 0 < size g
some_slots g = pow_pos g

pub two_or_more : (g : ℕ) → IsGeometry g → 2 ≤ size g
two_or_more g is = pow-le-pow_right (omega arith) is.0

pub size_fits : (g : ℕ) → IsGeometry g → size g ≤ 524288
size_fits g is = pow-le-pow_right (omega arith) is.1

pub twice : (g : ℕ) → 2 * size g ≡ 2 ^ (1 + g)
twice g = sym (pow-add 2 1 g)

-- indexes have at most 20 bits
pub index_fits : (index : IndexValue) → IsIndex index → index.number < 2 ^ 20
index_fits index is = let most = size_fits index.geometry is.geometry in omega (arith, is.number, most)

-- ---- the parts of an index

pub number_parts : (g p : ℕ) → p % (2 * size g) ≡ wrap_bit g p * size g + place g p
number_parts g p = ap (λ n. p % n) (twice g) ∙ mod-pow-add p 1 g

pub place_of_number : (g p : ℕ) → place g (p % (2 * size g)) ≡ place g p
place_of_number g p =
    ap (place g) (number_parts g p) ∙ mod-mul-add (wrap_bit g p) (size g) (place g p) (mod_below p (size g) (some_slots g))

pub lap_of_number : (g p : ℕ) → lap g (p % (2 * size g)) ≡ wrap_bit g p
lap_of_number g p =
    ap (lap g) (number_parts g p) ∙ div-mul-add (wrap_bit g p) (size g) (place g p) (mod_below p (size g) (some_slots g))

pub wrap_bit_of_number : (g p : ℕ) → wrap_bit g (p % (2 * size g)) ≡ wrap_bit g p
wrap_bit_of_number g p =
    let bit : wrap_bit g p < 2 = mod_below (lap g p) 2 (omega arith) in
    ap (λ n. n % 2) (lap_of_number g p) ∙ mod-eq_of_lt bit

one_of : (n : ℕ) → n < 2 → n ≢ 0 → n ≡ 1
one_of zero small some = absurd (some refl)
one_of (suc zero) small some = refl
one_of (suc (suc n)) small some = absurd (omega (arith, small))

pub number-lt : (g p : ℕ) → p % (2 * size g) < 2 * size g
number-lt g p = let some = some_slots g in mod_below p (2 * size g) (omega (arith, some))

pub parts : IndexesArePlaceAndWrapBit
parts g p is = record { index = record { geometry = is; number = number-lt g p }; number = number_parts g p }

-- ---- going on

pub goes_on : (g p n : ℕ) → (p % (2 * size g) + n) % (2 * size g) ≡ (p + n) % (2 * size g)
goes_on g p n = mod-add-mod p (2 * size g) n

pub forward_of : (g p n : ℕ) → index_of g (p % (2 * size g) + n) ≡ index_of g (p + n)
forward_of g p n = ap (λ x. record { geometry = g; number = x }) (goes_on g p n)

alike_number : (g p q n : ℕ) → p % (2 * size g) ≡ q % (2 * size g) → (p + n) % (2 * size g) ≡ (q + n) % (2 * size g)
alike_number g p q n is = sym (goes_on g p n) ∙ ap (λ x. (x + n) % (2 * size g)) is ∙ goes_on g q n

pub alike : IndexesTellPlaceAndWrapBit
alike g p q n is =
    let number = alike_number g p q n (ap (λ (i : IndexValue). i.number) is) in
    record {
      place = sym (place_of_number g (p + n)) ∙ ap (place g) number ∙ place_of_number g (q + n);
      wrap_bit = sym (wrap_bit_of_number g (p + n)) ∙ ap (wrap_bit g) number ∙ wrap_bit_of_number g (q + n);
      index = ap (λ x. record { geometry = g; number = x }) number;
    }

pub turns : WrapBitsTurnByLap
turns g p =
    let next : lap g (p + size g) ≡ lap g p + 1 = add-div_right p (some_slots g) in
    record { place = add-mod_right p (size g); wrap_bit = omega (arith, next) }

-- ---- what the code computes

-- `1 << g`
pub size_shifted : (g : ℕ) → IsGeometry g → 1 * 2 ^ g % 2 ^ 32 ≡ size g
size_shifted g is = let most = size_fits g is in mod-eq_of_lt (omega (arith, most)) ∙ (omega arith)

-- `2 << g`
pub numbers_shifted : (g : ℕ) → IsGeometry g → 2 * 2 ^ g % 2 ^ 32 ≡ 2 * size g
numbers_shifted g is = let most = size_fits g is in mod-eq_of_lt (omega (arith, most))

pub masked_number : (g n : ℕ) → IsGeometry g → bit_and n (2 * 2 ^ g % 2 ^ 32 - 1) ≡ n % (2 * size g)
masked_number g n is =
    ap (λ m. bit_and n (m - 1)) (numbers_shifted g is ∙ twice g) ∙ and_mask n (1 + g) ∙ ap (λ m. n % m) (sym (twice g))

pub masked_place : (g n size : ℕ) → size ≡ 2 ^ g → bit_and n (size - 1) ≡ place g n
masked_place g n size is = ap (λ m. bit_and n (m - 1)) is ∙ and_mask n g

-- The wrap bit of an index is set if its number is the size or more.
pub wrap_seen : (g n : ℕ) → n < 2 * size g → nat_le (size g) n ≡ (wrap_bit g n == 1)
wrap_seen g n small =
    let whole : n ≡ wrap_bit g n * size g + place g n = sym (mod-eq_of_lt small) ∙ number_parts g n in
    let below : place g n < size g = mod_below n (size g) (some_slots g) in
    elim (cases_lt n (size g)) [
      | inl first ↦
          let bit : wrap_bit g n ≢ 1 = (λ e. let at : n ≡ 1 * size g + place g n = rw e at whole in omega (arith, at, first)) in
          lt-leb (size g) n first ∙ sym (ne_eqb _ _ bit)
      | inr second ↦
          let bit : wrap_bit g n ≡ 1 = one_of (wrap_bit g n) (mod_below (lap g n) 2 (omega arith)) (λ e. let at : n ≡ 0 * size g + place g n = rw e at whole in omega (arith, at, second, below)) in
          le-leb (size g) n second ∙ sym (eq-eqb _ _ bit)
    ]
