-- The control word: its fields, and what one atomic operation on it changes.
use Rattle.std.proofs.Common.{◌≡◌, ℕ, zero, suc, Option, Some, None, ◌+◌, ◌-◌, ◌*◌, ◌/◌, ◌%◌, ◌^◌, ◌<◌, ◌≤◌, Bool, true, false, nat_eq, refl, ap, ap₂, sym, subst, ◌∙◌, arith}
use Rattle.std.proofs.lemmas.Nat.{and_mask, and_block, or_block, xor_block}
use Rattle.std.specs.Int.Bits.{and_zero_r, xor_assoc, xor_self, xor_zero_r, or_zero_r, xor_lt}
use Rattle.std.specs.Prelude.{◌==◌, not, bit_and, bit_or, bit_xor, ⊤, MatchOption}
use Rattle.std.specs.Option.{SomeIff}
use Rattle.qindex.specs.declared.control.Control.{Control}
use Rattle.qindex.specs.Positions.{IndexValue, size}
use Rattle.qindex.specs.Indexes.{IsGeometry, IsIndex, IsIndexNumber, distance}
use Rattle.qindex.specs.ControlWord.{IsControl, IsControlWord, packed, control_in, field, bit, advance_mask, close_mask, closed}
use Rattle.qindex.specs.Laws.{QueuesHaveAControl, WordsSayTheirControl, ControlsHaveTheirWord, OrCloses, OrSetsBit31Alone, XorAdvances, XorTurnsConsAlone}
use Rattle.qindex.proofs.PositionLemmas.{size_fits, index_fits, number-lt}
use Rattle.qindex.proofs.QueueLemmas.{distance_in_queue}

-- ---- fields

pub bit-lt : (b : Bool) → bit b < 2
bit-lt true = omega arith
bit-lt false = omega arith

bit_again : (b : Bool) → (bit b == 1) ≡ b
bit_again true = refl
bit_again false = refl

bit_of_bool : (n : ℕ) → n < 2 → bit (n == 1) ≡ n
bit_of_bool zero small = refl
bit_of_bool (suc zero) small = refl
bit_of_bool (suc (suc n)) small = absurd (omega (arith, small))

-- ---- a word says only one control

pub control : QueuesHaveAControl
control g t h closed is order near =
    record {
      prod = record { geometry = is; number = number-lt g t };
      cons = record { geometry = is; number = number-lt g h };
      prod_geometry = refl;
      cons_geometry = refl;
      within = rw (distance_in_queue g t h order near) (omega (arith, near));
    }

-- the fields of a word composed of them
record HasFields (word p b c : ℕ) : Type 0 where
  pub prod : field word 19 0 ≡ p
  pub below_closed : field word 30 20 ≡ 0
  pub closed : field word 31 31 ≡ b
  pub cons : field word 51 32 ≡ c
  pub above_cons : field word 63 52 ≡ 0
  pub fits : word < 2 ^ 64

fields_of : (p b c : ℕ) → p < 2 ^ 20 → b < 2 → c < 2 ^ 20 → HasFields (p + b * 2 ^ 31 + c * 2 ^ 32) p b c
fields_of p b c p_fits b_fits c_fits = record {
  prod = omega (arith, p_fits);
  below_closed = omega (arith, p_fits);
  closed = omega (arith, p_fits, b_fits);
  cons = omega (arith, p_fits, b_fits, c_fits);
  above_cons = omega (arith, p_fits, b_fits, c_fits);
  fits = omega (arith, p_fits, b_fits, c_fits);
}

control_again : (g : ℕ) (c : Control) → IsControl g c → control_in g (packed c) ≡ c
control_again g c is =
    let f = fields_of c.prod.number (bit c.closed) c.cons.number (index_fits c.prod is.prod) (bit-lt c.closed) (index_fits c.cons is.cons) in
    let closed : (field (packed c) 31 31 == 1) ≡ c.closed = ap (λ n. n == 1) f.closed ∙ bit_again c.closed in
    λ k. record {
      prod = record { geometry = sym is.prod_geometry k; number = f.prod k };
      cons = record { geometry = sym is.cons_geometry k; number = f.cons k };
      closed = closed k;
    }

pub said : WordsSayTheirControl
said g c is =
    let f = fields_of c.prod.number (bit c.closed) c.cons.number (index_fits c.prod is.prod) (bit-lt c.closed) (index_fits c.cons is.cons) in
    let again = control_again g c is in
    record {
      is_control_word = record {
        no_bit_below_closed = f.below_closed;
        no_bit_above_cons = f.above_cons;
        prod = rw (f.prod, sym is.prod_geometry) is.prod.number;
        cons = rw (f.cons, sym is.cons_geometry) is.cons.number;
        within = subst (λ (d : Control). distance d.prod d.cons ≤ size g) (sym again) is.within;
      };
      says = again;
      fits = f.fits;
    }

pub again : ControlsHaveTheirWord
again g word is fits says =
    let closed : bit (field word 31 31 == 1) ≡ field word 31 31 = bit_of_bool (field word 31 31) (omega arith) in
    record {
      control = record {
        prod = record { geometry = is; number = says.prod };
        cons = record { geometry = is; number = says.cons };
        prod_geometry = refl;
        cons_geometry = refl;
        within = says.within;
      };
      packed_again =
          ap (λ b. field word 19 0 + b * 2 ^ 31 + field word 51 32 * 2 ^ 32) closed
          ∙ (omega (arith, fits, says.no_bit_below_closed, says.no_bit_above_cons));
    }

-- ---- one or

or_one : (c b : ℕ) → b < 2 → bit_or (c * 2 + b) 1 ≡ c * 2 + 1
or_one c zero small = or_block 1 c 0 0 1 (omega arith) (omega arith) ∙ ap (λ x. x * 2 + 1) (or_zero_r c)
or_one c (suc zero) small = or_block 1 c 0 1 1 (omega arith) (omega arith) ∙ ap (λ x. x * 2 + 1) (or_zero_r c)
or_one c (suc (suc b)) small = absurd (omega (arith, small))

or_word : (high b low : ℕ) → b < 2 → low < 2 ^ 31 → bit_or ((high * 2 + b) * 2 ^ 31 + low) close_mask ≡ (high * 2 + 1) * 2 ^ 31 + low
or_word high b low small below =
    or_block 31 (high * 2 + b) 1 low 0 below (omega arith) ∙ ap₂ (λ x y. x * 2 ^ 31 + y) (or_one high b small) (or_zero_r low)

pub closes : OrCloses
closes g c is =
    let p = index_fits c.prod is.prod in
    let whole : packed c ≡ (c.cons.number * 2 + bit c.closed) * 2 ^ 31 + c.prod.number = omega arith in
    ap (λ w. bit_or w close_mask) whole ∙ or_word c.cons.number (bit c.closed) c.prod.number (bit-lt c.closed) (omega (arith, p)) ∙ (omega arith)

pub sets_bit_31 : OrSetsBit31Alone
sets_bit_31 word =
    let high = word / 2 ^ 32 in
    let b = word / 2 ^ 31 % 2 in
    let low = word % 2 ^ 31 in
    let whole : word ≡ (high * 2 + b) * 2 ^ 31 + low = omega arith in
    let is : bit_or word close_mask ≡ (high * 2 + 1) * 2 ^ 31 + low =
    ap (λ w. bit_or w close_mask) whole ∙ or_word high b low (omega arith) (omega arith) in
    record { set = rw is (omega arith); below = rw is (omega arith); above = rw is (omega arith) }

-- ---- one exclusive or

xor_back : (a b : ℕ) → bit_xor a (bit_xor a b) ≡ b
xor_back a b = sym (xor_assoc a a b) ∙ ap (λ x. bit_xor x b) (xor_self a)

xor_word : (top c mask low : ℕ) → c < 2 ^ 20 → mask < 2 ^ 20 → low < 2 ^ 32
    → bit_xor ((top * 2 ^ 20 + c) * 2 ^ 32 + low) (mask * 2 ^ 32) ≡ (top * 2 ^ 20 + bit_xor c mask) * 2 ^ 32 + low
xor_word top c mask low c_fits mask_fits below =
    let mask_is : mask * 2 ^ 32 ≡ mask * 2 ^ 32 + 0 = omega arith in
    let part : mask ≡ 0 * 2 ^ 20 + mask = omega arith in
    ap (bit_xor ((top * 2 ^ 20 + c) * 2 ^ 32 + low)) mask_is
    ∙ xor_block 32 (top * 2 ^ 20 + c) mask low 0 below (omega arith)
    ∙ ap₂ (λ x y. x * 2 ^ 32 + y)
    (ap (bit_xor (top * 2 ^ 20 + c)) part ∙ xor_block 20 top 0 c mask c_fits mask_fits ∙ ap (λ x. x * 2 ^ 20 + bit_xor c mask) (xor_zero_r top))
    (xor_zero_r low)

pub mask_fits : (from to : IndexValue) → IsIndex from → IsIndex to → bit_xor from.number to.number < 2 ^ 20
mask_fits from to f t = xor_lt 20 from.number to.number (index_fits from f) (index_fits to t)

pub turns_cons : XorTurnsConsAlone
turns_cons word from to f t =
    let top = word / 2 ^ 52 in
    let c = word / 2 ^ 32 % 2 ^ 20 in
    let low = word % 2 ^ 32 in
    let mask = bit_xor from.number to.number in
    let whole : word ≡ (top * 2 ^ 20 + c) * 2 ^ 32 + low = omega arith in
    let fits : c < 2 ^ 20 = omega arith in
    let new : bit_xor c mask < 2 ^ 20 = xor_lt 20 c mask fits (mask_fits from to f t) in
    let is : bit_xor word (advance_mask from to) ≡ (top * 2 ^ 20 + bit_xor c mask) * 2 ^ 32 + low =
    ap (λ w. bit_xor w (advance_mask from to)) whole ∙ xor_word top c mask low fits (mask_fits from to f t) (omega arith) in
    record {
      turned = λ from_is.
          let turned : bit_xor c mask ≡ to.number = ap (λ x. bit_xor x mask) from_is ∙ xor_back from.number to.number in
          rw is (omega (arith, new, turned));
      below = rw is (omega (arith, new));
      above = rw is (omega (arith, new));
    }

pub advances : XorAdvances
advances g c to is t =
    let p = index_fits c.prod is.prod in
    let b = bit-lt c.closed in
    let low = c.prod.number + bit c.closed * 2 ^ 31 in
    let mask = bit_xor c.cons.number to.number in
    let whole : packed c ≡ (0 * 2 ^ 20 + c.cons.number) * 2 ^ 32 + low = omega arith in
    ap (λ w. bit_xor w (mask * 2 ^ 32)) whole
    ∙ xor_word 0 c.cons.number mask low (index_fits c.cons is.cons) (mask_fits c.cons to is.cons t) (omega (arith, p, b))
    ∙ ap (λ x. (0 * 2 ^ 20 + x) * 2 ^ 32 + low) (xor_back c.cons.number to.number)
    ∙ (omega arith)

-- ---- what the code computes

-- `word & CLOSED != 0`
pub closed_seen : (word : ℕ) → not (nat_eq (bit_and word (2 ^ 31)) 0) ≡ (field word 31 31 == 1)
closed_seen word =
    let b = word / 2 ^ 31 % 2 in
    let low = word % 2 ^ 31 in
    let high = word / 2 ^ 31 in
    let whole : word ≡ high * 2 ^ 31 + low = omega arith in
    let is : bit_and word (2 ^ 31) ≡ b * 2 ^ 31 =
    ap (λ w. bit_and w (2 ^ 31)) whole
    ∙ and_block 31 high 1 low 0 (omega arith) (omega arith)
    ∙ ap₂ (λ x y. x * 2 ^ 31 + y) (and_mask high 1) (and_zero_r low)
    ∙ (omega arith) in
    ap (λ x. not (nat_eq x 0)) is ∙ by_bit b (omega arith)
  where
    by_bit : (b : ℕ) → b < 2 → not (nat_eq (b * 2 ^ 31) 0) ≡ (b == 1)
    by_bit zero small = refl
    by_bit (suc zero) small = refl
    by_bit (suc (suc b)) small = absurd (omega (arith, small))

-- What `unpack` reads: the index below the closed bit, and the one above the low half.
abbrev pub low_index : ℕ → ℕ → IndexValue
low_index g word = record { geometry = g; number = bit_and word (2 ^ 31 - 1) }

abbrev pub high_index : ℕ → ℕ → IndexValue
high_index g word = record { geometry = g; number = word / 2 ^ 32 }

pub masked_low : (word : ℕ) → bit_and word (2 ^ 31 - 1) ≡ word % 2 ^ 31
masked_low word = and_mask word 31

record IsRead (g word : ℕ) : Type 0 where
  pub prod : low_index g word ≡ (control_in g word).prod
  pub cons : high_index g word ≡ (control_in g word).cons
  pub no_bit_below_closed : field word 30 20 ≡ 0
  pub no_bit_above_cons : field word 63 52 ≡ 0

is_read : (g word : ℕ) → IsGeometry g → IsIndexNumber g (bit_and word (2 ^ 31 - 1)) → IsIndexNumber g (word / 2 ^ 32)
    → IsRead g word
is_read g word is low high =
    let most = size_fits g is in
    let masked = masked_low word in
    let prod : bit_and word (2 ^ 31 - 1) ≡ field word 19 0 = omega (arith, masked, low, most) in
    let cons : word / 2 ^ 32 ≡ field word 51 32 = omega (arith, high, most) in
    record {
      prod = λ k. record { geometry = g; number = prod k };
      cons = λ k. record { geometry = g; number = cons k };
      no_bit_below_closed = omega (arith, masked, low, most);
      no_bit_above_cons = omega (arith, high, most);
    }

abbrev pub ReadControl : ℕ → ℕ → Type 0
ReadControl g word = record { prod = low_index g word; cons = high_index g word; closed = not (nat_eq (bit_and word (2 ^ 31)) 0) } ≡ control_in g word

pub found : (g word : ℕ) → IsGeometry g → IsIndexNumber g (bit_and word (2 ^ 31 - 1)) → IsIndexNumber g (word / 2 ^ 32)
    → distance (low_index g word) (high_index g word) ≤ size g → IsControlWord g word × ReadControl g word
found g word is low high within =
    let read = is_read g word is low high in
    let number = λ (i : IndexValue). i.number in (
      record {
        no_bit_below_closed = read.no_bit_below_closed;
        no_bit_above_cons = read.no_bit_above_cons;
        prod = subst (λ (i : IndexValue). IsIndexNumber g i.number) read.prod low;
        cons = subst (λ (i : IndexValue). IsIndexNumber g i.number) read.cons high;
        within = subst (λ (d : ℕ). d ≤ size g) (ap₂ distance read.prod read.cons) within;
      },
      λ k. record { prod = read.prod k; cons = read.cons k; closed = closed_seen word k },
    )

-- ---- from what was found

pub undoes : (g word : ℕ) (result : Option Control) → SomeIff result (IsControlWord g word) (control_in g word)
    → (c : Control) → IsControl g c → word ≡ packed c → result ≡ Some c
undoes g word None none c is word_is = absurd (none (subst (IsControlWord g) (sym word_is) (said g c is).is_control_word))
undoes g word (Some x) some c is word_is = ap Some (some.1 ∙ ap (control_in g) word_is ∙ control_again g c is)

pub packs_again : (g word : ℕ) → IsGeometry g → word < 2 ^ 64 → (result : Option Control) → SomeIff result (IsControlWord g word) (control_in g word)
    → MatchOption result ⊤ (λ c. IsControl g c × (packed c ≡ word))
packs_again g word is fits None none = tt
packs_again g word is fits (Some x) some =
    let a = again g word is fits some.0 in subst (λ (c : Control). IsControl g c × (packed c ≡ word)) (sym some.1) (a.control, a.packed_again)
