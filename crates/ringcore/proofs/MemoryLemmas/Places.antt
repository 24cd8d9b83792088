-- Which words are different, and what a store leaves as it was.
use Rattle.std.proofs.Common.{◌≡◌, ◌≢◌, ℕ, ◌+◌, ◌*◌, ◌/◌, ◌%◌, ◌<◌, ◌≤◌, List, length, get_or-set_other, get_or-set_same, refl, ap, arith}
use Rattle.std.proofs.lemmas.Nat.{pow_pos}
use Rattle.std.proofs.Math.Nat.{mod-lt}
use Rattle.std.specs.Prelude.{slice_index, slice_set, ◌==◌}
use Rattle.std.specs.Int.{bit_at}
use Rattle.qindex.specs.Positions.{size, place}
use Rattle.ringcore.specs.declared.world.event.Half.{Half}
use Rattle.ringcore.specs.declared.world.event.Half.TheVariants.{Lo, Hi}
use Rattle.ringcore.specs.memory.Layout.{control_word, flag_word, first_data_word, half_number, data_word, first_cell, cell, words_of}
use Rattle.ringcore.specs.memory.Flags.{flag_bit, polarity, says_flipped}
use Rattle.ringcore.specs.memory.StepLaws.{WordsAreApart}

pub place-lt : (g p : ℕ) → place g p < size g
place-lt g p = mod-lt p (pow_pos g)

half-lt : (half : Half) → half_number half < 2
half-lt Lo = omega arith
half-lt Hi = omega arith

same_number : (half other : Half) → half_number half ≡ half_number other → half ≡ other
same_number Lo Lo e = refl
same_number Lo Hi e = absurd (cc)
same_number Hi Lo e = absurd (cc)
same_number Hi Hi e = refl

-- The flag words are well after the control word, the data words well after these, and the cells well after
-- those.
pub flag_low : (g p : ℕ) → control_word + 8 ≤ flag_word g p
flag_low g p = let x : ℕ = place g p / 64 in let le : 8 ≤ 8 + x = omega arith in le

pub flag_high : (g p : ℕ) → flag_word g p + 8 ≤ first_data_word g
flag_high g p =
    let x : ℕ = place g p in let n : ℕ = size g in let below : x < n = place-lt g p in
    let le : 8 + x / 64 + 8 ≤ 8 + (n + 63) / 64 + 7 = omega (arith, below) in le

pub data_low : (g p : ℕ) (half : Half) → first_data_word g ≤ data_word g p half
data_low g p half =
    let first : ℕ = first_data_word g in let x : ℕ = place g p in let h : ℕ = half_number half in
    let le : first ≤ first + 2 * x + h = omega arith in le

pub data_high : (g p : ℕ) (half : Half) → data_word g p half + 8 ≤ first_cell g
data_high g p half =
    let first : ℕ = first_data_word g in let x : ℕ = place g p in let n : ℕ = size g in let h : ℕ = half_number half in
    let below : x < n = place-lt g p in let small : h < 2 = half-lt half in
    let le : first + 2 * x + h + 8 ≤ first + 2 * n + 7 = omega (arith, below, small) in le

pub cell_low : (g s : ℕ) → first_cell g ≤ cell g s
cell_low g s = let first : ℕ = first_cell g in let le : first ≤ first + s * 8 = omega arith in le

pub cell_high : (g s senders : ℕ) → s < senders → cell g s < words_of g senders
cell_high g s senders l = let first : ℕ = first_cell g in let lt : first + s * 8 < first + senders * 8 = omega (arith, l) in lt

pub flag_within : (g p senders : ℕ) → flag_word g p < words_of g senders
flag_within g p senders =
    let a = flag_high g p in let b = data_low g p Lo in let c = data_high g p Lo in
    let first : ℕ = first_cell g in let le : first ≤ first + senders * 8 = omega arith in omega (arith, a, b, c, le)

pub data_within : (g p senders : ℕ) (half : Half) → data_word g p half < words_of g senders
data_within g p senders half =
    let c = data_high g p half in let first : ℕ = first_cell g in let le : first ≤ first + senders * 8 = omega arith in omega (arith, c, le)

pub apart : WordsAreApart
apart g senders p q half = record {
  control_and_flags = flag_low g p;
  flags_and_data = let a = flag_high g p in let b = data_low g q half in omega (arith, a, b);
  data_and_cells = λ s. let a = data_high g q half in let b = cell_low g s in omega (arith, a, b);
  cells = λ s t l. let first : ℕ = first_cell g in let le : first + s * 8 + 8 ≤ first + t * 8 = omega (arith, l) in le;
  inside = λ s l. cell_high g s senders l;
}

-- ---- words of different use

pub control_not_flag : (g p : ℕ) → flag_word g p ≢ control_word
control_not_flag g p e = let low = flag_low g p in omega (arith, low, e)

pub control_not_data : (g p : ℕ) (half : Half) → data_word g p half ≢ control_word
control_not_data g p half e =
    let low = flag_low g p in let a = flag_high g p in let b = data_low g p half in omega (arith, low, a, b, e)

pub control_not_cell : (g s : ℕ) → cell g s ≢ control_word
control_not_cell g s e =
    let low = flag_low g 0 in let a = flag_high g 0 in let b = data_low g 0 Lo in let c = data_high g 0 Lo in let d = cell_low g s in
    omega (arith, low, a, b, c, d, e)

pub flag_not_data : (g p q : ℕ) (half : Half) → flag_word g p ≢ data_word g q half
flag_not_data g p q half e = let a = flag_high g p in let b = data_low g q half in omega (arith, a, b, e)

pub flag_not_cell : (g p s : ℕ) → flag_word g p ≢ cell g s
flag_not_cell g p s e =
    let a = flag_high g p in let b = data_low g p Lo in let c = data_high g p Lo in let d = cell_low g s in omega (arith, a, b, c, d, e)

pub data_not_cell : (g p s : ℕ) (half : Half) → data_word g p half ≢ cell g s
data_not_cell g p s half e = let c = data_high g p half in let d = cell_low g s in omega (arith, c, d, e)

pub control_within : (g senders : ℕ) → control_word < words_of g senders
control_within g senders = let low = flag_low g 0 in let a = flag_within g 0 senders in omega (arith, low, a)

-- ---- two words of one use that are the same

pub same_data : (g p q : ℕ) (half other : Half) → data_word g p half ≡ data_word g q other → (place g p ≡ place g q) × (half ≡ other)
same_data g p q half other e =
    let first : ℕ = first_data_word g in let x : ℕ = place g p in let y : ℕ = place g q in
    let h : ℕ = half_number half in let k : ℕ = half_number other in
    let h-lt : h < 2 = half-lt half in let k-lt : k < 2 = half-lt other in
    let is : first + 2 * x + h ≡ first + 2 * y + k = e in
    let one : x ≡ y = omega (arith, is, h-lt, k-lt) in
    let two : h ≡ k = omega (arith, is, h-lt, k-lt) in
    (one, same_number half other two)

pub same_cell : (g s t : ℕ) → cell g s ≡ cell g t → s ≡ t
same_cell g s t e = let first : ℕ = first_cell g in let is : first + s * 8 ≡ first + t * 8 = e in omega (arith, is)

-- If the flags of two positions are the same bit of the same word, the places are the same.
pub same_flag : (g p q : ℕ) → flag_word g p ≡ flag_word g q → flag_bit g p ≡ flag_bit g q → place g p ≡ place g q
same_flag g p q word bit =
    let x : ℕ = place g p in let y : ℕ = place g q in
    let w : 8 + x / 64 ≡ 8 + y / 64 = word in let b : x % 64 ≡ y % 64 = bit in omega (arith, w, b)

-- ---- a store

pub others_stay : (words : List ℕ) (k i x : ℕ) → i ≢ k → slice_index (slice_set words k x) i ≡ slice_index words i
others_stay words k i x not = get_or-set_other words k i x 0 not

pub is_stored : (words : List ℕ) (k x : ℕ) → k < length words → slice_index (slice_set words k x) k ≡ x
is_stored words k x l = get_or-set_same words k x 0 l

pub flags_stay : (g : ℕ) (words : List ℕ) (k x p : ℕ) → flag_word g p ≢ k → says_flipped g (slice_set words k x) p ≡ says_flipped g words p
flags_stay g words k x p not = ap (λ (y : ℕ). bit_at y (flag_bit g p) == polarity g p) (others_stay words k (flag_word g p) x not)
