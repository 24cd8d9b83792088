-- Where the flags of positions in a row are, which an index tells as well as its position.
use Rattle.std.proofs.Common.{◌≡◌, ◌⊎◌, ℕ, suc, ◌+◌, ◌-◌, ◌*◌, ◌/◌, ◌%◌, ◌^◌, ◌<◌, ◌≤◌, inl, inr, sym, ap, ◌∙◌, subst, add-zero, arith, div-add-mod'}
use Rattle.std.proofs.lemmas.Bool.{cases_lt}
use Rattle.std.proofs.lemmas.Nat.{pow-add, mod-mul-add, div-mul-add}
use Rattle.std.proofs.Math.Nat.{mod-mod}
use Rattle.std.proofs.Math.Pow.{pow_mono}
use Rattle.std.specs.Int.{bit_at}
use Rattle.qindex.specs.Positions.{IndexValue, size, place, lap, index_of}
use Rattle.qindex.specs.Laws.{IndexesTellPlaceAndWrapBit}
use Rattle.ringcore.specs.world.Allowed.{ShareAWord}
use Rattle.ringcore.specs.memory.Flags.{flag_bit, polarity, IsFlagOf, IsFlipMask, IsReadyRun}
use Rattle.ringcore.proofs.MemoryLemmas.Places.{place-lt}

pub polarity-lt : (g p : ℕ) → polarity g p < 2
polarity-lt g p = let l : ℕ = lap g p in let is : 1 - l % 2 < 2 = omega arith in is

-- The flag words of a ring are whole, unless the ring has less than one.
pub whole_words : (g : ℕ) → (size g ≤ 64) ⊎ (size g ≡ 64 * (size g / 64))
whole_words g = elim (cases_lt 6 g) [
  | inl large ↦
      let is : g ≡ 6 + (g - 6) = omega arith in
      let many : size g ≡ 64 * 2 ^ (g - 6) = ap (λ n. 2 ^ n) is ∙ pow-add 2 6 (g - 6) in
      inr (omega arith)
  | inr small ↦ inl (pow_mono {i = g} {j = 6} (omega arith))
]

-- ---- positions in a row

-- up to the ring's last place
pub further_place : (g p j : ℕ) → place g p + j < size g → place g (p + j) ≡ place g p + j
further_place g p j fits =
    let whole = div-add-mod' p (size g) in
    let laps : ℕ = p / size g * size g in
    let is : p + j ≡ laps + (place g p + j) = omega (arith, whole) in
    ap (place g) is ∙ mod-mul-add (p / size g) (size g) (place g p + j) fits

pub further_lap : (g p j : ℕ) → place g p + j < size g → lap g (p + j) ≡ lap g p
further_lap g p j fits =
    let whole = div-add-mod' p (size g) in
    let laps : ℕ = p / size g * size g in
    let is : p + j ≡ laps + (place g p + j) = omega (arith, whole) in
    ap (lap g) is ∙ div-mul-add (p / size g) (size g) (place g p + j) fits

-- from the ring's first place on, one lap further on
pub next_place : (g p j : ℕ) → size g ≤ place g p + j → place g p + j < 2 * size g → place g (p + j) ≡ place g p + j - size g
next_place g p j past fits =
    let whole = div-add-mod' p (size g) in
    let laps : ℕ = p / size g in
    let is : p + j ≡ (laps + 1) * size g + (place g p + j - size g) = omega (arith, whole) in
    ap (place g) is ∙ mod-mul-add (laps + 1) (size g) (place g p + j - size g) (omega arith)

next_lap : (g p j : ℕ) → size g ≤ place g p + j → place g p + j < 2 * size g → lap g (p + j) ≡ lap g p + 1
next_lap g p j past fits =
    let whole = div-add-mod' p (size g) in
    let laps : ℕ = p / size g in
    let is : p + j ≡ (laps + 1) * size g + (place g p + j - size g) = omega (arith, whole) in
    ap (lap g) is ∙ div-mul-add (laps + 1) (size g) (place g p + j - size g) (omega arith)

-- ---- their flags

pub further_bit : (g p j : ℕ) → place g p + j < size g → flag_bit g p + j < 64 → flag_bit g (p + j) ≡ flag_bit g p + j
further_bit g p j fits small =
    let r : ℕ = place g p in
    let small' : r % 64 + j < 64 = small in
    let is : (r + j) % 64 ≡ r % 64 + j = omega arith in
    ap (λ n. n % 64) (further_place g p j fits) ∙ is

further_word : (g p j : ℕ) → place g p + j < size g → flag_bit g p + j < 64 → place g (p + j) / 64 ≡ place g p / 64
further_word g p j fits small =
    let r : ℕ = place g p in
    let small' : r % 64 + j < 64 = small in
    let is : (r + j) / 64 ≡ r / 64 = omega arith in
    ap (λ n. n / 64) (further_place g p j fits) ∙ is

pub further_polarity : (g p j : ℕ) → place g p + j < size g → polarity g (p + j) ≡ polarity g p
further_polarity g p j fits = ap (λ n. 1 - n % 2) (further_lap g p j fits)

pub small_bit : (g p : ℕ) → size g ≤ 64 → flag_bit g p ≡ place g p
small_bit g p small =
    let below = place-lt g p in
    let r : ℕ = place g p in
    let below' : r < size g = below in
    let is : r % 64 ≡ r = omega arith in
    is

pub next_bit : (g p j : ℕ) → size g ≤ 64 → size g ≤ place g p + j → place g p + j < 2 * size g → flag_bit g (p + j) ≡ place g p + j - size g
next_bit g p j small past fits = small_bit g (p + j) small ∙ next_place g p j past fits

pub next_polarity : (g p j : ℕ) → size g ≤ place g p + j → place g p + j < 2 * size g → polarity g (p + j) ≡ 1 - polarity g p
next_polarity g p j past fits =
    let l : ℕ = lap g p in
    let is : 1 - (l + 1) % 2 ≡ 1 - (1 - l % 2) = omega arith in
    ap (λ n. 1 - n % 2) (next_lap g p j past fits) ∙ is

-- ---- flags of one word

one_word : (g p : ℕ) → size g ≤ 64 → place g p / 64 ≡ 0
one_word g p small =
    let below = place-lt g p in
    let r : ℕ = place g p in
    let below' : r < size g = below in
    let is : r / 64 ≡ 0 = omega arith in
    is

-- A ring of at most 64 slots has one flag word.
pub small_shares : (g p count : ℕ) → size g ≤ 64 → ShareAWord 64 g p count
small_shares g p count small offset among = one_word g (p + offset) small ∙ sym (one_word g p small)

-- A larger one's flag words are whole, so none goes past the ring's end.
pub in_ring : (g p count : ℕ) → 64 < size g → flag_bit g p + count ≤ 64 → place g p + count ≤ size g
in_ring g p count large fits =
    let below = place-lt g p in
    let r : ℕ = place g p in let s : ℕ = size g in
    let below' : r < s = below in
    let fits' : r % 64 + count ≤ 64 = fits in
    elim (whole_words g) [
      | inl small ↦ absurd (omega arith)
      | inr whole ↦ let whole' : s ≡ 64 * (s / 64) = whole in omega arith
    ]

pub large_shares : (g p count : ℕ) → 64 < size g → flag_bit g p + count ≤ 64 → ShareAWord 64 g p count
large_shares g p count large fits offset among =
    let inside = in_ring g p count large fits in
    further_word g p offset (omega arith) (omega arith)

-- The next word's first flag is in another word.
pub shares_no_more : (g p count : ℕ) → 64 < size g → ShareAWord 64 g p count → flag_bit g p + count ≤ 64
shares_no_more g p count large shares =
    elim (cases_lt 64 (flag_bit g p + count)) [
      | inr fits ↦ fits
      | inl over ↦
          let r : ℕ = place g p in let s : ℕ = size g in
          let j : ℕ = 64 - r % 64 in
          let below : r < s = place-lt g p in
          let over' : 64 < r % 64 + count = over in
          let same : place g (p + j) / 64 ≡ r / 64 = shares j (omega arith) in
          let inside : r + j ≤ s = in_ring g p j large (let e : r % 64 + j ≤ 64 = omega arith in e) in
          elim (cases_lt (r + j) s) [
            | inl before ↦
                let at : place g (p + j) ≡ r + j = further_place g p j before in
                let same' : (r + j) / 64 ≡ r / 64 = ap (λ n. n / 64) (sym at) ∙ same in
                absurd (omega arith)
            | inr past ↦
                let at : place g (p + j) ≡ r + j - s = next_place g p j past (omega arith) in
                let same' : (r + j - s) / 64 ≡ r / 64 = ap (λ n. n / 64) (sym at) ∙ same in
                absurd (omega arith)
          ]
    ]

-- ---- an index and its position

pub index_of_number : (g p : ℕ) → index_of g (p % (2 * size g)) ≡ index_of g p
index_of_number g p = ap (λ n. record { geometry = g; number = n }) (mod-mod p (2 * size g))

module _ (alike : IndexesTellPlaceAndWrapBit) (g p q : ℕ) (is : index_of g p ≡ index_of g q) where
  alike_word : (j : ℕ) → place g (p + j) / 64 ≡ place g (q + j) / 64
  alike_word j = ap (λ n. n / 64) (alike g p q j is).place

  alike_bit : (j : ℕ) → flag_bit g (p + j) ≡ flag_bit g (q + j)
  alike_bit j = ap (λ n. n % 64) (alike g p q j is).place

  alike_polarity : (j : ℕ) → polarity g (p + j) ≡ polarity g (q + j)
  alike_polarity j = ap (λ n. 1 - n) (alike g p q j is).wrap_bit

  alike_first : place g p / 64 ≡ place g q / 64
  alike_first = ap (λ n. place g n / 64) (sym (add-zero p)) ∙ alike_word 0 ∙ ap (λ n. place g n / 64) (add-zero q)

  pub alike_shares : (count : ℕ) → ShareAWord 64 g p count → ShareAWord 64 g q count
  alike_shares count shares offset among = sym (alike_word offset) ∙ shares offset among ∙ alike_first

  alike_back : (count : ℕ) → ShareAWord 64 g q count → ShareAWord 64 g p count
  alike_back count shares offset among = alike_word offset ∙ shares offset among ∙ sym alike_first

  alike_flag : (count bit : ℕ) → IsFlagOf g p count bit → IsFlagOf g q count bit
  alike_flag count bit f = record { offset = f.offset; among = f.among; is_its = f.is_its ∙ alike_bit f.offset }

  flag_back : (count bit : ℕ) → IsFlagOf g q count bit → IsFlagOf g p count bit
  flag_back count bit f = record { offset = f.offset; among = f.among; is_its = f.is_its ∙ sym (alike_bit f.offset) }

  alike_mask : (count mask : ℕ) → IsFlipMask g p count mask → IsFlipMask g q count mask
  alike_mask count mask m = record {
    fits = m.fits;
    bits = λ bit. (λ set. alike_flag count bit ((m.bits bit).0 set), λ f. (m.bits bit).1 (flag_back count bit f));
  }

  alike_run : (word limit found : ℕ) → IsReadyRun g word p limit found → IsReadyRun g word q limit found
  alike_run word limit found run = record {
    most = run.most;
    in_word = alike_shares found run.in_word;
    ready = λ offset among. ap (bit_at word) (sym (alike_bit offset)) ∙ run.ready offset among ∙ alike_polarity offset;
    no_more = λ fewer shares same. run.no_more fewer (alike_back (suc found) shares) (ap (bit_at word) (alike_bit found) ∙ same ∙ sym (alike_polarity found));
  }

pub shares_at : IndexesTellPlaceAndWrapBit → (index : IndexValue) (count : ℕ) → ShareAWord 64 index.geometry index.number count
    → (g p : ℕ) → index ≡ index_of g p → ShareAWord 64 g p count
shares_at alike index count shares g p is =
    alike_shares alike g (p % (2 * size g)) p (index_of_number g p) count
    (subst (λ (i : IndexValue). ShareAWord 64 i.geometry i.number count) is shares)

pub mask_at : IndexesTellPlaceAndWrapBit → (index : IndexValue) (count mask : ℕ) → IsFlipMask index.geometry index.number count mask
    → (g p : ℕ) → index ≡ index_of g p → IsFlipMask g p count mask
mask_at alike index count mask value g p is =
    alike_mask alike g (p % (2 * size g)) p (index_of_number g p) count mask
    (subst (λ (i : IndexValue). IsFlipMask i.geometry i.number count mask) is value)

pub run_at : IndexesTellPlaceAndWrapBit → (index : IndexValue) (word limit found : ℕ) → IsReadyRun index.geometry word index.number limit found
    → (g p : ℕ) → index ≡ index_of g p → IsReadyRun g word p limit found
run_at alike index word limit found value g p is =
    alike_run alike g (p % (2 * size g)) p (index_of_number g p) word limit found
    (subst (λ (i : IndexValue). IsReadyRun i.geometry word i.number limit found) is value)
