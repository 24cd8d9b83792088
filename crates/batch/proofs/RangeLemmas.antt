-- How far the commands for a run of pages reach.
use Rattle.std.proofs.Common.{◌≡◌, ℕ, zero, suc, ◌+◌, ◌-◌, ◌*◌, ◌/◌, ◌%◌, ◌^◌, ◌<◌, ◌≤◌, ◌==◌, min, true, false, inl, inr, List, [], ◌∷◌, ◌++◌, length, map, take, Ok, Err, refl, ap, sym, ◌∙◌, append_assoc, length-append, append-nil, arith}
use Rattle.std.proofs.lemmas.Bool.{cases_Bool, eqb-true, eqb-false, ne_eqb, le-ltb, lt-ltb}
use Rattle.std.proofs.lemmas.Nat.{pow_pos, pow-add, shl-shr, mul-le}
use Rattle.std.proofs.lemmas.List.{length-map, take-append-le}
use Rattle.std.proofs.Math.Nat.{pow-suc, mul_assoc}
use Rattle.std.specs.List.{list_any}
use Rattle.std.specs.Int.Count.{count_trailing_zeros, under}
use Rattle.cmdcodec.specs.declared.raw.Raw.{Raw}
use Rattle.cmdcodec.specs.declared.command.Command.TheVariants.{TlbiNhVa}
use Rattle.cmdcodec.specs.Words.{encoding}
use Rattle.batch.specs.declared.fault.BatchFault.TheVariants.{Full}
use Rattle.cmdcodec.specs.Opcodes.{is_sync}
use Rattle.cmdcodec.specs.Bodies.{IsBody}
use Rattle.batch.specs.Refusals.{unless, room_refusal}
use Rattle.batch.specs.Ranges.{scale_of, count_of, reached_of, reach_of, commands_up_to, range_commands}
use Rattle.batch.proofs.BodyLemmas.{longer_body, range_no_sync}

halved : (n t d : ℕ) → n % 2 ≡ d → (q : ℕ) × (n / 2 ≡ q * 2 ^ t) → (q : ℕ) × (n ≡ q * 2 ^ under d t)
halved n t zero even (q, half) =
    let twice : n ≡ n / 2 * 2 = omega (arith, even) in
    (q, twice ∙ ap (λ x. x * 2) half ∙ mul_assoc q (2 ^ t) 2 ∙ ap (λ x. q * x) (sym (pow-suc 2 t)))
halved n t (suc d) odd half = (n, omega arith)

-- a number is a multiple of 2 to the power of its trailing zeros
divided : (k n : ℕ) → (q : ℕ) × (n ≡ q * 2 ^ count_trailing_zeros k n)
unfolding count_trailing_zeros
divided zero n = (n, omega arith)
divided (suc k) n = halved n (count_trailing_zeros k (n / 2)) (n % 2) refl (divided k (n / 2))

-- and of any lower power
lower : (n q t s : ℕ) → s ≤ t → n ≡ q * 2 ^ t → n ≡ n / 2 ^ s * 2 ^ s
lower n q t s below multiple =
    let split : t ≡ t - s + s = omega (arith, below) in
    let powers = ap (λ k. q * 2 ^ k) split ∙ ap (λ x. q * x) (pow-add 2 (t - s) s) ∙ sym (mul_assoc q (2 ^ (t - s)) (2 ^ s)) in
    let whole = multiple ∙ powers in
    let quotient = ap (λ x. x / 2 ^ s) whole ∙ shl-shr (q * 2 ^ (t - s)) s in
    whole ∙ ap (λ x. x * 2 ^ s) (sym quotient)

scaled : (pages : ℕ) → pages ≡ pages / 2 ^ scale_of pages * 2 ^ scale_of pages
unfolding scale_of
scaled pages =
    let t = count_trailing_zeros 64 pages in
    let multiple = divided 64 pages in
    lower pages multiple.0 t (min t 31) (omega arith) multiple.1

-- The count is at least 1, and at most the number of whole steps in the pages.
count_within : (pages : ℕ) → 0 < pages / 2 ^ scale_of pages → count_of pages ≤ pages / 2 ^ scale_of pages
unfolding count_of
count_within pages some =
    let m = pages / 2 ^ scale_of pages in
    elim (cases_Bool (m % 32 == 0)) [
      | inl is ↦ rw is (let none = eqb-true (m % 32) 0 is in omega (arith, some, none))
      | inr isnt ↦ rw isnt (omega arith)
    ]

pub count_some : (pages : ℕ) → 0 < count_of pages
unfolding count_of
count_some pages =
    let m = pages / 2 ^ scale_of pages in
    elim (cases_Bool (m % 32 == 0)) [
      | inl is ↦ rw is (omega arith)
      | inr isnt ↦ rw isnt (let some = eqb-false (m % 32) 0 isnt in omega (arith, some))
    ]

quotient_some : (pages power : ℕ) → 0 < pages → pages ≡ pages / power * power → 0 < pages / power
quotient_some pages power some whole =
    elim (cases_Bool (pages / power == 0)) [
      | inl is ↦ absurd (let none = whole ∙ ap (λ x. x * power) (eqb-true (pages / power) 0 is) in omega (arith, some, none))
      | inr isnt ↦ let other = eqb-false (pages / power) 0 isnt in omega (arith, other)
    ]

-- The next command reaches some of the pages, and no more than there are.
pub reached_within : (pages : ℕ) → 0 < pages → reached_of pages ≤ pages
unfolding reached_of
reached_within pages some =
    let power = 2 ^ scale_of pages in
    let count = count_within pages (quotient_some pages power some (scaled pages)) in
    let product = mul-le (count_of pages) power (pages / power) power count (omega arith) in
    omega (arith, product, scaled pages)

pub reached_some : (pages : ℕ) → 0 < reached_of pages
unfolding reached_of
reached_some pages =
    let power = 2 ^ scale_of pages in
    let product = mul-le 1 1 (count_of pages) power (count_some pages) (pow_pos (scale_of pages)) in
    omega (arith, product)

-- ---- The commands, one by one.

-- As many commands as pages are enough.
enough : (most other vmid asid page pages : ℕ) → pages ≤ most → pages ≤ other
    → commands_up_to most vmid asid page pages ≡ commands_up_to other vmid asid page pages
unfolding commands_up_to
enough zero zero vmid asid page pages fits also = refl
enough zero (suc other) vmid asid page pages fits also =
    let none : pages ≡ 0 = omega (arith, fits) in rw none refl
enough (suc most) zero vmid asid page pages fits also =
    let none : pages ≡ 0 = omega (arith, also) in rw none refl
enough (suc most) (suc other) vmid asid page pages fits also =
    elim (cases_Bool (pages == 0)) [
      | inl is ↦ rw is refl
      | inr isnt ↦
          let some = reached_some pages in
          rw isnt (ap (λ rest. TlbiNhVa vmid asid true page (reach_of pages) ∷ rest)
          (enough most other vmid asid (page + reached_of pages) (pages - reached_of pages) (omega (arith, fits, some)) (omega (arith, also, some))))
    ]

pub range_none : (vmid asid page : ℕ) → range_commands vmid asid page 0 ≡ []
unfolding range_commands commands_up_to
range_none vmid asid page = refl

pub range_next : (vmid asid page pages : ℕ) → 0 < pages
    → range_commands vmid asid page pages
    ≡ TlbiNhVa vmid asid true page (reach_of pages) ∷ range_commands vmid asid (page + reached_of pages) (pages - reached_of pages)
unfolding range_commands commands_up_to
range_next vmid asid page zero some = absurd (omega (arith, some))
range_next vmid asid page (suc pages) some =
    let none : (suc pages == 0) ≡ false = ne_eqb (suc pages) 0 (λ is. omega (arith, is)) in
    let rest = suc pages - reached_of (suc pages) in
    let least = reached_some (suc pages) in
    rw none (ap (λ rest. TlbiNhVa vmid asid true page (reach_of (suc pages)) ∷ rest)
    (enough pages rest vmid asid (page + reached_of (suc pages)) rest (omega (arith, least)) (omega arith)))

-- ---- The loop that appends them: `new` holds what `old` held and the commands for the pages up to `page`.

pub record IsSoFar (vmid asid first pages page left : ℕ) (old new : List Raw) : Type 0 where
  pub in_range : page + left ≤ 2 ^ 52
  pub few : length new ≤ 63
  pub longer : length old ≤ length new
  pub kept : take (length old) new ≡ old
  pub ahead : old ++ map encoding (range_commands vmid asid first pages) ≡ new ++ map encoding (range_commands vmid asid page left)

-- one more command
pub stepped : {vmid asid first pages page left : ℕ} {old new : List Raw} → IsSoFar vmid asid first pages page left old new → 0 < left → (length new == 63) ≡ false
    → (raw : Raw) (next : List Raw) (reached : ℕ) → raw ≡ encoding (TlbiNhVa vmid asid true page (reach_of left)) → next ≡ new ++ raw ∷ [] → reached ≡ reached_of left
    → IsSoFar vmid asid first pages (page + reached) (left - reached) old next
stepped {vmid} {asid} {first} {pages} {page} {left} {old} {new} so_far some not_full raw next reached encoded appended as_far =
    let command = encoding (TlbiNhVa vmid asid true page (reach_of left)) in
    let rest = map encoding (range_commands vmid asid (page + reached) (left - reached)) in
    let longer = ap length appended ∙ length-append new (raw ∷ []) in
    let within = reached_within left some in
    let room = eqb-false (length new) 63 not_full in
    record {
      in_range = omega (arith, within, as_far, so_far.in_range);
      few = omega (arith, longer, room, so_far.few);
      longer = omega (arith, longer, so_far.longer);
      kept = ap (take (length old)) appended ∙ take-append-le (length old) new (raw ∷ []) so_far.longer ∙ so_far.kept;
      ahead = so_far.ahead ∙ ap (λ cs. new ++ map encoding cs) (range_next vmid asid page left some)
          ∙ ap (λ n. new ++ (command ∷ map encoding (range_commands vmid asid (page + n) (left - n)))) (sym as_far)
          ∙ ap (λ r. new ++ (r ∷ rest)) (sym encoded) ∙ sym (append_assoc new (raw ∷ []) rest) ∙ ap (λ cs. cs ++ rest) (sym appended);
    }

-- if no page is left
pub ended : {vmid asid first pages page left : ℕ} {old new : List Raw} → IsSoFar vmid asid first pages page left old new → left ≤ 0
    → new ≡ old ++ map encoding (range_commands vmid asid first pages)
ended {vmid} {asid} {first} {pages} {page} {left} {old} {new} so_far end =
    let none : left ≡ 0 = omega (arith, end) in
    sym (so_far.ahead ∙ ap (λ n. new ++ map encoding (range_commands vmid asid page n)) none
    ∙ ap (λ cs. new ++ map encoding cs) (range_none vmid asid page) ∙ append-nil new)

-- All commands are those held now and those to come.
total : {vmid asid first pages page left : ℕ} {old new : List Raw} → IsSoFar vmid asid first pages page left old new
    → length old + length (range_commands vmid asid first pages) ≡ length new + length (range_commands vmid asid page left)
total {vmid} {asid} {first} {pages} {page} {left} {old} {new} so_far =
    let all = range_commands vmid asid first pages in
    let rest = range_commands vmid asid page left in
    omega (arith, ap length so_far.ahead, length-append old (map encoding all), length-append new (map encoding rest), length-map all encoding, length-map rest encoding)

pub fits : {vmid asid first pages page left : ℕ} {old new : List Raw} → IsSoFar vmid asid first pages page left old new → left ≤ 0
    → Ok (tt {0}) ≡ unless (room_refusal old (length (range_commands vmid asid first pages))) (tt {0})
fits {vmid} {asid} {first} {pages} {page} {left} {old} {new} so_far end =
    let none : left ≡ 0 = omega (arith, end) in
    let empty = ap length (ap (range_commands vmid asid page) none ∙ range_none vmid asid page) in
    let room = le-ltb 63 (length old + length (range_commands vmid asid first pages)) (omega (arith, total so_far, empty, so_far.few)) in
    rw room refl

-- if a page is left and there is no room
pub overflows : {vmid asid first pages page left : ℕ} {old new : List Raw} → IsSoFar vmid asid first pages page left old new → 0 < left → (length new == 63) ≡ true
    → Err Full ≡ unless (room_refusal old (length (range_commands vmid asid first pages))) (tt {0})
overflows {vmid} {asid} {first} {pages} {page} {left} {old} {new} so_far some is_full =
    let more = ap length (range_next vmid asid page left some) in
    let full = eqb-true (length new) 63 is_full in
    let past = lt-ltb 63 (length old + length (range_commands vmid asid first pages)) (omega (arith, total so_far, more, full)) in
    rw past refl

pub ended_body : {vmid asid first pages page left : ℕ} {old new : List Raw} → IsSoFar vmid asid first pages page left old new → left ≤ 0
    → 0 < pages → list_any is_sync old ≡ false → IsBody new
ended_body {vmid} {asid} {first} {pages} {page} {left} {old} {new} so_far end some before =
    let more = ap length (range_next vmid asid first pages some) in
    longer_body old new (range_commands vmid asid first pages) (ended so_far end) (omega (arith, more)) so_far.few before (range_no_sync vmid asid first pages)
