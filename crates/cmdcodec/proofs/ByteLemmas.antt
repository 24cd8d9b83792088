-- Sixteen bytes read as two words and written back are the same bytes.
use Rattle.std.proofs.Common.{◌≡◌, ℕ, ◌+◌, ◌<◌, List, ◌++◌, length, get_or, take, drop, ap, ◌∙◌, arith, length-take, length-drop, get_or-take, get_or-drop, take-append-drop, inl, inr}
use Rattle.std.proofs.lemmas.Bool.{cases_lt}
use Rattle.std.proofs.lemmas.List.{get_or_past}
use Rattle.std.proofs.lemmas.Nat.{le_bytes_8}
use Rattle.byteorder.specs.Endian.{little_bytes, little_number}

abbrev IsBytes : List ℕ → Type 0
IsBytes bytes = (i : ℕ) → get_or bytes i 0 < 256

IsBytes-take : (n : ℕ) (bytes : List ℕ) → IsBytes bytes → IsBytes (take n bytes)
IsBytes-take n bytes are i =
    elim (cases_lt i n) [
      | inl lt ↦ rw (get_or-take n bytes i 0 lt) (are i)
      | inr le ↦ rw (get_or_past (take n bytes) i 0 (omega (arith, length-take n bytes))) (omega arith)
    ]

IsBytes-drop : (n : ℕ) (bytes : List ℕ) → IsBytes bytes → IsBytes (drop n bytes)
IsBytes-drop n bytes are i = rw get_or-drop (are (n + i))

-- eight bytes read as a number and written back
eight_again : (bytes : List ℕ) → length bytes ≡ 8 → IsBytes bytes → little_bytes 8 (little_number 8 bytes) ≡ bytes
eight_again bytes len are = le_bytes_8 bytes (little_number 8 bytes) len are (omega arith)

pub written_again : (bytes : List ℕ) (lo hi : ℕ) → length bytes ≡ 16 → IsBytes bytes → lo ≡ little_number 8 (take 8 bytes) → hi ≡ little_number 8 (drop 8 bytes)
    → little_bytes 8 lo ++ little_bytes 8 hi ≡ bytes
written_again bytes lo hi len are read_lo read_hi =
    let low = eight_again (take 8 bytes) (omega (arith, length-take 8 bytes)) (IsBytes-take 8 bytes are) in
    let high = eight_again (drop 8 bytes) (omega (arith, length-drop 8 bytes)) (IsBytes-drop 8 bytes are) in
    ap (λ n. little_bytes 8 n ++ little_bytes 8 hi) read_lo
    ∙ ap (λ ys. ys ++ little_bytes 8 hi) low
    ∙ ap (λ n. take 8 bytes ++ little_bytes 8 n) read_hi
    ∙ ap (λ ys. take 8 bytes ++ ys) high ∙ take-append-drop 8 bytes
