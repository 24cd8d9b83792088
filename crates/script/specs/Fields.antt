-- What the words of a line say, one after another.
use Rattle.std.specs.Prelude.{ℕ, ◌^◌, nat_lt, nat_le, List, [], ◌∷◌, ◌==◌, ◌&&◌, Bool, true, false, Option, Some, None, Result, Ok, Err, if◌then◌else◌}
use Rattle.std.specs.Str.{bytes_eq}
use Rattle.hex.specs.Hex.{decode_sized}
use Rattle.hex.specs.declared.error.FromHexError.{FromHexError}
use Rattle.cmdcodec.specs.declared.raw.Raw.{Raw}
use Rattle.cmdcodec.specs.Bytes.{raw_of}
use Rattle.script.specs.Words.{number_of}

infixl 10 ◌>>=◌
abbrev pub ◌>>=◌ : {A B : Type 0} → Option A → (A → Option B) → Option B
None >>= f = None
(Some x) >>= f = f x

abbrev pub guard : {A : Type 0} → Bool → A → Option A
guard test x = if test then Some x else None

-- the next word as a number, if it is below the limit, and the words after it
unfoldable pub next_below : ℕ → List (List ℕ) → Option (ℕ × List (List ℕ))
next_below limit [] = None
next_below limit (word ∷ words) = do
  number ← number_of word
  guard (nat_lt number limit) (number, words)

-- None if the next word is `mark`, else the number below the limit that it says; and the words after it
unfoldable pub next_below_or : List ℕ → ℕ → List (List ℕ) → Option (Option ℕ × List (List ℕ))
next_below_or mark limit [] = None
next_below_or mark limit (word ∷ words) =
    if bytes_eq word mark then Some (None, words)
    else (next_below limit (word ∷ words) >>= λ found. Some (Some found.0, found.1))

-- no word is left
abbrev pub is_end : List (List ℕ) → Bool
is_end [] = true
is_end (word ∷ words) = false

-- one number of 32 bits, and no more words
unfoldable pub one_number : List (List ℕ) → Option ℕ
one_number words = do
  number ← next_below (2 ^ 32) words
  guard (is_end number.1) number.0

abbrev pub raw_of_decoded : Result (List ℕ) FromHexError → Option Raw
raw_of_decoded (Ok bytes) = Some (raw_of bytes)
raw_of_decoded (Err e) = None

-- HEX: 32 hexadecimal digits of either case, the bytes of a command
abbrev pub hex_of : List ℕ → Option Raw
hex_of word = raw_of_decoded (decode_sized word 16)

-- Each word is a command, legal or not.
unfoldable pub raws_of : List (List ℕ) → Option (List Raw)
raws_of [] = Some []
raws_of (word ∷ words) = do
  raw ← hex_of word
  raws ← raws_of words
  Some (raw ∷ raws)

-- A word that begins with # makes its line a comment.
abbrev pub is_comment : List ℕ → Bool
is_comment [] = false
is_comment (b ∷ bytes) = b == 35

-- a byte that a line may hold
abbrev pub is_printable : ℕ → Bool
is_printable b = nat_le 0x20 b && nat_le b 0x7e
