-- What is said of the bytes of a command is its text.
use Rattle.std.proofs.Common.{◌≡◌, ℕ, zero, suc, ◌+◌, ◌*◌, ◌/◌, ◌%◌, ◌^◌, ◌<◌, true, List, [], ◌∷◌, ◌++◌, ap, ◌∙◌, arith, Ok}
use Rattle.std.specs.Int.{byte_at, bytes_low_first}
use Rattle.hex.specs.Hex.{IsBytes, encode_lower}
use Rattle.hex.proofs.HexLemmas.{decode_of-encode_lower}
use Rattle.cmdcodec.specs.declared.raw.Raw.{Raw}
use Rattle.cmdcodec.specs.declared.command.Command.{Command}
use Rattle.cmdcodec.specs.Bytes.{bytes_of, raw_of}
use Rattle.cmdcodec.specs.Text.{text_of}
use Rattle.cmdcodec.specs.Words.{decoding}
use Rattle.decode.specs.DecodeText.{command_text, digits_text, decode_text}

word_again : (x : ℕ) → x < 2 ^ 64
    → x % 256 + 256 * (x / 256 % 256 + 256 * (x / 65536 % 256 + 256 * (x / 16777216 % 256 + 256 * (x / 4294967296 % 256 + 256 * (x / 1099511627776 % 256 + 256 * (x / 281474976710656 % 256 + 256 * (x / 72057594037927936 % 256 + 256 * 0))))))) ≡ x
word_again x small = omega arith

raw_again : (raw : Raw) → raw.lo < 2 ^ 64 → raw.hi < 2 ^ 64 → raw_of (bytes_of raw) ≡ raw
raw_again raw low high = λ k. record { lo = word_again raw.lo low k; hi = word_again raw.hi high k }

IsBytes-none : IsBytes []
IsBytes-none i = omega arith

IsBytes-more : (b : ℕ) (rest : List ℕ) → b < 256 → IsBytes rest → IsBytes (b ∷ rest)
IsBytes-more b rest small are zero = small
IsBytes-more b rest small are (suc i) = are i

byte : (i n : ℕ) → byte_at i n < 256
byte zero n = omega arith
byte (suc i) n = omega arith

low_first : (i k n : ℕ) → IsBytes (bytes_low_first i k n)
low_first i zero n = IsBytes-none
low_first i (suc k) n = IsBytes-more (byte_at i n) (bytes_low_first (suc i) k n) (byte i n) (low_first (suc i) k n)

IsBytes-append : (xs ys : List ℕ) → IsBytes xs → IsBytes ys → IsBytes (xs ++ ys)
IsBytes-append [] ys front back = back
IsBytes-append (x ∷ xs) ys front back = IsBytes-more x (xs ++ ys) (front 0) (IsBytes-append xs ys (λ i. front (suc i)) back)

are_bytes : (raw : Raw) → IsBytes (bytes_of raw)
are_bytes raw = IsBytes-append (bytes_low_first 0 8 raw.lo) (bytes_low_first 0 8 raw.hi) (low_first 0 8 raw.lo) (low_first 0 8 raw.hi)

pub text_is_told : (raw : Raw) (command : Command) → raw.lo < 2 ^ 64 → raw.hi < 2 ^ 64 → decoding raw ≡ Ok command
    → decode_text (encode_lower (bytes_of raw)) ≡ (text_of command, true)
unfolding decode_text
text_is_told raw command low high decoded =
    ap digits_text (decode_of-encode_lower (bytes_of raw) (are_bytes raw)) ∙ ap (λ r. command_text (decoding r)) (raw_again raw low high) ∙ ap command_text decoded
