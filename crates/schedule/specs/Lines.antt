-- What the lines of a schedule ask for.
use Rattle.std.specs.Prelude.{ℕ, ◌^◌, nat_le, List, [], ◌∷◌, ◌&&◌, Bool, true, false, Option, Some, None, take, option_map, codes, if◌then◌else◌}
use Rattle.std.specs.Str.{bytes_eq}
use Rattle.arrayvec.specs.ArrayVec.{ArrayVec}
use Rattle.cmdcodec.specs.declared.raw.Raw.{Raw}
use Rattle.script.specs.Fields.{◌>>=◌, guard, next_below, is_end, one_number, raws_of}
use Rattle.schedule.specs.declared.request.Request.{Request}
use Rattle.schedule.specs.declared.request.Request.TheVariants as asks
use Rattle.schedule.specs.declared.request.Asked.TheVariants as steps

-- ---- numbers

-- two numbers, and no more words
unfoldable pub two_numbers : List (List ℕ) → Option (ℕ × ℕ)
two_numbers words = do
  first ← next_below (2 ^ 32) words
  second ← one_number first.1
  Some (first.0, second)

-- three numbers, and no more words
unfoldable pub three_numbers : List (List ℕ) → Option (ℕ × ℕ × ℕ)
three_numbers words = do
  first ← next_below (2 ^ 32) words
  others ← two_numbers first.1
  Some (first.0, others.0, others.1)

-- COUNT, 1 to 64, for a line that has one, and no more words
unfoldable pub given_count : List (List ℕ) → Option ℕ
given_count words = do
  count ← one_number words
  guard (nat_le 1 count && nat_le count 64) count

-- COUNT, or 1 if the line has none, and whether the line has one
unfoldable pub count_of : List (List ℕ) → Option (ℕ × Bool)
count_of words = if is_end words then Some (1, false) else option_map (λ count. (count, true)) (given_count words)

-- ---- commands

-- Only the first 64 are handed in; they are too many anyway.
abbrev pub body_of : List (List ℕ) → Option (ArrayVec Raw)
body_of words = option_map (λ raws. record { items = take 64 raws }) (raws_of words)

-- ---- lines

-- `ring LOG2 SENDERS`
unfoldable pub ring_of : List (List ℕ) → Option Request
ring_of words = option_map (λ numbers. asks.Ring numbers.0 numbers.1) (two_numbers words)

-- `look S`
unfoldable pub look_of_sender : List (List ℕ) → Option Request
look_of_sender words = option_map (λ sender. asks.Step (steps.Look (Some sender)) false) (one_number words)

-- `look c`, or `look S`
unfoldable pub look_of : List (List ℕ) → Option Request
look_of [] = None
look_of (who ∷ words) =
    if bytes_eq who (codes "c") then guard (is_end words) (asks.Step (steps.Look None) false) else look_of_sender (who ∷ words)

-- `reserve S HEX ..`, whose batch has a closing sync, or `bare S HEX ..`, whose batch has none
unfoldable pub reserve_of : Bool → List (List ℕ) → Option Request
reserve_of closes words = do
  sender ← next_below (2 ^ 32) words
  body ← body_of sender.1
  Some (asks.Step (steps.Reserve sender.0 body closes) false)

-- `write S SLOT HALF`
unfoldable pub write_of : List (List ℕ) → Option Request
write_of words = option_map (λ numbers. asks.Step (steps.Write numbers.0 numbers.1 numbers.2) false) (three_numbers words)

-- `flip S SLOT` or `flip S SLOT COUNT`
unfoldable pub flip_of : List (List ℕ) → Option Request
flip_of words = do
  sender ← next_below (2 ^ 32) words
  slot ← next_below (2 ^ 32) sender.1
  count ← count_of slot.1
  Some (asks.Step (steps.Flip sender.0 slot.0 count.0) count.1)

-- `test SLOT` or `test SLOT COUNT`
unfoldable pub test_of : List (List ℕ) → Option Request
test_of words = do
  slot ← next_below (2 ^ 32) words
  count ← count_of slot.1
  Some (asks.Step (steps.Test slot.0 count.0) count.1)

-- `read SLOT HALF`
unfoldable pub read_of : List (List ℕ) → Option Request
read_of words = option_map (λ numbers. asks.Step (steps.Read numbers.0 numbers.1) false) (two_numbers words)

-- `advance` or `advance COUNT`
unfoldable pub advance_of : List (List ℕ) → Option Request
advance_of words = option_map (λ count. asks.Step (steps.Advance count.0) count.1) (count_of words)

-- `close S`
unfoldable pub close_of : List (List ℕ) → Option Request
close_of words = option_map (λ sender. asks.Step (steps.Close sender) false) (one_number words)

-- `ack S K`
unfoldable pub ack_of : List (List ℕ) → Option Request
ack_of words = option_map (λ numbers. asks.Step (steps.Acknowledge numbers.0 numbers.1) false) (two_numbers words)

-- `ask S`
unfoldable pub ask_of : List (List ℕ) → Option Request
ask_of words = option_map (λ sender. asks.Step (steps.Ask sender) false) (one_number words)

-- a line of the consumer, by its first word
unfoldable pub consumer_line : List ℕ → List (List ℕ) → Option Request
consumer_line name words =
    if bytes_eq name (codes "test") then test_of words
    else if bytes_eq name (codes "read") then read_of words
    else if bytes_eq name (codes "advance") then advance_of words
    else if bytes_eq name (codes "ack") then ack_of words
    else None

-- a line of a sender, or else of the consumer
unfoldable pub sender_line : List ℕ → List (List ℕ) → Option Request
sender_line name words =
    if bytes_eq name (codes "write") then write_of words
    else if bytes_eq name (codes "flip") then flip_of words
    else if bytes_eq name (codes "close") then close_of words
    else if bytes_eq name (codes "ask") then ask_of words
    else consumer_line name words

-- a line without commands, by its first word
unfoldable pub plain_line : List ℕ → List (List ℕ) → Option Request
plain_line name words =
    if bytes_eq name (codes "ring") then ring_of words
    else if bytes_eq name (codes "look") then look_of words
    else sender_line name words

-- any line, by its first word
unfoldable pub named : List ℕ → List (List ℕ) → Option Request
named name words =
    if bytes_eq name (codes "reserve") then reserve_of true words
    else if bytes_eq name (codes "bare") then reserve_of false words
    else plain_line name words
