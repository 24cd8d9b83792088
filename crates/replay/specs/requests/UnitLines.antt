-- What the lines of the unit ask for.
use Rattle.std.specs.Prelude.{ℕ, ◌^◌, nat_le, List, [], ◌∷◌, ◌&&◌, Option, Some, None, codes, if◌then◌else◌}
use Rattle.std.specs.Str.{bytes_eq}
use Rattle.script.specs.Fields.{◌>>=◌, guard, next_below, is_end}
use Rattle.engine.specs.declared.remedy.Remedy.{Remedy}
use Rattle.engine.specs.declared.remedy.Remedy.TheVariants.{Retry, Replace}
use Rattle.replay.specs.declared.request.Request.{Request}
use Rattle.replay.specs.declared.request.Request.TheVariants.{Step, Acknowledge, Dump}

-- COUNT, 1 to 1,000,000, and no more words
unfoldable pub counted_steps : List (List ℕ) → Option Request
counted_steps words = do
  count ← next_below (2 ^ 64) words
  guard (nat_le 1 count.0 && nat_le count.0 1000000 && is_end count.1) (Step count.0)

-- `step` or `step COUNT`
unfoldable pub steps_of : List (List ℕ) → Option Request
steps_of words = if is_end words then Some (Step 1) else counted_steps words

-- `retry` or `replace`, and no more words
unfoldable pub remedy_of : List (List ℕ) → Option Remedy
remedy_of [] = None
remedy_of (word ∷ words) =
    if bytes_eq word (codes "retry") then guard (is_end words) Retry
    else if bytes_eq word (codes "replace") then guard (is_end words) Replace
    else None

-- `ack GERRORN retry` or `ack GERRORN replace`
unfoldable pub ack_of : List (List ℕ) → Option Request
ack_of words = do
  gerrorn ← next_below (2 ^ 32) words
  remedy ← remedy_of gerrorn.1
  Some (Acknowledge gerrorn.0 remedy)

-- `dump`
unfoldable pub dump_of : List (List ℕ) → Option Request
dump_of words = guard (is_end words) Dump
