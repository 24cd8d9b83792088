-- What the lines of a log say.
use Rattle.std.specs.Prelude.{ℕ, ◌^◌, List, [], ◌∷◌, Option, Some, None, codes, drop, eqb, if◌then◌else◌, option_map}
use Rattle.std.specs.List.{list_all, starts_with}
use Rattle.std.specs.Str.{bytes_eq}
use Rattle.script.specs.Words.{words_of, number_of}
use Rattle.script.specs.Fields.{◌>>=◌, guard, next_below, is_end, hex_of, is_comment, is_printable}
use Rattle.replay.specs.requests.Tags.{tag_of}
use Rattle.replay.specs.requests.UnitLines.{remedy_of}
use Rattle.trace.specs.declared.request.Conduct.{Conduct}
use Rattle.trace.specs.declared.request.Conduct.TheVariants as did
use Rattle.trace.specs.declared.request.Request.{Request}
use Rattle.trace.specs.declared.request.Request.TheVariants.{Nothing, Walk, Fill, Use, End, Command, Acknowledge, Did}

-- ---- walks and accesses

-- a number of 64 bits, and no more words
unfoldable pub only_number : List (List ℕ) → Option ℕ
only_number words = do
  number ← next_below (2 ^ 64) words
  guard (is_end number.1) number.0

-- `walk N`
unfoldable pub walk_of : List (List ℕ) → Option Request
walk_of words = option_map (λ number. Walk number) (only_number words)

-- `fill N TAG VALUE`
unfoldable pub fill_of : List (List ℕ) → Option Request
fill_of words = do
  number ← next_below (2 ^ 64) words
  tag ← tag_of number.1
  value ← next_below (2 ^ 64) tag.1
  guard (is_end value.1) (Fill number.0 tag.0 value.0)

-- `use N TAG`
unfoldable pub use_of : List (List ℕ) → Option Request
use_of words = do
  number ← next_below (2 ^ 64) words
  tag ← tag_of number.1
  guard (is_end tag.1) (Use number.0 tag.0)

-- `end N`
unfoldable pub end_of : List (List ℕ) → Option Request
end_of words = option_map (λ number. End number) (only_number words)

-- ---- commands

-- `command HEX`
unfoldable pub command_of : List (List ℕ) → Option Request
command_of [] = None
command_of (word ∷ words) = do
  raw ← hex_of word
  guard (is_end words) (Command raw)

-- `ack GERRORN retry` or `ack GERRORN replace`
unfoldable pub ack_of : List (List ℕ) → Option Request
ack_of words = do
  gerrorn ← next_below (2 ^ 32) words
  remedy ← remedy_of gerrorn.1
  Some (Acknowledge gerrorn.0 remedy)

-- ---- what the model did

-- `value=VALUE`
unfoldable pub value_of : List ℕ → Option ℕ
value_of word = if starts_with eqb word (codes "value=") then number_of (drop 6 word) else None

-- the same, and no more words
unfoldable pub used_of : List (List ℕ) → Option Conduct
used_of [] = None
used_of (word ∷ words) = do
  value ← value_of word
  guard (is_end words) (did.Used value)

-- one word
unfoldable pub conduct_named : List ℕ → Option Conduct
conduct_named word =
    if bytes_eq word (codes "filled") then Some did.Filled
    else if bytes_eq word (codes "overtaken") then Some did.Overtaken
    else if bytes_eq word (codes "missed") then Some did.Missed
    else if bytes_eq word (codes "completed") then Some did.Completed
    else if bytes_eq word (codes "waited") then Some did.Waited
    else None

-- the same, and no more words
abbrev pub plain_conduct : List ℕ → List (List ℕ) → Option Conduct
plain_conduct word words = if is_end words then conduct_named word else None

unfoldable pub conduct_of : List (List ℕ) → Option Conduct
conduct_of [] = None
conduct_of (word ∷ words) =
    if bytes_eq word (codes "used") then used_of words else plain_conduct word words

-- `did filled` and so on
unfoldable pub did_of : List (List ℕ) → Option Request
did_of words = option_map (λ conduct. Did conduct) (conduct_of words)

-- ---- a line

-- by its first word, which makes it no comment, and the words after it
unfoldable pub named : List ℕ → List (List ℕ) → Option Request
named name words =
    if bytes_eq name (codes "walk") then walk_of words
    else if bytes_eq name (codes "fill") then fill_of words
    else if bytes_eq name (codes "use") then use_of words
    else if bytes_eq name (codes "end") then end_of words
    else if bytes_eq name (codes "command") then command_of words
    else if bytes_eq name (codes "ack") then ack_of words
    else if bytes_eq name (codes "did") then did_of words
    else None

abbrev pub request_from : List (List ℕ) → Option Request
request_from [] = Some Nothing
request_from (name ∷ words) = if is_comment name then Some Nothing else named name words

-- what a line says; None is a bad line
unfoldable pub request_of : List ℕ → Option Request
request_of line = if list_all is_printable line then request_from (words_of line) else None
