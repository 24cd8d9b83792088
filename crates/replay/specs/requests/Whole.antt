-- What any line of a replay asks for that isn't a comment or empty.
use Rattle.std.specs.Prelude.{ℕ, List, true, false, Option, None, codes, if◌then◌else◌}
use Rattle.std.specs.Str.{bytes_eq}
use Rattle.replay.specs.declared.request.Request.{Request}
use Rattle.replay.specs.requests.RingLine.{ring_of}
use Rattle.replay.specs.requests.CacheLines.{fill_of, evict_of, lookup_of}
use Rattle.replay.specs.requests.SendLines.{commands_of, inval_of, detach_of}
use Rattle.replay.specs.requests.SenderLines.{publish_of, done_of, look_of, close_of}
use Rattle.replay.specs.requests.UnitLines.{steps_of, ack_of, dump_of}

-- a line of the unit, by its first word
unfoldable pub unit_line : List ℕ → List (List ℕ) → Option Request
unit_line name words =
    if bytes_eq name (codes "step") then steps_of words
    else if bytes_eq name (codes "ack") then ack_of words
    else if bytes_eq name (codes "dump") then dump_of words
    else None

-- a line by which a sender publishes what it reserved, asks, looks or closes, or else one of the unit
unfoldable pub sender_line : List ℕ → List (List ℕ) → Option Request
sender_line name words =
    if bytes_eq name (codes "publish") then publish_of words
    else if bytes_eq name (codes "done") then done_of words
    else if bytes_eq name (codes "look") then look_of words
    else if bytes_eq name (codes "close") then close_of words
    else unit_line name words

-- a line that sends a batch without hexadecimal digits, or else another one of a sender or of the unit
unfoldable pub send_line : List ℕ → List (List ℕ) → Option Request
send_line name words =
    if bytes_eq name (codes "inval") then inval_of words
    else if bytes_eq name (codes "detach") then detach_of words
    else sender_line name words

-- a line that makes the ring or is of the caches, or else another one without commands
unfoldable pub plain_line : List ℕ → List (List ℕ) → Option Request
plain_line name words =
    if bytes_eq name (codes "ring") then ring_of words
    else if bytes_eq name (codes "fill") then fill_of words
    else if bytes_eq name (codes "evict") then evict_of words
    else if bytes_eq name (codes "lookup") then lookup_of words
    else send_line name words

-- a line with commands, or else one without
unfoldable pub named : List ℕ → List (List ℕ) → Option Request
named name words =
    if bytes_eq name (codes "send") then commands_of true true words
    else if bytes_eq name (codes "bare") then commands_of false true words
    else if bytes_eq name (codes "open") then commands_of true false words
    else if bytes_eq name (codes "openbare") then commands_of false false words
    else plain_line name words
