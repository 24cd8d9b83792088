-- What may help with an image that can't be that of the queue.
use Rattle.std.specs.Prelude.{ℕ, List, ◌+◌, ◌*◌, ◌/◌, ◌%◌, ◌^◌, ◌++◌, ◌==◌, ◌&&◌, Bool, Option, None, Some, is_err, is_ok, codes, decimal, option_map, if◌then◌else◌}
use Rattle.std.specs.Int.{swap_bytes, w32, w64}
use Rattle.std.specs.List.{list_all, range_with_len}
use Rattle.cmdcodec.specs.Words.{decoding}
use Rattle.cmdcodec.specs.declared.raw.Raw.{Raw}
use Rattle.qindex.specs.Positions.{place}
use Rattle.image.specs.declared.fault.ImageFault.{ImageFault}
use Rattle.image.specs.declared.fault.ImageFault.TheVariants.{BadDistance, BadLength}
use Rattle.image.specs.declared.hint.Hint.{Hint}
use Rattle.image.specs.declared.hint.Hint.TheVariants.{Size, Exchanged, Zeros, Swapped}
use Rattle.image.specs.declared.hint.Width.{Width}
use Rattle.image.specs.declared.hint.Width.TheVariants.{Word, Doubleword}
use Rattle.image.specs.declared.queue.Queue.{Queue}
use Rattle.image.specs.Queues.{err_of, log2_of, waiting_of}
use Rattle.image.specs.Slots.{raw_at}

-- ---- with a refusal

-- PROD has no ERR: where CONS has, they weren't exchanged.
abbrev pub distance_hint : Option ℕ → Option Hint
distance_hint None = None
distance_hint (Some cons) = if err_of cons == 0 then Some Exchanged else None

-- by SMMU_CMDQ_CONS
abbrev pub fault_hint : Option ℕ → ImageFault → Option Hint
fault_hint cons (BadLength bytes) = option_map Size (log2_of bytes)
fault_hint cons (BadDistance waiting) = distance_hint cons
fault_hint cons other = None

-- ---- with a queue in which no command that waits is legal

abbrev pub is_zero : ℕ → Bool
is_zero byte = byte == 0

-- each half the other way round
abbrev pub swapped_halves : ℕ → ℕ
swapped_halves word = swap_bytes w32 (word % 2 ^ 32) + swap_bytes w32 (word / 2 ^ 32) * 2 ^ 32

-- the bytes of each width the other way round
abbrev pub swapped_word : Width → ℕ → ℕ
swapped_word Word word = swapped_halves word
swapped_word Doubleword word = swap_bytes w64 word

abbrev pub swapped : Width → Raw → Raw
swapped width raw = record { lo = swapped_word width raw.lo; hi = swapped_word width raw.hi }

-- illegal as it stands, and legal the other way round
abbrev pub is_swapped : Width → Raw → Bool
is_swapped width raw = is_err (decoding raw) && is_ok (decoding (swapped width raw))

-- So is the command of a position.
abbrev pub is_swapped_at : Width → List ℕ → Queue → ℕ → Bool
is_swapped_at width image queue position = is_swapped width (raw_at image (place queue.cons.geometry position))

-- So is each command that waits.
abbrev pub are_swapped : Width → List ℕ → Queue → Bool
are_swapped width image queue = list_all (is_swapped_at width image queue) (range_with_len queue.cons.number (waiting_of queue))

abbrev pub swapped_hint : List ℕ → Queue → Option Hint
swapped_hint image queue =
    if are_swapped Doubleword image queue then Some (Swapped Doubleword) else if are_swapped Word image queue then Some (Swapped Word) else None

abbrev pub held_hint : List ℕ → Queue → Option Hint
held_hint image queue = if list_all is_zero image then Some Zeros else swapped_hint image queue

-- where anything waits
abbrev pub view_hint : List ℕ → Queue → Option Hint
view_hint image queue = if waiting_of queue == 0 then None else held_hint image queue

-- ---- the text

abbrev pub width_text : Width → List ℕ
width_text Word = codes "4"
width_text Doubleword = codes "8"

abbrev pub hint_text : Hint → List ℕ
hint_text (Size log2) = codes "the length is that of log2 " ++ decimal log2
hint_text Exchanged = codes "PROD and CONS may be exchanged"
hint_text Zeros = codes "the image is all zeros"
hint_text (Swapped width) = codes "the image looks byte-swapped, in units of " ++ width_text width ++ codes " bytes"
