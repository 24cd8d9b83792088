-- What is shown of a queue, by its registers and the bytes of its memory.
use Rattle.std.specs.Prelude.{ℕ, ◌-◌, ◌*◌, ◌^◌, List, [], ◌++◌, Bool, true, false, Option, Result, Ok, Err, take, drop, length, codes, decimal, if◌then◌else◌}
use Rattle.std.specs.List.{flat_map, range_with_len}
use Rattle.std.specs.Fmt.{digits, format_spec, padded_integral}
use Rattle.cmdcodec.specs.Bytes.{raw_of}
use Rattle.decode.specs.CommandText.{words_text}
use Rattle.qindex.specs.Positions.{size, place, wrap_bit}
use Rattle.image.specs.Dumps.{dump_image}
use Rattle.image.specs.declared.asked.Asked.{Asked}
use Rattle.image.specs.declared.fault.ImageFault.{ImageFault}
use Rattle.image.specs.declared.request.Request.{Request}
use Rattle.image.specs.declared.request.Shown.{Shown}
use Rattle.image.specs.declared.hint.Hint.{Hint}
use Rattle.image.specs.declared.queue.Queue.{Queue}
use Rattle.image.specs.Hints.{fault_hint, view_hint}
use Rattle.image.specs.Slots.{is_completed, is_waiting}
use Rattle.image.specs.States.{state_text}
use Rattle.image.specs.Queues.{err_of, fault_text, queue_in, request_of, waiting_of}

-- lower-case hexadecimal digits, filled up to eight with zeros
abbrev pub eight_digits : ℕ → List ℕ
eight_digits n = padded_integral (format_spec 32 0 4 8 (2 ^ 64 - 1)) false [] (digits 16 false n)

abbrev pub registers_text : Queue → List ℕ
registers_text queue =
    codes "size " ++ decimal (size queue.cons.geometry) ++ codes "\nprod 0x" ++ eight_digits queue.prod.number ++ codes "\ncons 0x" ++ eight_digits queue.register ++ codes "\n"

abbrev pub counts_text : Queue → List ℕ
counts_text queue = codes "err " ++ decimal (err_of queue.register) ++ codes "\nwaiting " ++ decimal (waiting_of queue) ++ codes "\n"

-- the first five lines
abbrev pub heading : Queue → List ℕ
heading queue = registers_text queue ++ counts_text queue

-- what the 16 bytes of a slot mean as a command, and the end of its line
abbrev pub slot_text : List ℕ → ℕ → List ℕ
slot_text image slot = (words_text (raw_of (take 16 (drop (16 * slot) image)))).0 ++ codes "\n"

-- ---- the commands that wait

abbrev pub place_text : ℕ → ℕ → List ℕ
place_text place wrap = codes "slot " ++ decimal place ++ codes " wrap " ++ decimal wrap ++ codes " "

-- the line of the command of a position
abbrev pub waiting_line : List ℕ → ℕ → ℕ → List ℕ
waiting_line image geometry position = place_text (place geometry position) (wrap_bit geometry position) ++ slot_text image (place geometry position)

-- the positions from CONS on, as many as wait
abbrev pub positions : Queue → List ℕ
positions queue = range_with_len queue.cons.number (waiting_of queue)

abbrev pub waiting_lines : List ℕ → Queue → List ℕ
waiting_lines image queue = flat_map (waiting_line image queue.cons.geometry) (positions queue)

-- ---- all slots

abbrev pub standing : Bool → List ℕ
standing waiting = if waiting then codes "waiting" else codes "taken"

abbrev pub standing_text : ℕ → Bool → List ℕ
standing_text slot waiting = codes "slot " ++ decimal slot ++ codes " " ++ standing waiting ++ codes " "

abbrev pub completed_text : List ℕ
completed_text = codes "CMD_SYNC completed by its MSI\n"

-- what a slot holds, where all are shown
abbrev pub held_text : List ℕ → Queue → ℕ → List ℕ
held_text image queue slot = if is_completed image queue slot then completed_text else slot_text image slot

abbrev pub slot_line : List ℕ → Queue → ℕ → List ℕ
slot_line image queue slot = standing_text slot (is_waiting queue slot) ++ held_text image queue slot

abbrev pub slots : Queue → List ℕ
slots queue = range_with_len 0 (size queue.cons.geometry)

abbrev pub slot_lines : List ℕ → Queue → List ℕ
slot_lines image queue = flat_map (slot_line image queue) (slots queue)

-- ---- the whole

abbrev pub lines_shown : List ℕ → Queue → Bool → List ℕ
lines_shown image queue all = if all then slot_lines image queue else waiting_lines image queue

-- The last line comes only where the error registers were given.
abbrev pub view : List ℕ → Queue → Shown → List ℕ
view image queue shown = heading queue ++ (lines_shown image queue shown.all ++ state_text image queue shown.error)

-- what an input is answered with, whether that is no refusal, and what may help
pub record Answer : Type 0 where
  pub text : List ℕ
  pub good : Bool
  pub hint : Option Hint

abbrev pub refusal : Option ℕ → ImageFault → Answer
refusal cons fault = record { text = fault_text fault; good = false; hint = fault_hint cons fault }

abbrev pub shown_as : List ℕ → Queue → Shown → Answer
shown_as image queue shown = record { text = view image queue shown; good = true; hint = view_hint image queue }

abbrev pub answer_by : Option ℕ → Result Queue ImageFault → Shown → List ℕ → Answer
answer_by cons (Err fault) shown image = refusal cons fault
answer_by cons (Ok queue) shown image = shown_as image queue shown

-- What doesn't depend on the image is judged first, then the lines of a dump.
abbrev pub answer_in : Option ℕ → Result Request ImageFault → Result (List ℕ) ImageFault → Answer
answer_in cons (Err fault) image = refusal cons fault
answer_in cons (Ok request) (Err fault) = refusal cons fault
answer_in cons (Ok request) (Ok image) = answer_by cons (queue_in request.known (length image)) request.shown image

-- the image that was read: the bytes themselves, or what the lines of a dump have
abbrev pub image_of : Bool → List ℕ → Result (List ℕ) ImageFault
image_of hex input = if hex then dump_image input else Ok input

unfoldable pub answer_to : Asked → List ℕ → Answer
answer_to asked input = answer_in asked.cons (request_of asked) (image_of asked.hex input)
