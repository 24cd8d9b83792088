-- What holds a queue up, by PROD, CONS and CMDQ_ERR.
use Rattle.std.specs.Prelude.{ℕ, ◌-◌, ◌==◌, ◌||◌, List, [], ◌∷◌, ◌++◌, Bool, true, false, Result, Ok, Err, codes, decimal, if◌then◌else◌}
use Rattle.std.specs.List.{after_last, flat_map, range_with_len}
use Rattle.cmdcodec.specs.Words.{decoding}
use Rattle.cmdcodec.specs.declared.command.Command.{Command}
use Rattle.cmdcodec.specs.declared.command.Command.TheVariants.{AtcInv, CmdSync}
use Rattle.cmdcodec.specs.declared.ill.Ill.{Ill}
use Rattle.cmdcodec.specs.declared.raw.Raw.{Raw}
use Rattle.decode.specs.CommandText.{words_text}
use Rattle.qindex.specs.Positions.{size, place}
use Rattle.image.specs.declared.error.CmdqErr.{CmdqErr}
use Rattle.image.specs.declared.error.CmdqErr.TheVariants.{NotGiven, Active, NotActive}
use Rattle.image.specs.declared.queue.Queue.{Queue}
use Rattle.image.specs.Queues.{err_of, waiting_of}
use Rattle.image.specs.Slots.{is_completed, raw_at}

-- ---- the ATC_INVs since the last CMD_SYNC that was taken

abbrev pub is_sync_command : Command → Bool
is_sync_command (CmdSync cs msh attr msi address) = true
is_sync_command other = false

abbrev pub is_sync : Result Command Ill → Bool
is_sync (Ok command) = is_sync_command command
is_sync (Err ill) = false

abbrev pub command_stream : Command → List ℕ
command_stream (AtcInv sid ssv ssid global span page) = codes " " ++ decimal sid
command_stream other = []

-- the stream of an ATC_INV, as text
abbrev pub stream_text : Result Command Ill → List ℕ
stream_text (Ok command) = command_stream command
stream_text (Err ill) = []

-- a CMD_SYNC, or what its MSI left of it
abbrev pub is_sync_at : List ℕ → Queue → ℕ → Bool
is_sync_at image queue slot = is_completed image queue slot || is_sync (decoding (raw_at image slot))

-- The slots that don't wait, from PROD on and round to CONS: the last is that of the command taken last.
abbrev pub taken_positions : Queue → List ℕ
taken_positions queue = range_with_len queue.prod.number (size queue.cons.geometry - waiting_of queue)

-- those since the last CMD_SYNC
abbrev pub since_sync : List ℕ → Queue → List ℕ
since_sync image queue = after_last (λ position. is_sync_at image queue (place queue.prod.geometry position)) (taken_positions queue)

-- the streams so far, and that of a slot: at a CMD_SYNC none stay
abbrev pub streams_at : List ℕ → Queue → ℕ → List ℕ → List ℕ
streams_at image queue slot text = if is_sync_at image queue slot then [] else text ++ stream_text (decoding (raw_at image slot))

-- the streams of the ATC_INVs among them, in the order of the queue, as text
abbrev pub streams_text : List ℕ → Queue → List ℕ
streams_text image queue = flat_map (λ position. stream_text (decoding (raw_at image (place queue.prod.geometry position)))) (since_sync image queue)

-- ---- where CMDQ_ERR is active: why the SMMU stopped at CONS

abbrev pub head_slot : Queue → ℕ
head_slot queue = place queue.cons.geometry queue.cons.number

abbrev pub legal_prefix : Result Command Ill → List ℕ
legal_prefix (Ok command) = codes "illegal by the SMMU, legal here: "
legal_prefix (Err ill) = []

-- what is illegal in the words, or that nothing is here
abbrev pub illegal_text : Raw → List ℕ
illegal_text raw = legal_prefix (decoding raw) ++ (words_text raw).0

abbrev pub or_none : List ℕ → List ℕ
or_none [] = codes " none"
or_none (b ∷ text) = b ∷ text

abbrev pub unanswered_text : List ℕ → List ℕ
unanswered_text streams = codes "an endpoint did not answer an ATC_INV: streams" ++ or_none streams

-- by ERR: CERROR_ILL, CERROR_ABT, CERROR_ATC_INV_SYNC, any other
abbrev pub cause_text : List ℕ → Queue → ℕ → List ℕ
cause_text image queue err =
    if err == 1 then illegal_text (raw_at image (head_slot queue))
    else if err == 2 then codes "abort: the queue's memory couldn't be read"
    else if err == 3 then unanswered_text (streams_text image queue)
    else codes "error " ++ decimal err

abbrev pub stop_text : ℕ → List ℕ
stop_text slot = codes "stopped at slot " ++ decimal slot ++ codes ": "

abbrev pub stopped_text : List ℕ → Queue → List ℕ
stopped_text image queue = stop_text (head_slot queue) ++ cause_text image queue (err_of queue.register) ++ codes "\n"

-- ---- where it isn't: whether the SMMU has anything to do, and what it may wait for

abbrev pub behind_text : List ℕ → List ℕ
behind_text [] = codes "running\n"
behind_text (b ∷ streams) = codes "running at a CMD_SYNC behind ATC_INVs of streams" ++ (b ∷ streams) ++ codes "\n"

abbrev pub running_text : List ℕ → Queue → List ℕ
running_text image queue =
    if is_sync (decoding (raw_at image (head_slot queue))) then behind_text (streams_text image queue) else codes "running\n"

abbrev pub going_text : List ℕ → Queue → List ℕ
going_text image queue = if waiting_of queue == 0 then codes "empty\n" else running_text image queue

-- the last line, if the error registers were given
abbrev pub state_text : List ℕ → Queue → CmdqErr → List ℕ
state_text image queue NotGiven = []
state_text image queue Active = stopped_text image queue
state_text image queue NotActive = going_text image queue
