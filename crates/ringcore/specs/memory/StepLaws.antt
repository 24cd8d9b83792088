-- The single operation on a single word that does each kind of atomic step. If the words stand as after a run
-- and the event is the seat's to take, the operation makes them stand as after the run with that event.
use Rattle.std.specs.Prelude.{◌≡◌, ◌≢◌, ℕ, ◌+◌, ◌<◌, ◌≤◌, Bool, List, [], ◌∷◌, length, Option, Some, slice_get, slice_index, slice_set, bit_or, bit_xor}
use Rattle.cmdcodec.specs.declared.raw.Raw.{Raw}
use Rattle.qindex.specs.declared.control.Control.{Control}
use Rattle.qindex.specs.Positions.{index_of}
use Rattle.qindex.specs.Indexes.{IsGeometry}
use Rattle.qindex.specs.ControlWord.{IsControlWord, packed, control_in, advance_mask, close_mask}
use Rattle.ringcore.specs.declared.world.event.Who.{Who}
use Rattle.ringcore.specs.declared.world.event.Who.TheVariants.{Consumer, Sender}
use Rattle.ringcore.specs.declared.world.event.Half.{Half}
use Rattle.ringcore.specs.declared.world.event.Event.TheVariants.{Look, Won, Lost, Write, Flip, Test, Read, Advance, Close, Acknowledge, Ask}
use Rattle.ringcore.specs.world.Trails.{Trail, Run, trail_of, batch_length, found_ready, start_index}
use Rattle.ringcore.specs.world.World.{head, world, commands, half_of}
use Rattle.ringcore.specs.world.Allowed.{Ring, MayTry, IsNextNumber, MayWrite, MayFlip, IsRunLength, MayAdvance, MayAcknowledge, length_with}
use Rattle.ringcore.specs.memory.Layout.{control_word, flag_word, data_word, cell, words_of}
use Rattle.ringcore.specs.memory.Flags.{IsFlipMask, IsReadyRun, ready_in}
use Rattle.ringcore.specs.memory.Shadow.{AreAfter}

-- a fact about every run and all words that stand as after it
abbrev pub Always : (Ring → Run → List ℕ → Type 0) → Type 0
Always P = (ring : Ring) (run : Run) (words : List ℕ) → AreAfter ring run words → P ring run words

-- no event, and all words 0
abbrev pub OpensAllZero : Type 0
OpensAllZero =
    (ring : Ring) (words : List ℕ) → IsGeometry ring.geometry → ring.flags ≡ 64 → length words ≡ words_of ring.geometry ring.senders
    → ((i : ℕ) → slice_index words i ≡ 0)
    → AreAfter ring [] words

-- The control word is one that a ring may have.
abbrev pub HasAControlWord : Ring → Run → List ℕ → Type 0
HasAControlWord ring run words = IsControlWord ring.geometry (slice_index words control_word)

-- a load of the control word
abbrev pub LooksByALoad : Ring → Run → List ℕ → Type 0
LooksByALoad ring run words =
    (who : Who) → AreAfter ring ((who, Look (control_in ring.geometry (slice_index words control_word))) ∷ run) words

-- the control with prod that many commands further on
abbrev pub with_reserved : Control → ℕ → Control
with_reserved control many = record control { prod = index_of control.prod.geometry (control.prod.number + many) }

-- an exchange of the control word that finds what the sender looked at
abbrev pub WinsByAnExchange : Ring → Run → List ℕ → Type 0
WinsByAnExchange ring run words =
    (s : ℕ) (body : List Raw) (number : Option ℕ) (before : Control)
    → MayTry ring (trail_of (Sender s) run) body (batch_length body number) before
    → IsNextNumber (trail_of (Sender s) run) number
    → slice_index words control_word ≡ packed before
    → AreAfter ring ((Sender s, Won body number) ∷ run) (slice_set words control_word (packed (with_reserved before (batch_length body number))))

-- an exchange that finds something else, and stores nothing
abbrev pub LosesByAnExchange : Ring → Run → List ℕ → Type 0
LosesByAnExchange ring run words =
    (s : ℕ) (body : List Raw) (closes : Bool) (before : Control)
    → MayTry ring (trail_of (Sender s) run) body (length_with closes body) before
    → slice_index words control_word ≢ packed before
    → AreAfter ring ((Sender s, Lost body closes (control_in ring.geometry (slice_index words control_word))) ∷ run) words

-- the commands of a sender's last reservation, by its own trail
abbrev pub reserved_commands : ℕ → Trail → List Raw
reserved_commands s [] = []
reserved_commands s (Won body number ∷ es) = commands s number body
reserved_commands s (e ∷ es) = reserved_commands s es

-- a store to the data word
abbrev pub WritesByAStore : Ring → Run → List ℕ → Type 0
WritesByAStore ring run words =
    (s offset : ℕ) (half : Half) (raw : Raw)
    → MayWrite (trail_of (Sender s) run) offset
    → slice_get (reserved_commands s (trail_of (Sender s) run)) offset ≡ Some raw
    → AreAfter ring ((Sender s, Write offset half) ∷ run) (slice_set words (data_word ring.geometry ((world run).start s + offset) half) (half_of half raw))

-- these words, with one of them exclusive-ored with a mask
abbrev pub turned : List ℕ → ℕ → ℕ → List ℕ
turned words at mask = slice_set words at (bit_xor (slice_index words at) mask)

-- an exclusive or of the flag word with a mask of the run
abbrev pub FlipsByAnExclusiveOr : Ring → Run → List ℕ → Type 0
FlipsByAnExclusiveOr ring run words =
    (s offset count mask : ℕ)
    → MayFlip ring (trail_of (Sender s) run) ((world run).start s) offset count
    → IsFlipMask ring.geometry ((world run).start s + offset) count mask
    → AreAfter ring ((Sender s, Flip offset count) ∷ run) (turned words (flag_word ring.geometry ((world run).start s + offset)) mask)

-- a load of the head's flag word
abbrev pub TestsByALoad : Ring → Run → List ℕ → Type 0
TestsByALoad ring run words =
    (limit found : ℕ)
    → IsRunLength limit
    → IsReadyRun ring.geometry (slice_index words (flag_word ring.geometry (head (world run)))) (head (world run)) limit found
    → AreAfter ring ((Consumer, Test limit found) ∷ run) words

-- what the load finds, as a function of the word
abbrev pub TestsFindReadyIn : Ring → Run → List ℕ → Type 0
TestsFindReadyIn ring run words =
    (limit : ℕ)
    → IsRunLength limit
    → AreAfter ring ((Consumer, Test limit (ready_in ring.geometry (slice_index words (flag_word ring.geometry (head (world run)))) (head (world run)) limit)) ∷ run) words

-- a load of the data word
abbrev pub ReadsByALoad : Ring → Run → List ℕ → Type 0
ReadsByALoad ring run words =
    (offset : ℕ) (half : Half)
    → offset < found_ready (trail_of Consumer run)
    → AreAfter ring ((Consumer, Read offset half (slice_index words (data_word ring.geometry (head (world run) + offset) half))) ∷ run) words

-- an exclusive or of the control word with the mask that advances cons
abbrev pub AdvancesByAnExclusiveOr : Ring → Run → List ℕ → Type 0
AdvancesByAnExclusiveOr ring run words =
    (raws : List Raw)
    → MayAdvance (trail_of Consumer run) raws
    → AreAfter ring ((Consumer, Advance raws) ∷ run)
    (turned words control_word
    (advance_mask (index_of ring.geometry (head (world run))) (index_of ring.geometry (head (world run) + length raws))))

-- an or of the control word with the closed bit
abbrev pub ClosesByAnOr : Ring → Run → List ℕ → Type 0
ClosesByAnOr ring run words =
    (s : ℕ) → AreAfter ring ((Sender s, Close) ∷ run) (slice_set words control_word (bit_or (slice_index words control_word) close_mask))

-- a store to the sender's cell
abbrev pub AcknowledgesByAStore : Ring → Run → List ℕ → Type 0
AcknowledgesByAStore ring run words =
    (s number : ℕ) → MayAcknowledge (world run) s number
    → AreAfter ring ((Consumer, Acknowledge s number) ∷ run) (slice_set words (cell ring.geometry s) number)

-- a load of the sender's cell
abbrev pub AsksByALoad : Ring → Run → List ℕ → Type 0
AsksByALoad ring run words =
    (s : ℕ) → s < ring.senders → AreAfter ring ((Sender s, Ask (slice_index words (cell ring.geometry s))) ∷ run) words

-- Storing a word back leaves all words, so a load, or a lost exchange, can be stated as a store.
abbrev pub StoredBackIsTheSame : Type 0
StoredBackIsTheSame = (words : List ℕ) (at : ℕ) → slice_set words at (slice_index words at) ≡ words

-- ---- where the words are

-- The first word is before the other, and they don't share 64 bytes.
abbrev pub IsWellBefore : ℕ → ℕ → Type 0
IsWellBefore word other = word + 8 ≤ other

pub record PartsAreApart (geometry senders position other : ℕ) (half : Half) : Type 0 where
  pub control_and_flags : IsWellBefore control_word (flag_word geometry position)
  pub flags_and_data : IsWellBefore (flag_word geometry position) (data_word geometry other half)
  pub data_and_cells : (sender : ℕ) → IsWellBefore (data_word geometry other half) (cell geometry sender)
  pub cells : (sender next : ℕ) → sender < next → IsWellBefore (cell geometry sender) (cell geometry next)
  pub inside : (sender : ℕ) → sender < senders → cell geometry sender < words_of geometry senders

-- The control word, the flag words, the data words and each cell are apart.
abbrev pub WordsAreApart : Type 0
WordsAreApart = (geometry senders position other : ℕ) (half : Half) → PartsAreApart geometry senders position other half

-- ---- where a reservation is

abbrev pub StartsWhereItLooked : Ring → Run → List ℕ → Type 0
StartsWhereItLooked ring run words =
    (s : ℕ) → index_of ring.geometry ((world run).start s) ≡ start_index ring.geometry (trail_of (Sender s) run)
