-- The single operation on one word that each kind of event is. Nothing else changes a word of a ring.
use Rattle.std.specs.Prelude.{◌≡◌, ℕ, ◌+◌, List, [], ◌∷◌, length, Option, Some, slice_get, slice_index, slice_set, bit_or}
use Rattle.ring.specs.Runs.{Raw, Who, Consumer, Sender, Half, Event, Won, Write, Flip, Advance, Close, Acknowledge, Run, trail_of, head, world, control, half_of, Ring}
use Rattle.qindex.specs.Positions.{index_of}
use Rattle.qindex.specs.ControlWord.{packed, advance_mask, close_mask}
use Rattle.ringcore.specs.memory.Layout.{control_word, flag_word, data_word, cell}
use Rattle.ringcore.specs.memory.Flags.{IsFlipMask}
use Rattle.ringcore.specs.memory.StepLaws.{reserved_commands, turned}

-- An exchange of the control word, from what a look finds to what a look finds once the batch is reserved.
pub record IsExchange (ring : Ring) (run : Run) (old new : List ℕ) (s : ℕ) (body : List Raw) (number : Option ℕ) : Type 0 where
  pub found : slice_index old control_word ≡ packed (control ring.geometry (world run))
  pub stored : new ≡ slice_set old control_word (packed (control ring.geometry (world ((Sender s, Won body number) ∷ run))))

-- A store of half of the command at this offset of the sender's reservation.
pub record IsStore (ring : Ring) (run : Run) (old new : List ℕ) (s offset : ℕ) (half : Half) : Type 0 where
  pub raw : Raw
  pub command : slice_get (reserved_commands s (trail_of (Sender s) run)) offset ≡ Some raw
  pub stored : new ≡ slice_set old (data_word ring.geometry ((world run).start s + offset) half) (half_of half raw)

-- An exclusive or of the flag word with the flags of `count` slots.
pub record IsTurn (ring : Ring) (run : Run) (old new : List ℕ) (s offset count : ℕ) : Type 0 where
  pub mask : ℕ
  pub mask_is : IsFlipMask ring.geometry ((world run).start s + offset) count mask
  pub stored : new ≡ turned old (flag_word ring.geometry ((world run).start s + offset)) mask

-- What the operation of an event after this run makes of the words. An event that isn't listed is a load or a
-- lost exchange, which leaves them.
abbrev pub IsOperation : Ring → Run → Who → Event → List ℕ → List ℕ → Type 0
IsOperation ring run (Sender s) (Won body number) old new = IsExchange ring run old new s body number
IsOperation ring run (Sender s) (Write offset half) old new = IsStore ring run old new s offset half
IsOperation ring run (Sender s) (Flip offset count) old new = IsTurn ring run old new s offset count
IsOperation ring run (Sender s) Close old new = new ≡ slice_set old control_word (bit_or (slice_index old control_word) close_mask)
IsOperation ring run Consumer (Advance raws) old new =
    new ≡ turned old control_word (advance_mask (index_of ring.geometry (head (world run))) (index_of ring.geometry (head (world run) + length raws)))
IsOperation ring run Consumer (Acknowledge s number) old new = new ≡ slice_set old (cell ring.geometry s) number
IsOperation ring run who e old new = new ≡ old

-- The words are what the operations of these events made of zeros, one for each event and no other.
abbrev pub AreMadeBy : Ring → Run → List ℕ → Type 0
AreMadeBy ring [] words = (i : ℕ) → slice_index words i ≡ 0
AreMadeBy ring (x ∷ xs) words = (before : List ℕ) × AreMadeBy ring xs before × IsOperation ring xs x.0 x.1 before words
