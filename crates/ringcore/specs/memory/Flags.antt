-- The flags: one bit for each slot, which says whether the command of this lap is there (own). A flag says so
-- with 1 on even laps and with 0 on odd ones, so a slot that is taken needs no clearing.
use Rattle.std.specs.Prelude.{◌≡◌, ◌≢◌, ◌↔◌, ℕ, zero, suc, ◌+◌, ◌-◌, ◌%◌, ◌^◌, ◌<◌, ◌≤◌, Bool, cond, nat_le, ◌==◌, ◌&&◌, List, slice_index}
use Rattle.std.specs.Int.{bit_at}
use Rattle.qindex.specs.Positions.{size, place, wrap_bit, index_of}
use Rattle.ringcore.specs.Limits.{flags_a_word}
use Rattle.ringcore.specs.world.Allowed.{ShareAWord}
use Rattle.ringcore.specs.memory.Layout.{flag_word}

-- the bit of its flag word that is a position's flag
abbrev pub flag_bit : ℕ → ℕ → ℕ
flag_bit geometry position = place geometry position % flags_a_word

-- the bit by which a flag says 'flipped' of a position
abbrev pub polarity : ℕ → ℕ → ℕ
polarity geometry position = 1 - wrap_bit geometry position

-- whether the words say of a position that it is flipped
abbrev pub says_flipped : ℕ → List ℕ → ℕ → Bool
says_flipped geometry words position =
    bit_at (slice_index words (flag_word geometry position)) (flag_bit geometry position) == polarity geometry position

-- how many positions from this one on, at most the ring's size, have their flags in its flag word
abbrev pub shared_word : ℕ → ℕ → ℕ
shared_word geometry position = cond (nat_le (size geometry) flags_a_word) (size geometry) (flags_a_word - flag_bit geometry position)

-- A bit of the mask is set exactly if it is the flag of one of count positions from this one on.
pub record IsFlagOf (geometry position count bit : ℕ) : Type 0 where
  pub offset : ℕ
  pub among : offset < count
  pub is_its : bit ≡ flag_bit geometry (position + offset)

pub record IsFlipMask (geometry position count mask : ℕ) : Type 0 where
  pub fits : mask < 2 ^ 64
  pub bits : (bit : ℕ) → (bit_at mask bit ≡ 1) ↔ IsFlagOf geometry position count bit

-- By this flag word, `found` positions in a row, from this one on, are flipped: at most limit, and as far as
-- their flags are in this word.
pub record IsReadyRun (geometry word position limit found : ℕ) : Type 0 where
  pub most : found ≤ limit
  pub in_word : ShareAWord flags_a_word geometry position found
  pub ready : (offset : ℕ) → offset < found → bit_at word (flag_bit geometry (position + offset)) ≡ polarity geometry (position + offset)
  pub no_more : found < limit → ShareAWord flags_a_word geometry position (suc found)
      → bit_at word (flag_bit geometry (position + found)) ≢ polarity geometry (position + found)

-- whether the flag of the position `offset` further on is in the same word and says 'flipped' there
abbrev pub is_ready : ℕ → ℕ → ℕ → ℕ → Bool
is_ready geometry word position offset =
    flag_word geometry (position + offset) == flag_word geometry position
    && bit_at word (flag_bit geometry (position + offset)) == polarity geometry (position + offset)

-- one more, if all before it are ready and it is too
abbrev pub one_more : ℕ → ℕ → Bool → ℕ
one_more offset found ready = cond (found == offset && ready) (suc offset) found

-- how many in a row are ready from a position on, at most limit, and as far as their flags are in its word
abbrev pub ready_in : ℕ → ℕ → ℕ → ℕ → ℕ
ready_in geometry word position zero = 0
ready_in geometry word position (suc offset) = one_more offset (ready_in geometry word position offset) (is_ready geometry word position offset)

-- ---- what a word says

-- The function returns a ready run, each ready run is that one, and none is longer than the ring.
abbrev pub ReadyInIsAReadyRun : Type 0
ReadyInIsAReadyRun = (geometry word position limit : ℕ) → IsReadyRun geometry word position limit (ready_in geometry word position limit)

abbrev pub ReadyRunsAreOne : Type 0
ReadyRunsAreOne =
    (geometry word position limit found other : ℕ)
    → IsReadyRun geometry word position limit found → IsReadyRun geometry word position limit other → found ≡ other

abbrev pub ReadyRunsFitTheRing : Type 0
ReadyRunsFitTheRing = (geometry word position limit found : ℕ) → IsReadyRun geometry word position limit found → found ≤ size geometry

-- A position's index also tells how many share its word.
abbrev pub IndexesTellSharedWords : Type 0
IndexesTellSharedWords = (geometry position : ℕ) → shared_word geometry (index_of geometry position).number ≡ shared_word geometry position

-- The flags of a batch are in at most two flag words: that of its first position, and the next one.
abbrev pub BatchesHaveTwoFlagWords : Type 0
BatchesHaveTwoFlagWords =
    (geometry position count : ℕ) → count ≤ 64 → count ≤ size geometry
    → count ≤ shared_word geometry position + shared_word geometry (position + shared_word geometry position)
