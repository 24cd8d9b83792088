-- What the words of a ring are after a run: the shadow of its world.
use Rattle.std.specs.Prelude.{◌≡◌, ℕ, ◌+◌, ◌<◌, ◌≤◌, true, List, length, Some, slice_get, slice_index}
use Rattle.qindex.specs.Positions.{size}
use Rattle.qindex.specs.Indexes.{IsGeometry}
use Rattle.qindex.specs.ControlWord.{packed}
use Rattle.ringcore.specs.Limits.{flags_a_word}
use Rattle.ringcore.specs.declared.world.event.Half.{Half}
use Rattle.ringcore.specs.world.Trails.{Run}
use Rattle.ringcore.specs.world.World.{Item, World, head, world, control, half_of}
use Rattle.ringcore.specs.world.Allowed.{Ring, IsRun}
use Rattle.ringcore.specs.memory.Layout.{control_word, data_word, cell, words_of}
use Rattle.ringcore.specs.memory.Flags.{says_flipped}

-- The control word packs the tail and the head, and whether the ring is closed. For as many positions from
-- the head on as there are slots, each flag says whether the position is flipped, and each written half is in
-- its data word. Each cell holds its sender's acknowledged number.
pub record IsShadow (ring : Ring) (words : List ℕ) (w : World) : Type 0 where
  pub many : length words ≡ words_of ring.geometry ring.senders
  pub control_is : slice_index words control_word ≡ packed (control ring.geometry w)
  pub flags : (position : ℕ) → head w ≤ position → position < head w + size ring.geometry
      → says_flipped ring.geometry words position ≡ w.flipped position
  pub commands : (position : ℕ) (half : Half) (item : Item) → head w ≤ position → w.written position half ≡ true → slice_get w.reserved position ≡ Some item
      → slice_index words (data_word ring.geometry position half) ≡ half_of half item.raw
  pub cells : (sender : ℕ) → sender < ring.senders → slice_index words (cell ring.geometry sender) ≡ w.acknowledged sender

-- These may be the words after this run. A flag word has 64 flags.
pub record AreAfter (ring : Ring) (run : Run) (words : List ℕ) : Type 0 where
  pub geometry_is : IsGeometry ring.geometry
  pub flags_are : ring.flags ≡ flags_a_word
  pub run_is : IsRun ring run
  pub shadow : IsShadow ring words (world run)
