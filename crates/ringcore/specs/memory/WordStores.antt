-- The words of a ring as callers see them, and what one operation makes of them.
use Rattle.std.specs.Prelude.{◌≡◌, ℕ, ◌≤◌, List, length, slice_index, slice_set}
use Rattle.qindex.specs.Indexes.{IsGeometry}
use Rattle.ringcore.specs.Limits.{most_senders}
use Rattle.ringcore.specs.memory.Layout.{flag_word, words_of}
use Rattle.ringcore.specs.memory.Flags.{IsFlipMask}
use Rattle.ringcore.specs.memory.StepLaws.{turned}

pub record WordsValue : Type 0 where
  pub geometry : ℕ
  pub senders : ℕ
  pub words : List ℕ

pub record AreWords (w : WordsValue) : Type 0 where
  pub geometry_is : IsGeometry w.geometry
  pub few : w.senders ≤ most_senders
  pub many : length w.words ≡ words_of w.geometry w.senders

-- the word at this place in the list, and the words with another there
abbrev pub word_at : WordsValue → ℕ → ℕ
word_at w at = slice_index w.words at

abbrev pub with_word : WordsValue → ℕ → ℕ → WordsValue
with_word w at x = record w { words = slice_set w.words at x }

abbrev pub with_turned : WordsValue → ℕ → ℕ → WordsValue
with_turned w at mask = record w { words = turned w.words at mask }

-- Exactly the flags of `count` positions from this one on were turned.
pub record IsFlipped (old new : WordsValue) (position count : ℕ) : Type 0 where
  pub mask : ℕ
  pub mask_is : IsFlipMask old.geometry position count mask
  pub words : new ≡ with_turned old (flag_word old.geometry position) mask
