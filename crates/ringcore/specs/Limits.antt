-- The limits of every ring (own).
use Rattle.std.specs.Prelude.{ℕ, ◌^◌}

-- the most senders that a ring may have
abbrev pub most_senders : ℕ
most_senders = 256

-- the most commands that are ever reserved in a ring: this many senders make fewer than 2^32 batches each, of
-- at most 64
abbrev pub most_reserved : ℕ
most_reserved = 2 ^ 46

-- how many flags a flag word has
abbrev pub flags_a_word : ℕ
flags_a_word = 64
