-- Where each word of a ring is (own). Unused words separate the control word, the flag words, the data words
-- and each completion cell: so many that no two of these share 64 bytes, wherever the first is.
use Rattle.std.specs.Prelude.{ℕ, ◌+◌, ◌-◌, ◌*◌, ◌/◌}
use Rattle.qindex.specs.Positions.{size, place}
use Rattle.ringcore.specs.Limits.{flags_a_word}
use Rattle.ringcore.specs.declared.world.event.Half.{Half}
use Rattle.ringcore.specs.declared.world.event.Half.TheVariants.{Lo, Hi}

-- 64 bytes together with the word before them
abbrev pub unused : ℕ
unused = 7

abbrev pub control_word : ℕ
control_word = 0

-- one flag word for each 64 slots, or for fewer
abbrev pub first_flag_word : ℕ
first_flag_word = control_word + 1 + unused

abbrev pub flag_words : ℕ → ℕ
flag_words geometry = (size geometry + (flags_a_word - 1)) / flags_a_word

-- the word that has a position's flag
abbrev pub flag_word : ℕ → ℕ → ℕ
flag_word geometry position = first_flag_word + place geometry position / flags_a_word

-- two data words for each slot, lo before hi
abbrev pub first_data_word : ℕ → ℕ
first_data_word geometry = first_flag_word + flag_words geometry + unused

abbrev pub half_number : Half → ℕ
half_number Lo = 0
half_number Hi = 1

-- the word that has a half of a position's command
abbrev pub data_word : ℕ → ℕ → Half → ℕ
data_word geometry position half = first_data_word geometry + 2 * place geometry position + half_number half

-- the completion cell of each sender
abbrev pub first_cell : ℕ → ℕ
first_cell geometry = first_data_word geometry + 2 * size geometry + unused

abbrev pub cell : ℕ → ℕ → ℕ
cell geometry sender = first_cell geometry + sender * (1 + unused)

-- how many words a ring has
abbrev pub words_of : ℕ → ℕ → ℕ
words_of geometry senders = first_cell geometry + senders * (1 + unused)
