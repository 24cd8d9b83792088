-- The 16 bytes of a command in memory: lo first, each word little-endian.
use Rattle.std.specs.Prelude.{ℕ, List, ◌++◌, take, drop}
use Rattle.byteorder.specs.Endian.{little_bytes, little_number}
use Rattle.cmdcodec.specs.declared.raw.Raw.{Raw}

abbrev pub bytes_of : Raw → List ℕ
bytes_of raw = little_bytes 8 raw.lo ++ little_bytes 8 raw.hi

abbrev pub raw_of : List ℕ → Raw
raw_of bytes = record { lo = little_number 8 (take 8 bytes); hi = little_number 8 (drop 8 bytes) }
