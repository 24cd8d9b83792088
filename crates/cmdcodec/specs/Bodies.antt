-- What a batch holds before the CMD_SYNC that closes it.
use Rattle.std.specs.Prelude.{◌≡◌, ◌≤◌, ℕ, false, List, length}
use Rattle.std.specs.List.{list_any}
use Rattle.cmdcodec.specs.declared.raw.Raw.{Raw}
use Rattle.cmdcodec.specs.Opcodes.{is_sync}

-- 1 to 63 commands, none of them a CMD_SYNC
pub record IsBody (commands : List Raw) : Type 0 where
  pub some : 1 ≤ length commands
  pub few : length commands ≤ 63
  pub no_sync : list_any is_sync commands ≡ false

-- the most batches that a sender may make
abbrev pub most_batches : ℕ
most_batches = 4294967295
