-- The CMD_SYNC that ends a batch.
use Rattle.std.specs.Prelude.{ℕ, ◌+◌, ◌*◌}
use Rattle.cmdcodec.specs.declared.command.Command.{Command}
use Rattle.cmdcodec.specs.declared.command.Command.TheVariants.{CmdSync}

-- the address of a sender's completion cell
abbrev pub cell_address : ℕ → ℕ
cell_address sender = 0x40000000 + 4 * sender

-- Writes the batch's number into the sender's completion cell; MSIADDR is the cell's address without its two
-- low bits.
abbrev pub closing_sync : ℕ → ℕ → Command
closing_sync sender number = CmdSync 1 0 0 number (0x10000000 + sender)
