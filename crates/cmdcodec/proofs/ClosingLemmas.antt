-- The words of a closing sync.
use Rattle.std.proofs.Common.{◌≡◌, ℕ, true, eq-eqb, arith}
use Rattle.cmdcodec.specs.ClosingSync.{cell_address, closing_sync}
use Rattle.cmdcodec.specs.Opcodes.{opcode_of, is_sync}
use Rattle.cmdcodec.specs.Words.{encoding}

pub opcode_is : (sender number : ℕ) → is_sync (encoding (closing_sync sender number)) ≡ true
unfolding encoding
opcode_is sender number = eq-eqb (opcode_of (encoding (closing_sync sender number))) 0x46 (omega arith)

pub address_is : (sender number : ℕ) → (encoding (closing_sync sender number)).hi ≡ cell_address sender
unfolding encoding
address_is sender number = omega arith
