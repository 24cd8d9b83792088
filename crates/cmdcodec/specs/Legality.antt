-- What makes two words illegal: the first fault that applies, if any.
use Rattle.std.specs.Prelude.{◌≡◌, ℕ, ◌==◌, ◌&&◌, ◌||◌, nat_le, nat_lt, Bool, true, Option, Some, None, is_none, if◌then◌else◌}
use Rattle.cmdcodec.specs.declared.raw.Raw.{Raw}
use Rattle.cmdcodec.specs.declared.ill.Ill.{Ill}
use Rattle.cmdcodec.specs.declared.ill.Ill.TheVariants.{UnknownOpcode, SecureStream, ReservedSignal, OversizedSpan}
use Rattle.cmdcodec.specs.Fields.{field}
use Rattle.cmdcodec.specs.Opcodes.{opcode_of, opcode_named, is_kept}

-- The prefetches, the CFGI commands and ATC_INV have SSec in bit 10 of lo, for a Secure stream; the profile
-- has no Secure streams.
abbrev pub has_secure_bit : ℕ → Bool
has_secure_bit opcode = nat_le 0x01 opcode && nat_le opcode 0x06 || opcode == 0x40

abbrev pub first_ill : Raw → Option Ill
first_ill raw =
    if is_none (opcode_named (opcode_of raw)) then Some UnknownOpcode
    else if has_secure_bit (opcode_of raw) && field raw.lo 10 10 == 1 then Some SecureStream
    else if opcode_of raw == 0x46 && field raw.lo 13 12 == 3 then Some ReservedSignal
    else if opcode_of raw == 0x40 && nat_lt 52 (field raw.hi 5 0) then Some OversizedSpan
    else None

-- legal words of a kept command
abbrev pub IsKept : Raw → Type 0
IsKept raw = (is_kept (opcode_of raw) ≡ true) × (first_ill raw ≡ None)
