-- Which bits of a command are reserved: those in which it has no field. TTL has a place only in the invalidations by
-- address, NUM and SCALE only beside a TG that isn't 0.
use Rattle.std.specs.Prelude.{[], ◌∷◌}
use Rattle.cmdcodec.specs.declared.raw.Raw.{Raw}
use Rattle.cmdcodec.specs.declared.command.Command.{Command}
use Rattle.cmdcodec.specs.declared.command.Command.TheVariants.{TlbiNhVa, TlbiNhVaa, TlbiEl2Va, TlbiEl2Vaa, TlbiS2Ipa}
use Rattle.cmdcodec.specs.FreeBits.{Runs, AreZero, IsAlikeBeside, free_in_lo, free_in_hi}

abbrev pub reserved_in_lo : Command → Runs
reserved_in_lo command = free_in_lo command

abbrev pub reserved_in_hi : Command → Runs
reserved_in_hi (TlbiNhVa vmid asid leaf page reach) = (7, 1) ∷ []
reserved_in_hi (TlbiNhVaa vmid leaf page reach) = (7, 1) ∷ []
reserved_in_hi (TlbiEl2Va asid leaf page reach) = (7, 1) ∷ []
reserved_in_hi (TlbiEl2Vaa leaf page reach) = (7, 1) ∷ []
reserved_in_hi (TlbiS2Ipa vmid leaf page reach) = (7, 1) ∷ (63, 52) ∷ []
reserved_in_hi other = free_in_hi other

-- All reserved bits of this command are 0.
abbrev pub HasReservedBitsZero : Raw → Command → Type 0
HasReservedBitsZero raw command = AreZero raw.lo (reserved_in_lo command) × AreZero raw.hi (reserved_in_hi command)

-- The words differ at most in reserved bits of this command.
abbrev pub DifferInReservedBits : Command → Raw → Raw → Type 0
DifferInReservedBits command raw other =
    IsAlikeBeside (reserved_in_lo command) raw.lo other.lo × IsAlikeBeside (reserved_in_hi command) raw.hi other.hi
