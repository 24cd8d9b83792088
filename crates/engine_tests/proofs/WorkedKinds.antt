-- Which bits name which kinds of what is held.
use Rattle.std.proofs.Common.{◌≡◌, true, false, Some, None, arith}
use Rattle.caches.specs.declared.kinds.Kinds.{Kinds}
use Rattle.caches.specs.declared.tag_test.Kind.TheVariants.{Ste, Atc}
use Rattle.caches.specs.Kinds.{AreKindsOf}

-- Bit 6 is the bit of no kind.
pub seventh_bit_is_no_kind : (kinds : Kinds) → ¬ AreKindsOf 64 (Some kinds)
seventh_bit_is_no_kind kinds are = let few = are.0 in omega (arith, few)

-- Bit 5 is the bit of a kind.
pub last_bit_is_no_fault : ¬ AreKindsOf 32 None
last_bit_is_no_fault refused = refused (omega arith)

-- Bit 5 alone is what an ATC holds, and no stream table entry.
pub one_bit_is_one_kind : (kinds : Kinds) → AreKindsOf 32 (Some kinds) → (kinds.atc ≡ true) × (kinds.ste ≡ false)
one_bit_is_one_kind kinds are = (are.1 Atc, are.1 Ste)
