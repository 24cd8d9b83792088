-- The label of each fault that makes the words of a command illegal.
use Rattle.std.specs.Prelude.{ℕ, List, codes}
use Rattle.cmdcodec.specs.declared.ill.Ill.{Ill}
use Rattle.cmdcodec.specs.declared.ill.Ill.TheVariants.{UnknownOpcode, SecureStream, ReservedSignal, OversizedSpan}

abbrev pub label_of : Ill → List ℕ
label_of UnknownOpcode = codes "ILL1"
label_of SecureStream = codes "ILL2"
label_of ReservedSignal = codes "ILL3"
label_of OversizedSpan = codes "ILL4"
