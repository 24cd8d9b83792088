-- The device that was lent last, as its snapshot shows it.
use Rattle.std.specs.Prelude.{Option, Some, None}
use Rattle.std.specs.declared.snapshot.Snapshot.{Snapshot}

abbrev pub shown : {D : Type 0} → Option (Snapshot D) → Option D
shown None = None
shown (Some s) = Some s.value
