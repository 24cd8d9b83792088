use Rattle.std.proofs.Common.{◌≡◌, length}
use Rattle.std.specs.Io.KnownBytes.{Keeps}
use Rattle.script.proofs.pending.read_once.Given as goal

abbrev pub invariant-tries : goal.invariant-tries
invariant-tries g l = (length l.buffer ≡ length l.fn.buffer) × Keeps (g.R.Read.remaining l.fn.reader) (g.R.Read.remaining l.reader)
