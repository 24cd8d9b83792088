use Rattle.std.proofs.Common.{◌≡◌, length}
use Rattle.invalidations.specs.Plans.{commands_of}
use Rattle.smmuq_c.proofs.Writing.{IsWriting}
use Rattle.smmuq_c.proofs.invalidation.write_words.Given as goal

abbrev pub invariant-commands : goal.invariant-commands
invariant-commands l = IsWriting l.fn.rest l.rest l.fn.buffer l.buffer l.place × (length l.buffer ≡ length l.fn.buffer)

abbrev pub decreases-commands : goal.decreases-commands
decreases-commands l = length (commands_of l.rest)
