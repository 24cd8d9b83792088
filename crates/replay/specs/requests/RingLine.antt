-- What a line that makes the ring asks for.
use Rattle.std.specs.Prelude.{ℕ, ◌^◌, List, Option}
use Rattle.script.specs.Fields.{◌>>=◌, guard, next_below, is_end}
use Rattle.replay.specs.declared.request.Request.{Request}
use Rattle.replay.specs.declared.request.Request.TheVariants.{Ring}

-- `ring LOG2 SENDERS MAXBATCHES CAPACITY`
unfoldable pub ring_of : List (List ℕ) → Option Request
ring_of words = do
  log2 ← next_below (2 ^ 32) words
  senders ← next_below (2 ^ 32) log2.1
  max_batches ← next_below (2 ^ 32) senders.1
  capacity ← next_below (2 ^ 32) max_batches.1
  guard (is_end capacity.1) (Ring (record { log2 = log2.0; senders = senders.0; max_batches = max_batches.0; capacity = capacity.0 }))
