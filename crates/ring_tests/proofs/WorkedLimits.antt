-- The limits of a ring, as they follow from each other.
use Rattle.std.proofs.Common.{◌≡◌, ◌*◌, ◌^◌, refl}
use Rattle.ringcore.specs.Limits.{most_senders, most_reserved}

-- This many senders make fewer than 2^32 batches each, of at most 64 commands.
pub no_ring_has_more : most_reserved ≡ 64 * (most_senders * 2 ^ 32)
no_ring_has_more = refl
