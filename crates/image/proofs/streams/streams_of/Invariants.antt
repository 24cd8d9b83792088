use Rattle.std.proofs.Common.{◌≡◌, string_bytes}
use Rattle.cmdcodec.specs.Words.{decoding}
use Rattle.qindex.specs.Positions.{place}
use Rattle.image.specs.Slots.{raw_at}
use Rattle.image.specs.States.{is_sync_at, stream_text, taken_positions}
use Rattle.image.proofs.StreamLemmas.{text_since}
use Rattle.image.proofs.streams.streams_of.Given as goal

abbrev pub invariant-slots : goal.invariant-slots
invariant-slots l =
    string_bytes l.text ≡ text_since (λ position. is_sync_at l.image l.queue (place l.queue.prod.geometry position))
    (λ position. stream_text (decoding (raw_at l.image (place l.queue.prod.geometry position)))) (taken_positions l.queue) l.steps
