use Rattle.std.proofs.Common.{◌≡◌, sym, subst}
use Rattle.ring.specs.Runs.{Raw}
use Rattle.ring.specs.consumer.{ConsumerValue, HasSeen}
use Rattle.ring.proofs.consumer.pending_consumer.Held.take_run.Goals as goal

-- what the consumer saw before, it saw before it looked
seen_by : {D : Type 0} {looked own : ConsumerValue D} (raw : Raw) → looked ≡ own → HasSeen own.trail raw → HasSeen looked.trail raw
seen_by {D} raw same seen = subst (λ (d : ConsumerValue D). HasSeen d.trail raw) (sym same) seen

pub returns-in-Empty-clause-again : goal.returns-in-Empty-clause-again
returns-in-Empty-clause-again g c raw first = absurd (c.in-Empty.ensures.again raw (c.into_consumer.ensures.seen raw first))

pub returns-in-Empty-clause-seen : goal.returns-in-Empty-clause-seen
returns-in-Empty-clause-seen g c raw seen = absurd (c.in-Empty.ensures.again raw (seen_by raw c.into_consumer.ensures.consumer seen))

pub returns-in-Drained-clause-again : goal.returns-in-Drained-clause-again
returns-in-Drained-clause-again g c raw first = absurd (c.in-Drained.ensures.again raw (c.into_consumer.ensures.seen raw first))

pub returns-in-Drained-clause-seen : goal.returns-in-Drained-clause-seen
returns-in-Drained-clause-seen g c raw seen = absurd (c.in-Drained.ensures.again raw (seen_by raw c.into_consumer.ensures.consumer seen))

pub returns-in-Unwritten-clause-again : goal.returns-in-Unwritten-clause-again
returns-in-Unwritten-clause-again g c raw first = absurd (c.in-Unwritten.ensures.again raw (c.into_consumer.ensures.seen raw first))

pub returns-in-Unwritten-clause-seen : goal.returns-in-Unwritten-clause-seen
returns-in-Unwritten-clause-seen g c raw seen = absurd (c.in-Unwritten.ensures.again raw (seen_by raw c.into_consumer.ensures.consumer seen))

pub returns-in-Ready-clause-again : goal.returns-in-Ready-clause-again
returns-in-Ready-clause-again g c raw first = c.in-Ready.ensures.again raw (c.into_consumer.ensures.seen raw first)

pub returns-in-Ready-clause-seen : goal.returns-in-Ready-clause-seen
returns-in-Ready-clause-seen g c raw seen = c.in-Ready.ensures.again raw (seen_by raw c.into_consumer.ensures.consumer seen)
