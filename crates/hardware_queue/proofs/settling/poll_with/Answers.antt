use Rattle.std.proofs.Common.{◌∙◌}
use Rattle.hardware_queue.proofs.Settlements.{left, syncs_left, broken_still, consumed_more, consumed_within, all_settled}
use Rattle.hardware_queue.proofs.settling.poll_with.Goals as goal

pub settle_all-requires-clause-order : goal.settle_all-requires-clause-order
settle_all-requires-clause-order g c = consumed_within _ _ _ _ c.in-Consumed.ensures.polled.found.0

pub settle_all-requires-clause-flight : goal.settle_all-requires-clause-flight
settle_all-requires-clause-flight g c = consumed_more _ _ _ _ _ _ _ c.requires.flight c.in-Consumed.ensures.polled.found.0

pub settle_all-requires-in-Stopped-clause-order : goal.settle_all-requires-in-Stopped-clause-order
settle_all-requires-in-Stopped-clause-order g c = consumed_within _ _ _ _ c.in-Stopped.ensures.polled.found.0

pub settle_all-requires-in-Stopped-clause-flight : goal.settle_all-requires-in-Stopped-clause-flight
settle_all-requires-in-Stopped-clause-flight g c = consumed_more _ _ _ _ _ _ _ c.requires.flight c.in-Stopped.ensures.polled.found.0

pub returns-in-Consumed-clause-broken : goal.returns-in-Consumed-clause-broken
returns-in-Consumed-clause-broken g c word is = absurd (c.in_default.not-Broken word (c.state.ensures ∙ is))

pub returns-in-Consumed-clause-lost : goal.returns-in-Consumed-clause-lost
returns-in-Consumed-clause-lost g c = (left _ _ _ c.in-Consumed.ensures.polled).lost

pub returns-in-Consumed-clause-repeated : goal.returns-in-Consumed-clause-repeated
returns-in-Consumed-clause-repeated g c = (left _ _ _ c.in-Consumed.ensures.polled).repeated

pub returns-in-Consumed-clause-syncs : goal.returns-in-Consumed-clause-syncs
returns-in-Consumed-clause-syncs g c none = syncs_left _ _ (left _ _ _ c.in-Consumed.ensures.polled) none

pub returns-in-Consumed-clause-flight : goal.returns-in-Consumed-clause-flight
returns-in-Consumed-clause-flight g c = all_settled _ _ c.args.consumer.now _ _ c.settle_all.ensures.flight c.settle_all.ensures.settled

pub returns-in-Stopped-clause-broken : goal.returns-in-Stopped-clause-broken
returns-in-Stopped-clause-broken g c word is = absurd (c.in_default.not-Broken word (c.state.ensures ∙ is))

pub returns-in-Stopped-clause-lost : goal.returns-in-Stopped-clause-lost
returns-in-Stopped-clause-lost g c = (left _ _ _ c.in-Stopped.ensures.polled).lost

pub returns-in-Stopped-clause-repeated : goal.returns-in-Stopped-clause-repeated
returns-in-Stopped-clause-repeated g c = (left _ _ _ c.in-Stopped.ensures.polled).repeated

pub returns-in-Stopped-clause-syncs : goal.returns-in-Stopped-clause-syncs
returns-in-Stopped-clause-syncs g c none = syncs_left _ _ (left _ _ _ c.in-Stopped.ensures.polled) none

pub returns-in-Stopped-clause-flight : goal.returns-in-Stopped-clause-flight
returns-in-Stopped-clause-flight g c = all_settled _ _ c.args.consumer.now _ _ c.settle_all-in-Stopped.ensures.flight c.settle_all-in-Stopped.ensures.settled

pub returns-in-Broken-poll-clause-broken : goal.returns-in-Broken-poll-clause-broken
returns-in-Broken-poll-clause-broken g c word is = absurd (c.in_default.not-Broken word (c.state.ensures ∙ is))

pub returns-in-Broken-poll-clause-lost : goal.returns-in-Broken-poll-clause-lost
returns-in-Broken-poll-clause-lost g c = (left _ _ _ c.in-Broken-poll.ensures.polled).lost

pub returns-in-Broken-poll-clause-repeated : goal.returns-in-Broken-poll-clause-repeated
returns-in-Broken-poll-clause-repeated g c = (left _ _ _ c.in-Broken-poll.ensures.polled).repeated

pub returns-in-Broken-poll-clause-syncs : goal.returns-in-Broken-poll-clause-syncs
returns-in-Broken-poll-clause-syncs g c none = syncs_left _ _ (left _ _ _ c.in-Broken-poll.ensures.polled) none

pub returns-in-Broken-poll-clause-flight : goal.returns-in-Broken-poll-clause-flight
returns-in-Broken-poll-clause-flight g c =
    rw c.in-Broken-poll.ensures.state (broken_still _ _ _ _ _ _ c.requires.flight c.in-Broken-poll.ensures.polled.found.2)
