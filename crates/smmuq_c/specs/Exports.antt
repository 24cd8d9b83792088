-- What calls on a handle do, a word each.
use Rattle.std.specs.Prelude.{ℕ, List}
use Rattle.cmdcodec.specs.declared.raw.Raw.{Raw}
use Rattle.engine.specs.declared.completion.Completion.{Completion}
use Rattle.smmuq_c.specs.declared.listing.EntryWords.{EntryWords}
use Rattle.smmuq_c.specs.declared.object.Object.{Object}
use Rattle.smmuq_c.specs.declared.status.Status.{Status}
use Rattle.smmuq_c.specs.declared.tags.TagWords.{TagWords}
use Rattle.smmuq_c.specs.declared.words.Held.{Held}
use Rattle.smmuq_c.specs.declared.words.RunWords.{RunWords}
use Rattle.smmuq_c.specs.declared.words.VerdictWords.{VerdictWords}
use Rattle.smmuq_c.specs.Calls.{OfUnit, OfSender, OfEngine, OfConsumer, OfForwarder, OfAnyUnit, OfSaid, DoesSaid}
use Rattle.smmuq_c.specs.Entries.{HasFilled, HasLookedUp, HasEvicted}
use Rattle.hardware_queue.specs.declared.register_words.RegisterWords.{RegisterWords}
use Rattle.smmuq_c.specs.declared.forwarder_calls.AcknowledgementWords.{AcknowledgementWords}
use Rattle.smmuq_c.specs.declared.forwarder_calls.PlacementWords.{PlacementWords}
use Rattle.smmuq_c.specs.Forwarding.{HasForwardedFor, HasPolledFor, HasAcknowledgedFor, remedy_numbered}
use Rattle.smmuq_c.specs.declared.outcome_calls.OutcomeWords.{OutcomeWords}
use Rattle.smmuq_c.specs.declared.restarting.RestartWords.{RestartWords}
use Rattle.smmuq_c.specs.Judging.{HasJudgedFor}
use Rattle.smmuq_c.specs.Lists.{HasListed}
use Rattle.smmuq_c.specs.Messages.{HasPolledMessage}
use Rattle.smmuq_c.specs.Outcomes.{HasToldOutcome}
use Rattle.smmuq_c.specs.Restarting.{HasRestartedFor}
use Rattle.smmuq_c.specs.Runs.{HasRunCompletions}
use Rattle.smmuq_c.specs.Sends.{HasSent}
use Rattle.smmuq_c.specs.Tags.{IsTagOf}
use Rattle.smmuq_c.specs.Taking.{HasTakenRun}

-- ---- a unit or an engine, by the tag that the words say

abbrev pub Fills : TagWords → ℕ → Object → Object → Status → Type 0
Fills tag value = OfSaid (IsTagOf tag) (λ t. HasFilled t value)

abbrev pub LooksUp : TagWords → Held → Object → Object → Status → Type 0
LooksUp tag held = OfSaid (IsTagOf tag) (λ t. HasLookedUp t held)

abbrev pub Evicts : TagWords → Held → Object → Object → Status → Type 0
Evicts tag held = OfSaid (IsTagOf tag) (λ t. HasEvicted t held)

abbrev pub Lists : List EntryWords → List EntryWords → ℕ → Object → Object → Status → Type 0
Lists before after count = OfAnyUnit (HasListed before after count)

-- ---- objects of one kind

abbrev pub Judges : ℕ → ℕ → VerdictWords → Object → Object → Status → Type 0
Judges lo hi verdict = OfUnit (HasJudgedFor (record { lo = lo; hi = hi }) verdict)

abbrev pub Sends : List Raw → ℕ → ℕ → Object → Object → Status → Type 0
Sends commands tries number = OfSender (HasSent commands tries number)

abbrev pub RunsTelling : ℕ → RunWords → List Completion → List Completion → ℕ → Object → Object → Status → Type 0
RunsTelling most told before after count = OfEngine (HasRunCompletions most told before after count)

abbrev pub TakesRun : List Raw → List Raw → ℕ → Object → Object → Status → Type 0
TakesRun before after count = OfConsumer (HasTakenRun before after count)

abbrev pub Forwards : List Raw → List Raw → PlacementWords → Object → Object → Status → Type 0
Forwards before after told = OfForwarder (HasForwardedFor before after told)

abbrev pub Polls : RegisterWords → ℕ → ℕ → Object → Object → Status → Type 0
Polls words before told = OfForwarder (HasPolledFor words before told)

-- by the number of the remedy
abbrev pub Remedies : ℕ → ℕ → AcknowledgementWords → Object → Object → Status → Type 0
Remedies remedy gerrorn told = OfForwarder (DoesSaid (remedy_numbered remedy) (λ r. HasAcknowledgedFor gerrorn r told))

abbrev pub Restarts : ℕ → RestartWords → Object → Object → Status → Type 0
Restarts gerrorn told = OfForwarder (HasRestartedFor gerrorn told)

abbrev pub TellsOutcome : ℕ → ℕ → OutcomeWords → Object → Object → Status → Type 0
TellsOutcome sender number told = OfForwarder (HasToldOutcome sender number told)

abbrev pub PollsMessage : ℕ → ℕ → Object → Object → Status → Type 0
PollsMessage message told = OfForwarder (HasPolledMessage message told)
