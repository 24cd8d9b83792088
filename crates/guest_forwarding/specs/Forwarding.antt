-- What was consumed and sent, and what is refused.
use Rattle.std.specs.Prelude.{◌≡◌, ◌≤◌, ℕ, true, List, [], length, take, All}
use Rattle.ring.specs.Runs.{Raw}
use Rattle.ring.specs.declared.sender.cause.Refused.{Refused}
use Rattle.ring.specs.sender.Senders.{SenderValue, ReceiptValue}
use Rattle.ring.specs.sender.Sending.{IsSent, IsGivenUpWith}
use Rattle.guest_commands.specs.Mappings.{Mapping}
use Rattle.guest_commands.specs.Theorems.{IsIsolated}
use Rattle.guest_commands.specs.Conversions.{Conversion, IsConverted}
use Rattle.guest_forwarding.specs.declared.forwarded.Forwarded.{Forwarded}
use Rattle.guest_forwarding.specs.Consumed.{consumed_by, host_commands}
use Rattle.guest_forwarding.specs.Values.{ForwardingValue, behind_batch}
use Rattle.guest_forwarding.specs.Carrying.{HasConsumed}

-- ---- consumed

-- the guest's commands that were consumed
abbrev pub first_of : List Raw → Forwarded → List Raw
first_of raws forwarded = take forwarded.consumed raws

-- the host's commands for them
abbrev pub words_of : Mapping → List Raw → Forwarded → List Raw
words_of mapping raws forwarded = host_commands mapping (first_of raws forwarded)

-- Exactly those were consumed that are converted, and no more for the same reason.
abbrev pub IsTaken : Mapping → List Raw → Forwarded → Type 0
IsTaken mapping raws forwarded =
    IsConverted mapping raws
    record { guest = mapping; commands = words_of mapping raws forwarded; taken = forwarded.consumed; ended = forwarded.ended }

-- Whatever the host's commands for them cover is the guest's.
abbrev pub IsOwn : Mapping → List Raw → Forwarded → Type 0
IsOwn mapping raws forwarded = All (IsIsolated mapping) (words_of mapping raws forwarded)

-- They are on their way, behind the run that the sender knew.
abbrev pub AreConsumed : Mapping → List Raw → SenderValue → ForwardingValue → Forwarded → Type 0
AreConsumed mapping raws s f forwarded = All (HasConsumed f) (consumed_by mapping s.history (first_of raws forwarded))

-- ---- sent

-- The words were sent with a CMD_SYNC, whose receipt is kept.
pub record IsLast (words : List Raw) (tries : ℕ) (s t : SenderValue) (f : ForwardingValue) : Type 0 where
  pub receipt : ReceiptValue
  pub sent : IsSent words tries s t receipt
  pub kept : f ≡ behind_batch receipt t

-- If there are no words, the sender took no step.
abbrev pub IsSentIfAny : List Raw → ℕ → SenderValue → SenderValue → ForwardingValue → ForwardingValue → Type 0
IsSentIfAny [] tries s t old new = (t ≡ s) × (new ≡ old)
IsSentIfAny words tries s t old new = IsLast words tries s t new

abbrev pub AreSent : Mapping → List Raw → ℕ → SenderValue → ForwardingValue → ForwardingValue → Forwarded → Type 0
AreSent mapping raws tries s old new forwarded = IsSentIfAny (words_of mapping raws forwarded) tries s forwarded.sender old new

-- ---- refused

-- There are commands of the host to send, and within so many tries they were refused with their CMD_SYNC.
pub record IsUnsent (mapping : Mapping) (raws : List Raw) (tries : ℕ) (s : SenderValue) (answer : Refused) : Type 0 where
  pub conversion : Conversion
  pub converted : IsConverted mapping raws conversion
  pub some : 1 ≤ length conversion.commands
  pub refused : IsGivenUpWith conversion.commands true tries s answer
