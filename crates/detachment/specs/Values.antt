-- What contracts see of a stream that is being taken away, and what each step keeps.
use Rattle.std.specs.Prelude.{◌≡◌, ℕ, true, Option, option_map, unwrap_or}
use Rattle.ring.specs.sender.Senders.{SenderValue, ReceiptValue}
use Rattle.detachment.specs.Commands.{Stream, has_ats}
use Rattle.detachment.specs.Order.{IsConfiguringIn, IsConfiguredIn, IsLeavingIn, IsDetachedIn}

-- the stream, the CMD_SYNC behind the commands for its configuration, and their sender as it was when it had
-- sent them, or when it was told that they are complete
pub record ConfigurationValue : Type 0 where
  pub stream : Stream
  pub configuration : ReceiptValue
  pub sender : SenderValue

-- the same with the CMD_SYNC behind the command for its endpoint
pub record EndpointValue : Type 0 where
  pub stream : Stream
  pub configuration : ReceiptValue
  pub endpoint : ReceiptValue
  pub sender : SenderValue

-- the same of a stream that is detached, whose endpoint may have had no command
pub record DetachedValue : Type 0 where
  pub stream : Stream
  pub configuration : ReceiptValue
  pub endpoint : Option ReceiptValue
  pub sender : SenderValue

abbrev pub configuration_value : Stream → ReceiptValue → SenderValue → ConfigurationValue
configuration_value stream configuration sender = record { stream = stream; configuration = configuration; sender = sender }

abbrev pub endpoint_value : Stream → ReceiptValue → ReceiptValue → SenderValue → EndpointValue
endpoint_value stream configuration endpoint sender = record { stream = stream; configuration = configuration; endpoint = endpoint; sender = sender }

abbrev pub detached_value : Stream → ReceiptValue → Option ReceiptValue → SenderValue → DetachedValue
detached_value stream configuration endpoint sender = record { stream = stream; configuration = configuration; endpoint = endpoint; sender = sender }

-- The receipt is this sender's.
abbrev pub IsOwn : ReceiptValue → SenderValue → Type 0
IsOwn receipt sender = receipt.sender ≡ sender.number

-- What each step keeps: the receipt that is asked for next is the sender's own, and in the run that the sender
-- knew then the stream had come as far.
pub record IsConfiguring (c : ConfigurationValue) : Type 0 where
  pub own : IsOwn c.configuration c.sender
  pub order : IsConfiguringIn c.stream c.sender.number c.configuration.number c.sender.history

-- The endpoint, whose command comes next, has ATS.
pub record IsConfigured (c : ConfigurationValue) : Type 0 where
  pub own : IsOwn c.configuration c.sender
  pub cached : has_ats c.stream ≡ true
  pub order : IsConfiguredIn c.stream c.sender.number c.configuration.number c.sender.history

pub record IsLeaving (e : EndpointValue) : Type 0 where
  pub own : IsOwn e.endpoint e.sender
  pub order : IsLeavingIn e.stream e.sender.number e.configuration.number e.endpoint.number e.sender.history

-- the receipt that was asked for last
abbrev pub last_receipt : DetachedValue → ReceiptValue
last_receipt d = unwrap_or d.endpoint d.configuration

-- the number of the endpoint's CMD_SYNC, if there is one
abbrev pub endpoint_number : DetachedValue → Option ℕ
endpoint_number d = option_map (λ receipt. receipt.number) d.endpoint

pub record IsDetached (d : DetachedValue) : Type 0 where
  pub own : IsOwn (last_receipt d) d.sender
  pub order : IsDetachedIn d.stream d.sender.number d.configuration.number (endpoint_number d) d.sender.history
