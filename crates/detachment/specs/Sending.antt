-- What is sent for a stream, and what comes back if it isn't.
use Rattle.std.specs.Prelude.{◌≡◌, ℕ, true}
use Rattle.ring.specs.declared.sender.cause.Refused.{Refused}
use Rattle.ring.specs.sender.Senders.{SenderValue}
use Rattle.ring.specs.sender.Sending.{IsSent, IsGivenUpWith}
use Rattle.detachment.specs.Commands.{Stream, configuration_words, endpoint_words}
use Rattle.detachment.specs.Values.{ConfigurationValue, EndpointValue}

-- Within so many tries the sender sent the commands for the stream's configuration, with the CMD_SYNC that is
-- kept, and is kept as it goes on.
pub record HasSentConfiguration (stream : Stream) (tries : ℕ) (old new : SenderValue) (c : ConfigurationValue) : Type 0 where
  pub sent : IsSent (configuration_words stream) tries old new c.configuration
  pub stream_is : c.stream ≡ stream
  pub sender_is : c.sender ≡ new

-- The same for the endpoint of a stream whose configuration is invalidated.
pub record HasSentEndpoint (c : ConfigurationValue) (tries : ℕ) (old new : SenderValue) (e : EndpointValue) : Type 0 where
  pub sent : IsSent (endpoint_words c.stream) tries old new e.endpoint
  pub stream_is : e.stream ≡ c.stream
  pub configuration_is : e.configuration ≡ c.configuration
  pub sender_is : e.sender ≡ new

-- Nothing was sent: within so many tries the commands and their CMD_SYNC were refused.
abbrev pub ConfigurationIsUnsent : Stream → ℕ → SenderValue → Refused → Type 0
ConfigurationIsUnsent stream tries sender refused = IsGivenUpWith (configuration_words stream) true tries sender refused

abbrev pub EndpointIsUnsent : ConfigurationValue → ℕ → SenderValue → Refused → Type 0
EndpointIsUnsent c tries sender refused = IsGivenUpWith (endpoint_words c.stream) true tries sender refused
