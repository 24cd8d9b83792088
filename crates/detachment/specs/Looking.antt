-- What is next for a stream whose configuration's commands are complete.
use Rattle.std.specs.Prelude.{◌≡◌, true, false, None}
use Rattle.ring.specs.sender.Senders.{SenderValue}
use Rattle.ring.specs.sender.GoingOn.{WentOn}
use Rattle.detachment.specs.Commands.{has_ats}
use Rattle.detachment.specs.Values.{ConfigurationValue, detached_value, IsConfigured, IsDetached}
use Rattle.detachment.specs.declared.next.Next.{Next}
use Rattle.detachment.specs.declared.next.Next.TheVariants.{Endpoint, Nothing}

-- By a sender that was told so: the endpoint's command if the endpoint has ATS, and else nothing.
abbrev pub IsNext : ConfigurationValue → SenderValue → Next → Type 0
IsNext c told (Endpoint configured) = (has_ats c.stream ≡ true) × (configured ≡ record c { sender = told })
IsNext c told (Nothing detached) = (has_ats c.stream ≡ false) × (detached ≡ detached_value c.stream c.configuration None told)

-- The stream has come as far in the run that the sender knew.
abbrev pub HasComeAsFar : Next → Type 0
HasComeAsFar (Endpoint configured) = IsConfigured configured
HasComeAsFar (Nothing detached) = IsDetached detached

-- The sender may send the endpoint's command, if there is one.
abbrev pub MaySend : SenderValue → Next → Type 0
MaySend sender (Endpoint configured) = WentOn configured.sender sender
MaySend sender (Nothing detached) = Unit {0}
