-- What is next for a stream with ATS, and for one without.
use Rattle.std.proofs.Common.{◌≡◌, ℕ, true, false, None}
use Rattle.ring.specs.Rings.{RingValue}
use Rattle.ring.specs.Runs.{Run}
use Rattle.ring.specs.sender.Senders.{SenderValue}
use Rattle.ring.specs.sender.GoingOn.{WentOn}
use Rattle.detachment.specs.Values.{ConfigurationValue, DetachedValue, detached_value, IsConfigured, IsDetached}
use Rattle.detachment.specs.Looking.{IsNext, HasComeAsFar, MaySend}
use Rattle.detachment.specs.declared.next.Next.TheVariants.{Endpoint, Nothing}
use Rattle.guests_tests.proofs.WorkedSteps.{configuration_known, configured_without_ats}

pub nothing_is_not_next_with_ats : (ring : RingValue) (run : Run) (s : SenderValue) (d : DetachedValue) → ¬ IsNext (configuration_known ring run) s (Nothing d)
nothing_is_not_next_with_ats ring run s d is = let no : true ≡ false = is.0 in absurd (cc)

pub endpoint_is_not_next_without_ats : (ring : RingValue) (run : Run) (s : SenderValue) (c : ConfigurationValue) → ¬ IsNext (configured_without_ats ring run) s (Endpoint c)
endpoint_is_not_next_without_ats ring run s c is = let no : false ≡ true = is.0 in absurd (cc)

pub next_of_the_same_stream : (c configured : ConfigurationValue) (s : SenderValue) → IsNext c s (Endpoint configured) → configured ≡ record c { sender = s }
next_of_the_same_stream c configured s is = is.1

pub nothing_next_for_the_same_stream : (c : ConfigurationValue) (s : SenderValue) (d : DetachedValue) → IsNext c s (Nothing d) → d ≡ detached_value c.stream c.configuration None s
nothing_next_for_the_same_stream c s d is = is.1

pub next_is_configured : (c : ConfigurationValue) → HasComeAsFar (Endpoint c) → IsConfigured c
next_is_configured c is = is

pub next_is_detached : (d : DetachedValue) → HasComeAsFar (Nothing d) → IsDetached d
next_is_detached d is = is

pub next_may_be_sent : (c : ConfigurationValue) (s : SenderValue) → MaySend s (Endpoint c) → WentOn c.sender s
next_may_be_sent c s may = may
