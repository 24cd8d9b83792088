-- What is carried out was applied, and no older entry is held.
use Rattle.std.specs.Prelude.{◌≡◌, ◌<◌, ℕ, ◌+◌, true, List, ◌++◌, Some, slice_get}
use Rattle.std.specs.FinMap as finite
use Rattle.cmdcodec.specs.declared.command.Command.{Command}
use Rattle.caches.specs.declared.tag.Tag.{Tag}
use Rattle.caches.specs.declared.tag.Entry.{Entry}
use Rattle.caches.specs.Covers.{covers}
use Rattle.caches.specs.Held.{Entries}
use Rattle.engine.specs.Settled.{IsSettled}
use Rattle.range_hints.specs.declared.ttl.Ttl.{Ttl}
use Rattle.range_hints.specs.Hints.{SpellsWithHint}
use Rattle.ring.specs.Runs.{Raw, Applied, Run, world}
use Rattle.ring.specs.sender.Senders.{SenderValue}
use Rattle.guest_commands.specs.Entries.{IsImage}
use Rattle.guest_commands.specs.Theorems.{Reaches}
use Rattle.guest_forwarding.specs.Consumed.{Consumed}
use Rattle.guest_forwarding.specs.Carrying.{place_of, IsAppliedBehind, IsCarriedOut}

-- A command of the host that covers this entry for a command of the guest was taken and applied. It is of a batch that the
-- sender reserved behind the run `known`, and that is applied as a whole.
pub record HasReached (command : Command) (ttl : Ttl) (image : Tag) (known : Run) (s : SenderValue) : Type 0 where
  pub words : List Raw
  pub behind : IsAppliedBehind known words s
  pub host : Raw
  pub index : ℕ
  pub among : slice_get words index ≡ Some host
  pub applied : slice_get (world s.history).taken (place_of behind.applied + index) ≡ Some record { raw = host; outcome = Applied }
  pub covers : Reaches command ttl image host

abbrev pub CarriedOutIsApplied : Type 0
CarriedOutIsApplied =
    (s : SenderValue) (c : Consumed) → IsCarriedOut s c → (command : Command) (ttl : Ttl) (tag image : Tag)
    → SpellsWithHint c.raw command ttl → covers command tag ≡ true → IsImage c.mapping tag image
    → HasReached command ttl image c.known s

-- Where the caches of an engine are settled for what it took in a run that continues this one, each entry that they hold of
-- what the guest's command covers, as it is on the host, was filled after a command of the host that reached it was taken.
abbrev pub NoOlderEntryIsHeld : Type 0
NoOlderEntryIsHeld =
    (s : SenderValue) (c : Consumed) → IsCarriedOut s c → (newer : Run) (entries : Entries)
    → IsSettled entries (world (newer ++ s.history)).taken → (command : Command) (ttl : Ttl) (tag image : Tag)
    → SpellsWithHint c.raw command ttl → covers command tag ≡ true → IsImage c.mapping tag image
    → (entry : Entry) → finite.get entries image ≡ Some entry
    → (reached : HasReached command ttl image c.known s) × (place_of reached.behind.applied + reached.index < entry.born)
