-- When entries are settled for a list of taken commands: none is older than a command in it that covers it.
use Rattle.std.specs.Prelude.{◌≡◌, ◌≤◌, ℕ, List, length, true, Some, slice_get}
use Rattle.std.specs.FinMap as finite
use Rattle.cmdcodec.specs.declared.command.Command.{Command}
use Rattle.cmdcodec.specs.Spelling.{Spells}
use Rattle.ringcore.specs.declared.world.event.Outcome.TheVariants.{Applied}
use Rattle.ringcore.specs.world.World.{Taken}
use Rattle.caches.specs.declared.tag.Tag.{Tag}
use Rattle.caches.specs.declared.tag.Entry.{Entry}
use Rattle.caches.specs.Covers.{covers}
use Rattle.caches.specs.Held.{Entries}

-- The command was applied, and its words spell a command that covers the tag.
pub record HasCovered (taken : Taken) (tag : Tag) : Type 0 where
  pub applied : taken.outcome ≡ Applied
  pub command : Command
  pub spelled : Spells taken.raw command
  pub covered : covers command tag ≡ true

-- The entry was filled after at most as many commands as were taken, and no command taken since has covered
-- its tag.
pub record IsSettledEntry (taken : List Taken) (tag : Tag) (entry : Entry) : Type 0 where
  pub born : entry.born ≤ length taken
  pub uncovered : (place : ℕ) (t : Taken) → slice_get taken place ≡ Some t → entry.born ≤ place → ¬ HasCovered t tag

abbrev pub IsSettled : Entries → List Taken → Type 0
IsSettled entries taken = (tag : Tag) (entry : Entry) → finite.get entries tag ≡ Some entry → IsSettledEntry taken tag entry

-- An entry was put in: for each list of commands taken for which it is settled, the entries stay settled.
abbrev pub StaysSettledWith : Entry → Entries → Entries → Type 0
StaysSettledWith entry old new = (taken : List Taken) → IsSettledEntry taken entry.tag entry → IsSettled old taken → IsSettled new taken
