-- Which commands are invalidations, which words cover a tag, and what a command concerns.
use Rattle.std.specs.Prelude.{◌≡◌, Bool, true, false, not, ◌&&◌, ◌||◌}
use Rattle.cmdcodec.specs.declared.raw.Raw.{Raw}
use Rattle.cmdcodec.specs.declared.command.Command.{Command}
use Rattle.cmdcodec.specs.declared.command.Command.TheVariants.{Kept, CmdSync}
use Rattle.cmdcodec.specs.Opcodes.{opcode_of, is_sync, is_kept}
use Rattle.cmdcodec.specs.Spelling.{Spells}
use Rattle.ringcore.specs.world.World.{Taken}
use Rattle.engine.specs.Counting.{is_applied}
use Rattle.caches.specs.declared.tag.Tag.{Tag}
use Rattle.caches.specs.Covers.{covers}
use Rattle.ringcore.specs.declared.world.event.Outcome.TheVariants.{Applied}
use Rattle.transactions.specs.declared.used.Used.{Used}
use Rattle.transactions.specs.declared.used.Used.TheVariants.{Entry, Tables}

-- all but CMD_SYNC and the commands that are kept as they are, which cover nothing
abbrev pub is_invalidation : Command → Bool
is_invalidation (Kept words) = false
is_invalidation (CmdSync cs msh attr «data» address) = false
is_invalidation other = true

-- the same of legal words, by their opcode
abbrev pub invalidates : Raw → Bool
invalidates raw = not (is_sync raw || is_kept (opcode_of raw))

-- the same of a command that was taken; one that was replaced covers nothing
abbrev pub was_invalidation : Taken → Bool
was_invalidation t = is_applied t.outcome && invalidates t.raw

-- The words spell a command that covers the tag.
pub record WordsCover (raw : Raw) (tag : Tag) : Type 0 where
  pub command : Command
  pub spelled : Spells raw command
  pub covered : covers command tag ≡ true

-- A command concerns an entry if it covers its tag, and tables that a walk reads if it is an
-- invalidation.
abbrev pub concerns : Command → Used → Bool
concerns command (Entry tag) = covers command tag
concerns command Tables = is_invalidation command

-- The command was applied, and its words spell one that concerns what is used.
pub record HasConcerned (taken : Taken) (used : Used) : Type 0 where
  pub applied : taken.outcome ≡ Applied
  pub command : Command
  pub spelled : Spells taken.raw command
  pub concerned : concerns command used ≡ true
