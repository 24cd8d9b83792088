-- What the commands of an invalidation are written by, as the command line gives it, and what is told of them.
use Rattle.std.specs.Prelude.{◌≡◌, ℕ, Bool, true, false, not}
use Rattle.command_line.specs.declared.range_arguments.RangeArguments.{RangeArguments}
use Rattle.ranges.specs.declared.asked.Asked.{Asked}
use Rattle.ranges.specs.declared.asked.Regime.{Regime}
use Rattle.ranges.specs.declared.asked.Regime.TheVariants.{Stage1, Hypervisor, Stage2}
use Rattle.ranges.specs.Answers.{range_text}
use Rattle.script.specs.Writing.{no_memory_line}
use Rattle.script.specs.declared.status.Status.{Status}
use Rattle.script.specs.declared.status.Status.TheVariants.{Good, Refused, NoMemory, ReadFailed, WriteFailed, Endless}
use Rattle.script.specs.Statuses.{exit_status}
use Rattle.program.specs.Watching.{HasFailed, Seen, Tells}

abbrev pub regime_of : (el2 stage2 : Bool) → Regime
regime_of true stage2 = Hypervisor
regime_of false true = Stage2
regime_of false false = Stage1

abbrev pub range_asked_of : RangeArguments → Asked
range_asked_of arguments = record {
  regime = regime_of arguments.el2 arguments.stage2;
  vmid = arguments.vmid;
  asid = arguments.asid;
  address = arguments.address;
  length = arguments.length;
  granule = arguments.granule;
  leaf = arguments.leaf;
  level = arguments.level;
  range_invalidation = not arguments.no_ril;
  most_commands = arguments.limit;
}

-- What the status says: the lines of the commands were told, or the one of a fault; or memory ran out; or a call of the
-- writer failed. It reads nothing.
abbrev pub WritesRange : Status → Asked → Seen → Seen → Type 0
WritesRange Good asked before after = ((range_text asked).1 ≡ true) × Tells before after (range_text asked).0
WritesRange Refused asked before after = ((range_text asked).1 ≡ false) × Tells before after (range_text asked).0
WritesRange NoMemory asked before after = Tells before after no_memory_line
WritesRange WriteFailed asked before after = HasFailed after
WritesRange ReadFailed asked before after = ⊥
WritesRange Endless asked before after = ⊥

-- It ended with the exit status of that.
abbrev pub ExitsAsRange : ℕ → Asked → Seen → Seen → Type 0
ExitsAsRange exit asked before after = (status : Status) × (exit ≡ exit_status status) × WritesRange status asked before after
