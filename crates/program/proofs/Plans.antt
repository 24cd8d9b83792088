-- What is asked for as a stress run is a plan.
use Rattle.std.proofs.Common.{List}
use Rattle.command_line.specs.CommandLine.{AskFor, Text}
use Rattle.command_line.specs.declared.subcommand.Subcommand.{Subcommand}
use Rattle.command_line.specs.declared.subcommand.Subcommand.TheVariants.{Replay, Schedule, Decode, Stress, Words, Image, Encode, Trace, Range, Convert}
use Rattle.program.specs.Stressing.{HasPlan}

pub has_plan : (words : List Text) (subcommand : Subcommand) → AskFor words subcommand → HasPlan subcommand
has_plan words Replay asked = tt
has_plan words Schedule asked = tt
has_plan words (Decode word) asked = tt
has_plan words (Words form) asked = tt
has_plan words (Image arguments) asked = tt
has_plan words Encode asked = tt
has_plan words Trace asked = tt
has_plan words (Range arguments) asked = tt
has_plan words (Convert arguments) asked = tt
has_plan words (Stress numbers) asked =
    let are = asked.3.1 in
    record {
      some_slots = are.log2.4;
      few_slots = are.log2.5;
      some_sender = are.senders.4;
      few_senders = are.senders.5;
      some_batch = are.batches.4;
      few_batches = are.batches.5;
      some_turn = are.turns.4;
      few_turns = are.turns.5;
      few_bare = are.bare.5;
    }
