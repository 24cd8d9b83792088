use Rattle.std.proofs.Common.{◌∙◌}
use Rattle.clap.specs.Words.{found_of}
use Rattle.clap.proofs.WalkLemmas.{one_text-rows}
use Rattle.command_line.proofs.image_arguments.flag_in.Goals as goal

pub returns : goal.returns
returns c = (
  λ is. c.get_flag.ensures.value (one_text-rows (found_of c.args.matches.now) c.args.name.now ∙ is),
  λ is. c.get_flag.ensures.other (one_text-rows (found_of c.args.matches.now) c.args.name.now ∙ is),
)
