use Rattle.std.proofs.Common.{refl}
use Rattle.smmuq_c.proofs.Blocks.{no_block}
use Rattle.smmuq_c.proofs.tags.stage_1_of.Goals as goal

pub returns-in_err-page : goal.returns-in_err-page
returns-in_err-page c = no_block c.args.words.now 3 _ c.from_residual-in_err-page.ensures c.requires refl c.in_err-page.ensures
