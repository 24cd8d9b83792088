use Rattle.cmdcodec.proofs.PageRunLemmas.{whole_granules}
use Rattle.cmdcodec.proofs.laws.runs_are_of_whole_granules.Goals as goal

pub returns : goal.returns
returns c = whole_granules
