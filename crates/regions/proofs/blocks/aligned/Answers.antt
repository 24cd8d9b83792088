use Rattle.regions.proofs.BlockLemmas.{block_fits}
use Rattle.regions.proofs.blocks.aligned.Goals as goal

pub returns-clause-within : goal.returns-clause-within
returns-clause-within c = rw c.size_of-size.ensures (block_fits c.args.number c.args.power 52 c.requires.power c.requires.number)
