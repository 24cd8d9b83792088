use Rattle.ringcore.proofs.MemoryLemmas.MaskLemmas.{is_stretch}
use Rattle.ringcore.proofs.memory.flags.stretch.Goals as goal

pub returns : goal.returns
returns c = is_stretch c.args.first c.args.count c.requires.within
