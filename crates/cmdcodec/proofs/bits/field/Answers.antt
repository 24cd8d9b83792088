use Rattle.cmdcodec.proofs.FieldLemmas.{masked, field-lt}
use Rattle.cmdcodec.proofs.bits.field.Goals as goal

pub returns-clause-value : goal.returns-clause-value
returns-clause-value c = masked c.args.word c.args.high c.args.low c.requires.order c.requires.width

pub returns-clause-in_range : goal.returns-clause-in_range
returns-clause-in_range c = rw (masked c.args.word c.args.high c.args.low c.requires.order c.requires.width) (field-lt c.args.word c.args.high c.args.low)
