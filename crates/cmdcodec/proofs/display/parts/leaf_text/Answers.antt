use Rattle.std.proofs.Common.{refl, arith}
use Rattle.std.proofs.lemmas.Fmt.{decimal_digit}
use Rattle.cmdcodec.proofs.display.parts.leaf_text.Goals as goal

pub returns-then-leaf : goal.returns-then-leaf
returns-then-leaf c = rw (c.if-leaf.true, decimal_digit 1 (omega arith)) refl

pub returns-else-leaf : goal.returns-else-leaf
returns-else-leaf c = rw (c.if-leaf.false, decimal_digit 0 (omega arith)) refl
