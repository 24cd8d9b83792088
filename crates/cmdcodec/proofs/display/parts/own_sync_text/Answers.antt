use Rattle.std.proofs.Common.{refl, arith}
use Rattle.std.proofs.lemmas.Fmt.{decimal_digit}
use Rattle.cmdcodec.proofs.display.parts.own_sync_text.Goals as goal

pub returns : goal.returns
returns c = rw (decimal_digit 1 (omega arith), decimal_digit 0 (omega arith)) refl
