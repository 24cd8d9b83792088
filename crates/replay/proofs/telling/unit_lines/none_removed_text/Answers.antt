use Rattle.std.proofs.Common.{refl, arith}
use Rattle.std.proofs.lemmas.Fmt.{decimal_digit}
use Rattle.replay.proofs.telling.unit_lines.none_removed_text.Goals as goal

pub returns : goal.returns
returns c = rw (decimal_digit 0 (omega arith)) refl
