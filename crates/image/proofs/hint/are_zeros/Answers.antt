use Rattle.std.proofs.Common.{◌≡◌, ◌<◌, ◌≤◌, Bool, false, get_or, length, refl, sym, ap, ◌∙◌, arith, true}
use Rattle.std.proofs.lemmas.Bool.{and_from}
use Rattle.std.proofs.lemmas.Bool.Decides.{nat_tests}
use Rattle.std.proofs.lemmas.List.{take_all}
use Rattle.std.proofs.lemmas.List.Folds.{list_all_at, list_all_more}
use Rattle.std.specs.List.{list_all}
use Rattle.image.specs.Hints.{is_zero}
use Rattle.image.proofs.hint.are_zeros.Goals as goal

pub bytes-init : goal.bytes-init
bytes-init c = refl

pub bytes-preserved : goal.bytes-preserved
bytes-preserved c =
    list_all_more is_zero c.args.image.now c.bytes.byte-index 0 (omega arith)
    ∙ and_from _ _ c.bytes.invariant (grind (arith, nat_tests))

pub returns : goal.returns
returns c =
    let all : length c.args.image.now ≤ c.bytes.byte-index = omega arith in
    sym (ap (list_all is_zero) (sym (take_all c.bytes.byte-index _ all)) ∙ c.bytes.invariant)
