use Rattle.std.proofs.Common.{◌≡◌, ◌≤◌, [], ◌∷◌, ◌++◌, length, arith, sym, ◌∙◌, length-append}
use Rattle.std.proofs.lemmas.List.{take-append-le, take_all}
use Rattle.std.proofs.lemmas.Bool.{eqb-true, eqb-false}
use Rattle.schedule.proofs.parsing.hand_in.Goals as goal

pub returns-then-is_full-clause-items : goal.returns-then-is_full-clause-items
returns-then-is_full-clause-items c =
    let items = c.args.body.now.items in
    let full : length items ≡ 64 = eqb-true (length items) 64 (sym c.is_full.ensures.value ∙ c.if-is_full.true) in
    sym (take-append-le 64 items (c.args.raw ∷ []) (omega (arith, full)) ∙ take_all 64 items (omega (arith, full)))

pub returns-clause-items : goal.returns-clause-items
returns-clause-items c =
    let items = c.args.body.now.items in
    let short : length (items ++ c.args.raw ∷ []) ≤ 64 =
    (let long = length-append items (c.args.raw ∷ []) in
    let other = eqb-false (length items) 64 (sym c.is_full.ensures.value ∙ c.if-is_full.false) in
    let fits = c.is_full.ensures.fits in
    omega (arith, long, other, fits)) in
    c.push.ensures.items ∙ sym (take_all 64 (items ++ c.args.raw ∷ []) short)
