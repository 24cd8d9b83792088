use Rattle.std.proofs.Common.{rules, Some, ap₂, ◌∙◌, arith}
use Rattle.std.specs.Prelude.{◌^◌, not, nat_eq, bit_and}
use Rattle.qindex.specs.Indexes.{distance}
use Rattle.qindex.proofs.WordLemmas.{found, undoes, packs_again}
use Rattle.qindex.proofs.control.Control.unpack.Goals as goal

pub returns-in_err-cons-clause-found : goal.returns-in_err-cons-clause-found
returns-in_err-cons-clause-found c = search rules

pub returns-in_err-cons-clause-undoes_pack : goal.returns-in_err-cons-clause-undoes_pack
returns-in_err-cons-clause-undoes_pack c = undoes c.args.geometry c.args.word _ (returns-in_err-cons-clause-found c)

pub returns-clause-found : goal.returns-clause-found
returns-clause-found c =
    let prod = c.in_ok-prod.ensures in
    let cons = c.in_ok-cons.ensures in
    let near = c.if-distance-size.false in
    let apart = c.distance.ensures.value ∙ ap₂ distance prod.1 cons.1 in
    let size = c.size.ensures.value in
    let is = found c.args.geometry c.args.word c.size.ensures.geometry prod.0 cons.0 (omega (arith, near, apart, size)) in
    (is.0, (λ k. record { prod = prod.1 k; cons = cons.1 k; closed = not (nat_eq (bit_and c.args.word (2 ^ 31)) 0) }) ∙ is.1)

pub returns-clause-undoes_pack : goal.returns-clause-undoes_pack
returns-clause-undoes_pack c = undoes c.args.geometry c.args.word _ (returns-clause-found c)

pub returns-clause-packed_again : goal.returns-clause-packed_again
returns-clause-packed_again c = packs_again c.args.geometry c.args.word c.size.ensures.geometry c.ranges.word.fits (Some record { prod = c.in_ok-prod.prod; cons = c.in_ok-cons.cons; closed = _ }) (returns-clause-found c)
