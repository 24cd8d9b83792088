use Rattle.std.proofs.Common.{◌≡◌, ◌+◌, ◌-◌, ap, refl, sym, ◌∙◌, arith, Some}
use Rattle.std.specs.List.{find, range_with_len}
use Rattle.image.specs.Queues.{has_length, log2_of}
use Rattle.image.proofs.SizeLemmas.{first_found, first_later, none_left}
use Rattle.image.proofs.known.geometry_of.Goals as goal

pub sizes-init : goal.sizes-init
unfolding log2_of
sizes-init c = refl

pub returns-in-Some-clause-value : goal.returns-in-Some-clause-value
returns-in-Some-clause-value c =
    ap Some c.in-Some.ensures.some.0
    ∙ sym (c.sizes.invariant ∙ first_found (has_length c.args.bytes) c.sizes.log2 (20 - c.sizes.log2) (omega arith) c.in-Some.ensures.some.1)

pub sizes-preserved : goal.sizes-preserved
sizes-preserved c =
    let log2 = c.sizes.log2 in
    let fewer : 20 - log2 - 1 ≡ 20 - (log2 + 1) = omega arith in
    c.sizes.invariant ∙ first_later (has_length c.args.bytes) log2 (20 - log2) (omega arith) (c.of_length.ensures.none c.in_default.is)
    ∙ ap (λ n. find (has_length c.args.bytes) (range_with_len (log2 + 1) n)) fewer

pub returns-clause-value : goal.returns-clause-value
returns-clause-value c =
    let log2 = c.sizes.log2 in
    let none : 20 - log2 ≡ 0 = omega arith in
    sym (c.sizes.invariant ∙ ap (λ n. find (has_length c.args.bytes) (range_with_len log2 n)) none ∙ none_left (has_length c.args.bytes) log2)
