use Rattle.std.proofs.Common.{◌≡◌, ℕ, ◌+◌, ◌-◌, ◌%◌, ◌≤◌, ap, subst, ◌∙◌, arith, bit_or}
use Rattle.std.proofs.lemmas.Nat.{or_lt}
use Rattle.qindex.specs.Positions.{size, place}
use Rattle.ringcore.specs.memory.Flags.{flag_bit}
use Rattle.ringcore.proofs.MemoryLemmas.FlagPlaces.{small_bit, mask_at}
use Rattle.ringcore.proofs.MemoryLemmas.MaskLemmas.{IsStretch, run_fits, one_flag_word, one_stretch, two_stretches}
use Rattle.ringcore.proofs.memory.flags.flip_mask.Goals as goal

pub stretch-requires-clause-within : goal.stretch-requires-clause-within
stretch-requires-clause-within c =
    let many : c.size.result ≡ size c.args.first.geometry = c.size.ensures.value ∙ ap size c.geometry.ensures in
    let bit : c.place-place.result % 64 ≡ flag_bit c.args.first.geometry c.args.first.number = ap (λ n. n % 64) c.place-place.ensures.value in
    let fits = run_fits c.args.first.geometry c.args.first.number c.args.count c.requires.word
    (omega (arith, many, c.place-place.ensures.value, c.place-place.ensures.in_range, c.if-count-to_end.true)) in
    omega (arith, bit, fits)

pub stretch-requires-else-count-to_end-clause-within :
    goal.stretch-requires-else-count-to_end-clause-within
stretch-requires-else-count-to_end-clause-within c =
    let many : c.size.result ≡ size c.args.first.geometry = c.size.ensures.value ∙ ap size c.geometry.ensures in
    let small = one_flag_word c.args.first.geometry c.args.first.number c.args.count c.requires.word
    (omega (arith, many, c.place-place.ensures.value, c.place-place.ensures.in_range, c.if-count-to_end.false)) in
    let bit : c.place-place.result % 64 ≡ flag_bit c.args.first.geometry c.args.first.number = ap (λ n. n % 64) c.place-place.ensures.value in
    let start = small_bit c.args.first.geometry c.args.first.number small in
    omega (arith, many, bit, start, small, c.place-place.ensures.value, c.place-place.ensures.in_range)

pub stretch-requires-else-count-to_end-2-clause-within :
    goal.stretch-requires-else-count-to_end-2-clause-within
stretch-requires-else-count-to_end-2-clause-within c =
    let many : c.size.result ≡ size c.args.first.geometry = c.size.ensures.value ∙ ap size c.geometry.ensures in
    let small = one_flag_word c.args.first.geometry c.args.first.number c.args.count c.requires.word
    (omega (arith, many, c.place-place.ensures.value, c.place-place.ensures.in_range, c.if-count-to_end.false)) in
    omega (arith, small, c.requires.within)

pub returns-then-count-to_end-clause-value : goal.returns-then-count-to_end-clause-value
returns-then-count-to_end-clause-value c =
    let many : c.size.result ≡ size c.args.first.geometry = c.size.ensures.value ∙ ap size c.geometry.ensures in
    let bit : c.place-place.result % 64 ≡ flag_bit c.args.first.geometry c.args.first.number = ap (λ n. n % 64) c.place-place.ensures.value in
    let inside : place c.args.first.geometry c.args.first.number + c.args.count ≤ size c.args.first.geometry =
    omega (arith, many, c.place-place.ensures.value, c.place-place.ensures.in_range, c.if-count-to_end.true) in
    let fits = run_fits c.args.first.geometry c.args.first.number c.args.count c.requires.word inside in
    one_stretch c.args.first.geometry c.args.first.number c.args.count c.stretch.result c.stretch.type_inv inside fits
    (subst (λ n. IsStretch c.stretch.result n c.args.count) bit c.stretch.ensures)

pub returns-then-count-to_end-clause-position : goal.returns-then-count-to_end-clause-position
returns-then-count-to_end-clause-position c =
    mask_at c.indexes_tell_place_and_wrap_bit.ensures.alike c.args.first c.args.count c.stretch.result (returns-then-count-to_end-clause-value c)

pub returns-else-count-to_end-clause-value : goal.returns-else-count-to_end-clause-value
returns-else-count-to_end-clause-value c =
    let many : c.size.result ≡ size c.args.first.geometry = c.size.ensures.value ∙ ap size c.geometry.ensures in
    let place_is = c.place-place.ensures.value in
    let below = c.place-place.ensures.in_range in
    let past = c.if-count-to_end.false in
    let bit : c.place-place.result % 64 ≡ flag_bit c.args.first.geometry c.args.first.number = ap (λ n. n % 64) c.place-place.ensures.value in
    let here : ℕ = c.size.result - c.place-place.result in
    let small = one_flag_word c.args.first.geometry c.args.first.number c.args.count c.requires.word (omega (arith, many, place_is, below, past)) in
    two_stretches c.args.first.geometry c.args.first.number c.args.count here
    c.stretch-else-count-to_end.result c.stretch-else-count-to_end-2.result
    small (omega (arith, many, place_is, below)) past c.requires.within
    (subst (λ n. IsStretch c.stretch-else-count-to_end.result n here) bit c.stretch-else-count-to_end.ensures)
    c.stretch-else-count-to_end-2.ensures
    (or_lt 64 c.stretch-else-count-to_end.result c.stretch-else-count-to_end-2.result c.stretch-else-count-to_end.type_inv c.stretch-else-count-to_end-2.type_inv)

pub returns-else-count-to_end-clause-position : goal.returns-else-count-to_end-clause-position
returns-else-count-to_end-clause-position c =
    mask_at c.indexes_tell_place_and_wrap_bit.ensures.alike c.args.first c.args.count (bit_or c.stretch-else-count-to_end.result c.stretch-else-count-to_end-2.result)
    (returns-else-count-to_end-clause-value c)
