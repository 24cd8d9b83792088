use Rattle.std.proofs.Common.{◌≡◌, ℕ, ◌+◌, ◌-◌, ◌%◌, min, inl, inr, sym, ap, ap₂, subst, ◌∙◌, arith}
use Rattle.qindex.specs.Positions.{size, place}
use Rattle.ringcore.specs.memory.Flags.{flag_bit, polarity}
use Rattle.ringcore.proofs.MemoryLemmas.FlagPlaces.{run_at}
use Rattle.ringcore.proofs.MemoryLemmas.ReadyRuns.{found_at, fits_ring}
use Rattle.ringcore.proofs.MemoryLemmas.ReadyLemmas.{AreEqualBits, bit_of_polarity, bit_of_other, in_one_lap, in_two_laps}
use Rattle.ringcore.proofs.memory.flags.ready_run.Goals as goal
use Rattle.ringcore.proofs.memory.flags.ready_run.Goals.{else-size-le-FLAGS-via-then-size-le-FLAGS+else-here-to_end, else-size-le-FLAGS-via-else-size-le-FLAGS}

pub returns-then-here-to_end-clause-value : goal.returns-then-here-to_end-clause-value
returns-then-here-to_end-clause-value c =
    let g : ℕ = c.args.head.geometry in
    let n : ℕ = c.args.head.number in
    let to_end : c.size-size.result - c.place-place.result ≡ size g - place g n =
    ap₂ (λ x y. x - y) (c.size-size.ensures.value ∙ ap size c.geometry.ensures) c.place-place.ensures.value in
    let bit : c.place-place.result % 64 ≡ flag_bit g n = ap (λ x. x % 64) c.place-place.ensures.value in
    let found = c.equal_bits.ensures in
    let next = c.equal_bits-then-here-to_end.ensures in
    let bits = subst (λ x. AreEqualBits c.args.word x (polarity g n) c.equal_bits.result) bit
    (subst (λ x. AreEqualBits c.args.word (c.place-place.result % 64) x c.equal_bits.result) (bit_of_polarity g n c.polarity-polarity.result c.polarity-polarity.ensures.value)
    record { within = found.within; equal = found.equal; stop = found.stop }) in
    let others = subst (λ x. AreEqualBits c.args.word 0 x c.equal_bits-then-here-to_end.result) (bit_of_other g n c.polarity-polarity.result c.polarity-polarity.ensures.value)
    record { within = next.within; equal = next.equal; stop = next.stop } in
    in_two_laps g n c.args.word c.args.limit c.equal_bits.result c.equal_bits-then-here-to_end.result c.min-here.result c.min-then-here-to_end.result
    bits others
    (omega (arith, c.if-size-le-FLAGS.true, c.size-size.ensures.value ∙ ap size c.geometry.ensures))
    (c.min-here.ensures ∙ ap (λ x. min x c.args.limit) (c.min.ensures ∙ ap (min c.equal_bits.result) to_end))
    (c.if-here-to_end.true ∙ to_end)
    c.min-then-here-to_end.ensures

pub returns-then-here-to_end-clause-position : goal.returns-then-here-to_end-clause-position
returns-then-here-to_end-clause-position c =
    run_at c.indexes_tell_place_and_wrap_bit.ensures.alike c.args.head c.args.word c.args.limit (c.min-here.result + c.min-then-here-to_end.result)
    (returns-then-here-to_end-clause-value c)

pub returns-else-size-le-FLAGS-clause-value : goal.returns-else-size-le-FLAGS-clause-value
returns-else-size-le-FLAGS-clause-value c =
    let g : ℕ = c.args.head.geometry in
    let n : ℕ = c.args.head.number in
    let many : c.size-size.result ≡ size g = c.size-size.ensures.value ∙ ap size c.geometry.ensures in
    let to_end : c.size-size.result - c.place-place.result ≡ size g - place g n = ap₂ (λ x y. x - y) many c.place-place.ensures.value in
    let bit : c.place-place.result % 64 ≡ flag_bit g n = ap (λ x. x % 64) c.place-place.ensures.value in
    let found = c.equal_bits.ensures in
    let bits = subst (λ x. AreEqualBits c.args.word x (polarity g n) c.equal_bits.result) bit
    (subst (λ x. AreEqualBits c.args.word (c.place-place.result % 64) x c.equal_bits.result) (bit_of_polarity g n c.polarity-polarity.result c.polarity-polarity.ensures.value)
    record { within = found.within; equal = found.equal; stop = found.stop }) in
    in_one_lap g n c.args.word c.args.limit c.equal_bits.result c.min-here.result bits
    (c.min-here.ensures ∙ ap (λ x. min x c.args.limit) (c.min.ensures ∙ ap (min c.equal_bits.result) to_end))
    (elim c.else-size-le-FLAGS.branch [
      | else-size-le-FLAGS-via-then-size-le-FLAGS+else-here-to_end w ↦ inr (λ e. w.if-here-to_end.false (e ∙ sym to_end))
      | else-size-le-FLAGS-via-else-size-le-FLAGS w ↦ inl (omega (arith, many, w.if-size-le-FLAGS.false))
    ])

pub returns-else-size-le-FLAGS-clause-position : goal.returns-else-size-le-FLAGS-clause-position
returns-else-size-le-FLAGS-clause-position c =
    run_at c.indexes_tell_place_and_wrap_bit.ensures.alike c.args.head c.args.word c.args.limit c.min-here.result
    (returns-else-size-le-FLAGS-clause-value c)

pub returns-then-here-to_end-clause-found : goal.returns-then-here-to_end-clause-found
returns-then-here-to_end-clause-found c = λ g p is. found_at g p c.args.word c.args.limit _ (returns-then-here-to_end-clause-position c g p is)

pub returns-then-here-to_end-clause-within : goal.returns-then-here-to_end-clause-within
returns-then-here-to_end-clause-within c = fits_ring c.indexes_tell_place_and_wrap_bit.ensures.turns _ _ _ _ _ (returns-then-here-to_end-clause-value c)

pub returns-else-size-le-FLAGS-clause-found : goal.returns-else-size-le-FLAGS-clause-found
returns-else-size-le-FLAGS-clause-found c = λ g p is. found_at g p c.args.word c.args.limit _ (returns-else-size-le-FLAGS-clause-position c g p is)

pub returns-else-size-le-FLAGS-clause-within : goal.returns-else-size-le-FLAGS-clause-within
returns-else-size-le-FLAGS-clause-within c = fits_ring c.indexes_tell_place_and_wrap_bit.ensures.turns _ _ _ _ _ (returns-else-size-le-FLAGS-clause-value c)
