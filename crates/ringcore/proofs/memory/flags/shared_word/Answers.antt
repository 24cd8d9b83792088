use Rattle.std.proofs.Common.{◌≡◌, ℕ, ◌-◌, ◌%◌, ap, ◌∙◌, arith}
use Rattle.qindex.specs.Positions.{size}
use Rattle.ringcore.specs.memory.Flags.{flag_bit}
use Rattle.ringcore.proofs.MemoryLemmas.FlagPlaces.{large_shares, shares_at}
use Rattle.ringcore.proofs.memory.flags.shared_word.Goals as goal

pub returns-else-size-le-FLAGS-clause-share : goal.returns-else-size-le-FLAGS-clause-share
returns-else-size-le-FLAGS-clause-share c =
    let g : ℕ = c.args.first.geometry in let n : ℕ = c.args.first.number in
    let many : c.size-size.result ≡ size g = c.size-size.ensures.value ∙ ap size c.geometry.ensures in
    let at : c.place.result % 64 ≡ flag_bit g n = ap (λ r. r % 64) c.place.ensures.value in
    large_shares g n (64 - c.place.result % 64) (omega (arith, many, c.if-size-le-FLAGS.false)) (omega (arith, at))

pub returns-else-size-le-FLAGS-clause-share_at_position : goal.returns-else-size-le-FLAGS-clause-share_at_position
returns-else-size-le-FLAGS-clause-share_at_position c =
    shares_at c.indexes_tell_place_and_wrap_bit.ensures.alike c.args.first (64 - c.place.result % 64) (returns-else-size-le-FLAGS-clause-share c)
