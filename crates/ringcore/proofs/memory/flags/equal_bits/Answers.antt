use Rattle.std.proofs.Common.{◌≡◌, ℕ, ◌/◌, ◌^◌, Bool, sym, ap, subst, ◌∙◌, w64}
use Rattle.std.specs.Int.{trailing_ones}
use Rattle.qindex.specs.ControlWord.{bit as bit_of}
use Rattle.ringcore.proofs.MemoryLemmas.ReadyLemmas.{AreEqualBits, turned_to, equal_bits}
use Rattle.ringcore.proofs.memory.flags.equal_bits.Goals as goal
use Rattle.ringcore.proofs.memory.flags.equal_bits.Goals.{then-polarity, else-polarity}

pub returns : goal.returns
returns c =
    let word : ℕ = c.args.word in
    let same : c.if-polarity.same ≡ turned_to c.args.polarity word = elim c.if-polarity.branch [
      | then-polarity w ↦ w.same-is ∙ ap (λ (b : Bool). turned_to b word) (sym w.if-polarity.true)
      | else-polarity w ↦ w.same-is ∙ ap (λ (b : Bool). turned_to b word) (sym w.if-polarity.false)
    ] in
    let found : c.trailing_ones.result ≡ trailing_ones w64 (turned_to c.args.polarity word / 2 ^ c.args.first) =
    c.trailing_ones.ensures ∙ ap (λ n. trailing_ones w64 (n / 2 ^ c.args.first)) same in
    let is = subst (AreEqualBits word c.args.first (bit_of c.args.polarity)) (sym found) (equal_bits word c.args.first c.args.polarity c.ranges.word.fits c.requires) in
    record { within = is.within; equal = is.equal; stop = is.stop }
