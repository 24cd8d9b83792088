use Rattle.std.proofs.Common.{◌≡◌, ◌==◌, ℕ, Bool, true, false, Some, None, ◌+◌, ◌-◌, ◌%◌, ◌<◌, ◌≤◌, ap, sym, ◌∙◌, eq-eqb, ne_eqb, arith}
use Rattle.qindex.specs.Positions.{size, place}
use Rattle.ringcore.specs.machine.Open.{first_below}
use Rattle.ringcore.proofs.MachineLemmas.SomeAndAllBelow.{first_is, first_not}
use Rattle.ringcore.proofs.MachineLemmas.SlotsAhead.{ahead, here, nearer}
use Rattle.ringcore.proofs.machine.slot_offset.offset_of_slot.Goals as goal

module _ (g start slot : ℕ) (there : slot < size g) where
  abbrev is_slot : ℕ → Bool
  is_slot k = place g (start + k) == slot

  before : (k : ℕ) → k < ahead g start slot there → is_slot k ≡ false
  before k low = ne_eqb (place g (start + k)) slot (nearer g start slot there k low)

  at : is_slot (ahead g start slot there) ≡ true
  at = eq-eqb (place g (start + ahead g start slot there)) slot (here g start slot there)

  found : (n many : ℕ) → n ≡ ahead g start slot there → n < many → Some n ≡ first_below many is_slot
  found n many is low = ap Some is ∙ sym (first_is is_slot (ahead g start slot there) before at many (omega (arith, low, is)))

  missed : (n many : ℕ) → n ≡ ahead g start slot there → many ≤ n → None ≡ first_below many is_slot
  missed n many is high = sym (first_not is_slot (ahead g start slot there) before many (omega (arith, high, is)))

pub returns-then-ahead-from-clause-inside : goal.returns-then-ahead-from-clause-inside
returns-then-ahead-from-clause-inside c = omega (arith, c.if-ahead-from.true, c.from-2.ensures)

pub returns-then-ahead-from-clause-value : goal.returns-then-ahead-from-clause-value
returns-then-ahead-from-clause-value c =
    let size_is : c.from-size.result ≡ size c.args.geometry = c.from-size.ensures ∙ c.size.ensures.value in
    let slot_is : c.from.result ≡ c.args.slot = c.from.ensures in
    let n : ℕ = (c.from.result + c.from-size.result - c.args.position % c.from-size.result) % c.from-size.result in
    let is : n ≡ ahead c.args.geometry c.args.position c.args.slot c.requires = cc (size_is, slot_is) in
    found c.args.geometry c.args.position c.args.slot c.requires n c.args.many is (omega (arith, c.if-ahead-from.true, c.from-2.ensures))

pub returns-else-ahead-from-clause-value : goal.returns-else-ahead-from-clause-value
returns-else-ahead-from-clause-value c =
    let size_is : c.from-size.result ≡ size c.args.geometry = c.from-size.ensures ∙ c.size.ensures.value in
    let slot_is : c.from.result ≡ c.args.slot = c.from.ensures in
    let n : ℕ = (c.from.result + c.from-size.result - c.args.position % c.from-size.result) % c.from-size.result in
    let is : n ≡ ahead c.args.geometry c.args.position c.args.slot c.requires = cc (size_is, slot_is) in
    missed c.args.geometry c.args.position c.args.slot c.requires n c.args.many is (omega (arith, c.if-ahead-from.false, c.from-2.ensures))
