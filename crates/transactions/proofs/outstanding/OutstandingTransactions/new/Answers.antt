use Rattle.std.proofs.Common.{◌≡◌, ◌-◌, ℕ, zero, suc, [], ◌++◌, None, Option, length, take, refl, sym, subst, ap, ◌∙◌, arith}
use Rattle.std.specs.Prelude.{replicate}
use Rattle.transactions.specs.declared.outstanding.OutstandingTransaction.{OutstandingTransaction}
use Rattle.transactions.specs.Outstanding.{Slots}
use Rattle.transactions.specs.FreeSlots.{AreOutstanding, AreOwnPlaces}
use Rattle.transactions.proofs.FreeSlots.{all_kept}
use Rattle.transactions.proofs.outstanding.OutstandingTransactions.new.Goals as goal

take_none : (n : ℕ) → take {A = Option OutstandingTransaction} n [] ≡ []
take_none zero = refl
take_none (suc n) = refl

no_fewer : (n len m : ℕ) → len ≡ 0 → n ≡ m → n - len ≡ m
no_fewer n len m none is = omega (arith, none, is)

from_none : (n m : ℕ) (old : Slots) (len : ℕ) → old ≡ [] → len ≡ 0 → n ≡ m → take n old ++ replicate (n - len) None ≡ replicate m None
from_none n m old len none len_is is =
    ap (λ (l : Slots). take n l ++ replicate (n - len) None) none
    ∙ ap (λ (l : Slots). l ++ replicate (n - len) None) (take_none n)
    ∙ ap (λ (many : ℕ). replicate {A = Option OutstandingTransaction} many None) (no_fewer n len m len_is is)

pub invariant_of-result : goal.invariant_of-result
invariant_of-result c =
    let items = c.in_ok-resize.ensures.items in
    let many : length c.in_ok-free.free.items ≡ c.args.room = c.in_ok-free.ensures.many ∙ c.from-2.ensures in
    let own : AreOwnPlaces c.args.room c.in_ok-free.free.items = subst (λ n. AreOwnPlaces n c.in_ok-free.free.items) c.from-2.ensures c.in_ok-free.ensures.numbers in
    subst (λ (s : Slots). AreOutstanding s c.in_ok-free.free.items 0 0)
    (sym (items ∙ from_none c.from.result c.args.room c.new-slots.result.items _ c.new-slots.ensures.items c.new-slots.ensures.len c.from.ensures))
    (all_kept c.args.room c.in_ok-free.free.items c.ranges.room.fits many own)
