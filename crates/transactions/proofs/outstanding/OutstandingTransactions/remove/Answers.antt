use Rattle.std.proofs.Common.{◌≡◌, ◌≤◌, ◌<◌, ◌+◌, ◌-◌, ℕ, Bool, true, false, cond, Some, sym, subst, arith}
use Rattle.std.specs.Prelude.{slice_get}
use Rattle.transactions.specs.Outstanding.{Slots}
use Rattle.transactions.proofs.FreeSlots.{some_outstanding, some_covered, kept_ended}
use Rattle.transactions.proofs.outstanding.OutstandingTransactions.remove.Goals as goal

some : (n : ℕ) → 0 < n → 1 ≤ n
some n is = omega (arith, is)

one_fewer : (n : ℕ) → 0 < n → n - 1 + 1 ≡ n
one_fewer n is = omega (arith, is)

less_one : (n : ℕ) (b : Bool) → b ≡ true → 0 < n → n - 1 + cond b 1 0 ≡ n
less_one n true so is = omega (arith, is)
less_one n false so is = absurd (cc)

less_none : (n : ℕ) (b : Bool) → b ≡ false → n + cond b 1 0 ≡ n
less_none n true nay = absurd (cc)
less_none n false nay = omega arith

pub overflow_sub-self : goal.overflow_sub-self
overflow_sub-self c =
    let at = subst (λ (s : Slots). slice_get s c.args.slot ≡ Some (Some c.args.transaction)) (sym c.self.view_is) c.requires.outstanding in
    some _ (some_outstanding _ _ _ _ c.self.invariant c.args.slot c.args.transaction at)

pub overflow_sub-self-then-transaction : goal.overflow_sub-self-then-transaction
overflow_sub-self-then-transaction c =
    let at = subst (λ (s : Slots). slice_get s c.args.slot ≡ Some (Some c.args.transaction)) (sym c.self.view_is) c.requires.outstanding in
    some _ (some_covered _ _ _ _ c.self.invariant c.args.slot c.args.transaction at c.if-transaction.true)

pub invariant_of-self : goal.invariant_of-self
invariant_of-self c =
    let at = subst (λ (s : Slots). slice_get s c.args.slot ≡ Some (Some c.args.transaction)) (sym c.self.view_is) c.requires.outstanding in
    let count = some_outstanding _ _ _ _ c.self.invariant c.args.slot c.args.transaction at in
    let covered = some_covered _ _ _ _ c.self.invariant c.args.slot c.args.transaction at c.if-transaction.true in
    kept_ended _ _ _ _ c.self.invariant c.args.slot c.args.transaction (c.self.inside.count - 1) (c.self.inside.covered - 1) at (one_fewer _ count) (less_one _ _ c.if-transaction.true covered)

pub invariant_of-self-else-transaction : goal.invariant_of-self-else-transaction
invariant_of-self-else-transaction c =
    let at = subst (λ (s : Slots). slice_get s c.args.slot ≡ Some (Some c.args.transaction)) (sym c.self.view_is) c.requires.outstanding in
    let count = some_outstanding _ _ _ _ c.self.invariant c.args.slot c.args.transaction at in
    kept_ended _ _ _ _ c.self.invariant c.args.slot c.args.transaction (c.self.inside.count - 1) c.self.inside.covered at (one_fewer _ count) (less_none _ _ c.if-transaction.false)
