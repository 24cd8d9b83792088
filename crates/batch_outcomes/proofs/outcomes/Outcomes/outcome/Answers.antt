use Rattle.std.proofs.Common.{◌≡◌, ◌<◌, ◌≤◌, ℕ, length, sym, subst, arith, None, Some}
use Rattle.batch_outcomes.specs.Settled.{losses_of}
use Rattle.batch_outcomes.specs.Outcomes.{OutcomesValue, IsTold, IsLost, IsForgotten}
use Rattle.batch_outcomes.proofs.Remembering.{at_index, none_is_zero, none_beyond, forgotten, complete}
use Rattle.batch_outcomes.proofs.outcomes.Outcomes.outcome.Goals.{After-index-told, then-number-eq0-via-then-number-eq0, then-number-eq0-via-else-number-eq0+then-number-told}
use Rattle.batch_outcomes.proofs.outcomes.Outcomes.outcome.Goals as goal

is_told : (c : After-index-told) → IsTold c.args.sender c.index-told.result.now c.self.inside.settled
is_told c =
    let known : c.args.sender < length c.self.inside.told.items = subst (λ (v : OutcomesValue). c.args.sender < v.senders) (sym c.self.view_is) c.requires.known in
    c.self.invariant.each c.args.sender _ (at_index _ _ c.index-told.result.now known c.index-told.ensures)

some_of : (n : ℕ) → (n ≡ 0 → ⊥) → 1 ≤ n
some_of n not = grind arith

pub returns-then-number-eq0 : goal.returns-then-number-eq0
returns-then-number-eq0 c =
    subst (λ (v : OutcomesValue). losses_of c.args.sender c.args.number v.settled ≡ None) c.self.view_is
    (elim c.then-number-eq0.branch [
      | then-number-eq0-via-then-number-eq0 w ↦
          subst (λ (n : ℕ). losses_of c.args.sender n c.self.inside.settled ≡ None) (sym w.if-number-eq0.true) (none_is_zero c.args.sender c.self.inside.settled c.self.invariant.numbered)
      | then-number-eq0-via-else-number-eq0+then-number-told w ↦
          let told = is_told (goal.at.returns-then-number-eq0 c).After-index-told in
          let last = told.last in
          let high = w.if-number-told.true in
          none_beyond c.args.sender c.args.number c.self.inside.settled c.self.invariant.numbered (omega (arith, last, high))
    ])

pub returns-then-number-told-2 : goal.returns-then-number-told-2
returns-then-number-told-2 c =
    let told = is_told (goal.at.returns-then-number-told-2 c).After-index-told in
    let same = c.if-number-told-2.true in
    let some = some_of c.args.number c.if-number-eq0.false in
    subst (λ (v : OutcomesValue). IsLost c.args.sender c.args.number c.index-told.result.now.count v.settled) c.self.view_is
    (subst (λ (n : ℕ). IsLost c.args.sender n c.index-told.result.now.count c.self.inside.settled) (sym same) (told.its (omega (arith, some, same))))

pub returns-then-number-told-3 : goal.returns-then-number-told-3
returns-then-number-told-3 c =
    let told = is_told (goal.at.returns-then-number-told-3 c).After-index-told in
    subst (λ (v : OutcomesValue). IsForgotten c.args.sender c.args.number v.settled) c.self.view_is
    (forgotten c.args.sender c.args.number _ c.self.inside.settled c.self.invariant.numbered told (some_of _ c.if-number-eq0.false) c.if-number-told.false c.if-number-told-3.true)

pub returns : goal.returns
returns c =
    let told = is_told (goal.at.returns c).After-index-told in
    subst (λ (v : OutcomesValue). losses_of c.args.sender c.args.number v.settled ≡ Some 0) c.self.view_is
    (complete c.args.sender c.args.number _ c.self.inside.settled c.self.invariant.numbered told (some_of _ c.if-number-eq0.false) c.if-number-told.false c.if-number-told-2.false c.if-number-told-3.false)
