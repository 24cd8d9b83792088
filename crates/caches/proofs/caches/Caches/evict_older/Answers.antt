use Rattle.std.proofs.Common.{arith, ◌∙◌, sym, ap, subst, ◌≤◌, refl}
use Rattle.std.specs.FinMap as finite
use Rattle.caches.specs.Held.{Entries, holds_passing, is_older, without_older}
use Rattle.caches.specs.Stored.{Stored}
use Rattle.caches.proofs.Evictions.{evicted_are}
use Rattle.caches.proofs.Kept.{are_without, len_without}
use Rattle.caches.proofs.caches.Caches.evict_older.Goals as goal

shrinks : (c : goal.After-len) → finite.len c.remove_passing.new.self ≤ finite.len c.self.inside.held
shrinks c = subst (λ (m : Entries). finite.len m ≤ finite.len c.self.inside.held) (sym c.remove_passing.ensures) (len_without (holds_passing (is_older c.args.born) c.self.inside.held) c.self.inside.held)

pub invariant_of-self : goal.invariant_of-self
invariant_of-self c = are_without (holds_passing (is_older c.args.born) c.self.inside.held) c.self.inside (record c.self.inside { held = c.remove_passing.new.self }) refl c.self.invariant c.remove_passing.ensures

pub returns-clause-after : goal.returns-clause-after
returns-clause-after c = c.remove_passing.ensures ∙ ap (λ (s : Stored). without_older c.args.born s.entries) c.self.view_is

pub overflow_sub-result : goal.overflow_sub-result
overflow_sub-result c =
    let v = ap (λ (s : Stored). finite.len s.entries) c.self.view_is in
    omega (arith, shrinks c, v, c.len.ensures.len, c.len-all.ensures.len)

pub returns-clause-removed : goal.returns-clause-removed
returns-clause-removed c =
    let v = ap (λ (s : Stored). finite.len s.entries) c.self.view_is in
    omega (arith, shrinks c, v, c.len.ensures.len, c.len-all.ensures.len)

pub returns-clause-held : goal.returns-clause-held
returns-clause-held c = λ h e. returns-clause-after c ∙ evicted_are (holds_passing (is_older c.args.born) c.args.self.now.entries) c.args.self.now.entries h e

pub returns-clause-few : goal.returns-clause-few
returns-clause-few c = omega (arith, c.len-all.ensures.within, c.len-all.ensures.capacity, c.len-all.ensures.len, c.len.ensures.len)
