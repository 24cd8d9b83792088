use Rattle.std.proofs.Common.{arith, ◌∙◌, sym, ap, subst, ◌≤◌, refl}
use Rattle.std.specs.FinMap as finite
use Rattle.caches.specs.Covers.{covers}
use Rattle.caches.specs.Held.{Entries, without_covered}
use Rattle.caches.specs.Stored.{Stored}
use Rattle.caches.proofs.Kept.{are_without, len_without}
use Rattle.caches.proofs.caches.Caches.apply.Goals as goal

pub invariant_of-self : goal.invariant_of-self
invariant_of-self c = are_without (covers c.args.command.now) c.self.inside (record c.self.inside { held = c.remove_covered.new.self }) refl c.self.invariant c.remove_covered.ensures

pub returns-clause-after : goal.returns-clause-after
returns-clause-after c = c.remove_covered.ensures ∙ ap (λ (s : Stored). without_covered c.args.command.now s.entries) c.self.view_is

pub overflow_sub-result : goal.overflow_sub-result
overflow_sub-result c =
    let shrinks = subst (λ (m : Entries). finite.len m ≤ finite.len c.self.inside.held) (sym c.remove_covered.ensures) (len_without (covers c.args.command.now) c.self.inside.held) in
    let v = ap (λ (s : Stored). finite.len s.entries) c.self.view_is in
    omega (arith, shrinks, v, c.len.ensures.len, c.len-before.ensures.len)

pub returns-clause-removed : goal.returns-clause-removed
returns-clause-removed c =
    let shrinks = subst (λ (m : Entries). finite.len m ≤ finite.len c.self.inside.held) (sym c.remove_covered.ensures) (len_without (covers c.args.command.now) c.self.inside.held) in
    let v = ap (λ (s : Stored). finite.len s.entries) c.self.view_is in
    omega (arith, shrinks, v, c.len.ensures.len, c.len-before.ensures.len)

pub returns-clause-held : goal.returns-clause-held
returns-clause-held c = λ h e. returns-clause-after c ∙ ap (without_covered c.args.command.now) e

pub returns-clause-few : goal.returns-clause-few
returns-clause-few c = omega (arith, c.len-before.ensures.within, c.len-before.ensures.capacity, c.len-before.ensures.len, c.len.ensures.len)
