use Rattle.std.proofs.Common.{◌≡◌, arith, ◌∙◌, sym, ap, subst, ◌≤◌, refl}
use Rattle.std.specs.FinMap as finite
use Rattle.caches.specs.Held.{Entries, without_passing}
use Rattle.caches.specs.Stored.{Stored}
use Rattle.caches.proofs.EntryTests.{by_own_tags}
use Rattle.caches.proofs.Evictions.{evicted_are}
use Rattle.caches.proofs.Kept.{are_without, len_without}
use Rattle.caches.proofs.caches.Caches.evict_all.Goals as goal

gone : (g : _) (c : goal.After-len g) → c.remove_passing.new.self ≡ without_passing (g.T.TagTest.passing c.args.test.now) c.self.inside.held
gone g c = c.remove_passing.ensures ∙ by_own_tags (g.T.TagTest.passing c.args.test.now) c.self.inside.held c.are_own.ensures

shrinks : (g : _) (c : goal.After-len g) → finite.len c.remove_passing.new.self ≤ finite.len c.self.inside.held
shrinks g c = subst (λ (m : Entries). finite.len m ≤ finite.len c.self.inside.held) (sym (gone g c)) (len_without (g.T.TagTest.passing c.args.test.now) c.self.inside.held)

pub invariant_of-self : goal.invariant_of-self
invariant_of-self g c = are_without (g.T.TagTest.passing c.args.test.now) c.self.inside (record c.self.inside { held = c.remove_passing.new.self }) refl c.self.invariant
    (c.remove_passing.ensures ∙ by_own_tags (g.T.TagTest.passing c.args.test.now) c.self.inside.held c.are_own.ensures)

pub returns-clause-after : goal.returns-clause-after
returns-clause-after g c = gone g c ∙ ap (λ (s : Stored). without_passing (g.T.TagTest.passing c.args.test.now) s.entries) c.self.view_is

pub overflow_sub-result : goal.overflow_sub-result
overflow_sub-result g c =
    let v = ap (λ (s : Stored). finite.len s.entries) c.self.view_is in
    omega (arith, shrinks g c, v, c.len.ensures.len, c.len-held.ensures.len)

pub returns-clause-removed : goal.returns-clause-removed
returns-clause-removed g c =
    let v = ap (λ (s : Stored). finite.len s.entries) c.self.view_is in
    omega (arith, shrinks g c, v, c.len.ensures.len, c.len-held.ensures.len)

pub returns-clause-held : goal.returns-clause-held
returns-clause-held g c = λ h e. returns-clause-after g c ∙ evicted_are (g.T.TagTest.passing c.args.test.now) c.args.self.now.entries h e

pub returns-clause-few : goal.returns-clause-few
returns-clause-few g c = omega (arith, c.len-held.ensures.within, c.len-held.ensures.capacity, c.len-held.ensures.len, c.len.ensures.len)
