use Rattle.std.proofs.Common.{◌∙◌, ap, refl}
use Rattle.std.specs.FinMap as finite
use Rattle.caches.specs.Keys.{tag_of}
use Rattle.caches.specs.Stored.{Stored}
use Rattle.caches.proofs.Viewed.{tag_back}
use Rattle.caches.proofs.Kept.{are_evicted}
use Rattle.caches.proofs.caches.Caches.evict.Goals as goal

pub invariant_of-self : goal.invariant_of-self
invariant_of-self c = are_evicted c.self.inside (record c.self.inside { held = c.remove.new.self }) c.args.tag.now refl c.self.invariant
    (c.remove.ensures ∙ ap (finite.remove c.self.inside.held) (ap tag_of c.of.ensures.key ∙ tag_back c.args.tag.now))

pub returns-clause-was : goal.returns-clause-was
returns-clause-was c = c.get-was.ensures.value ∙ ap (λ (s : Stored). finite.get s.entries c.args.tag.now) c.self.view_is

pub returns-clause-after : goal.returns-clause-after
returns-clause-after c = c.remove.ensures ∙ ap (finite.remove c.self.inside.held) (ap tag_of c.of.ensures.key ∙ tag_back c.args.tag.now)
    ∙ ap (λ (s : Stored). finite.remove s.entries c.args.tag.now) c.self.view_is

pub returns-clause-held : goal.returns-clause-held
returns-clause-held c = λ h e. returns-clause-after c ∙ ap (λ m. finite.remove m c.args.tag.now) e
