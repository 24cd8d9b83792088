use Rattle.std.proofs.Common.{◌∙◌, ap}
use Rattle.std.specs.FinMap as finite
use Rattle.caches.specs.Stored.{Stored}
use Rattle.caches.proofs.caches.Caches.lookup.Goals as goal

pub returns-clause-value : goal.returns-clause-value
returns-clause-value c = c.get.ensures.value ∙ ap (λ (s : Stored). finite.get s.entries c.args.tag.now) c.self.view_is
