use Rattle.caches.specs.Held.{Entries}
use Rattle.caches.specs.OnePages.{is_on}
use Rattle.caches.specs.OneStreams.{is_in, HaveNoSubstreams}
use Rattle.std.proofs.Common.{subst, ap, ◌∙◌}
use Rattle.std.specs.FinMap as finite
use Rattle.caches.proofs.EntryMaps.{held_kept}
use Rattle.caches.proofs.OnePages.{without_passing}
use Rattle.caches.proofs.entry_map.EntryMap.remove_from_filled.Goals as goal

pub returns-in-Some : goal.returns-in-Some
returns-in-Some c = without_passing c.args.command.now (is_on c.in-Some.one) c.args.self.now c.remove_on.new.self (λ t e is. c.in-Some.ensures.covered t
    (held_kept c.self.inside.map.ordered c.self.inside.removed.items c.self.invariant.keeping t e (ap (λ (x : Entries). finite.get x t) c.self.view_is ∙ is)).well_formed) c.remove_on.ensures

pub returns-in-Some-of : goal.returns-in-Some-of
returns-in-Some-of c = without_passing c.args.command.now (is_in c.in-Some-of.one) c.args.self.now c.remove_in.new.self
    (λ t e is. c.in-Some-of.ensures.covered t (λ none. subst HaveNoSubstreams c.self.view_is (c.self.invariant.main none) t e is)) c.remove_in.ensures
