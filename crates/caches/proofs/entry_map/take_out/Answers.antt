use Rattle.std.proofs.Common.{◌∙◌, sym, ap}
use Rattle.caches.specs.Unlisted.{unlisted}
use Rattle.caches.proofs.Pruned.{some_was}
use Rattle.caches.proofs.Viewed.{unlisted_taken}
use Rattle.caches.proofs.entry_map.take_out.Goals as goal

pub loop-rank-preserved : goal.loop-rank-preserved
loop-rank-preserved c =
    let m = c.loop-rank.map.ordered in
    record {
      same = unlisted_taken m c.remove.new.self.ordered c.pop.new.self.items c.in-Some.rank c.remove.ensures.updates ∙ ap (unlisted m) (sym c.in-Some.ensures.items) ∙ c.loop-rank.invariant.same;
      pruned = λ q e there. c.loop-rank.invariant.pruned q e (some_was _ _ e (sym (c.remove.ensures.updates.0 q) ∙ there));
    }
