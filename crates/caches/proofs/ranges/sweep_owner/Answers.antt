use Rattle.std.proofs.Common.{rules, arith, ◌^◌, ◌<◌, subst}
use Rattle.std.specs.declared.ops.Bound.TheVariants.{Included, Excluded}
use Rattle.caches.specs.Keys.{covers_key, least}
use Rattle.caches.proofs.KeyOrder.{key_cmp, in_pages}
use Rattle.caches.proofs.Pruned.{without_from_kept, page_back}
use Rattle.caches.proofs.ranges.sweep_owner.Goals as goal

pub returns : goal.returns
returns c = record {
  after = without_from_kept key_cmp (covers_key c.args.command.now) (Included (least c.args.owner 0 0)) (Excluded (least c.args.owner (2 ^ 52) 0)) c.args.map.now.ordered c.remove_covered.new.map.ordered (search rules) (λ q e covered is.
      in_pages c.args.owner 0 (2 ^ 52) q (c.requires.reach q covered) (omega arith) (subst (λ page. page < 2 ^ 52) (page_back q) (c.requires.keeping q e is).in_space));
}
