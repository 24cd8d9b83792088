use Rattle.std.proofs.Common.{ap, arith}
use Rattle.std.specs.FinMap as finite
use Rattle.caches.specs.Covers.{covers}
use Rattle.caches.specs.Held.{Entries}
use Rattle.caches.proofs.Viewed.{without_none}
use Rattle.caches.proofs.entry_map.EntryMap.remove_covered.Goals as goal

pub returns-else-self-gt0 : goal.returns-else-self-gt0
returns-else-self-gt0 c =
    let same = ap (λ (m : Entries). finite.len m) c.self.view_is in
    without_none (covers c.args.command.now) c.args.self.now (omega (arith, same, c.self.invariant.counted, c.if-self-gt0.false))
