use Rattle.std.proofs.Common.{◌∙◌, ◌||◌, sym, ap, cond, None}
use Rattle.std.specs.FinMap as finite
use Rattle.caches.specs.OnePages.{is_block_at, is_shared_at}
use Rattle.caches.proofs.Viewed.{either_order}
use Rattle.caches.proofs.entry_map.EntryMap.remove_on.Goals as goal

pub returns-in-Some : goal.returns-in-Some
returns-in-Some c = λ t.
    let o = finite.get c.args.self.now t in
    let own = is_block_at c.args.one.own c.args.one.page t in
    c.remove_blocks-in-Some.ensures t ∙ ap (cond (is_block_at c.in-Some.shared c.args.one.page t) None) (c.remove_blocks.ensures t)
    ∙ sym (either_order own (is_block_at c.in-Some.shared c.args.one.page t) o)
    ∙ ap (λ s. cond (own || is_shared_at s c.args.one.page t) None o) (sym c.in-Some.is)
