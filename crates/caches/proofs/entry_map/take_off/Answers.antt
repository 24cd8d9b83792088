use Rattle.std.proofs.Common.{◌∙◌, not, rules, ap}
use Rattle.std.specs.Ordering.{eq_by_cmp}
use Rattle.arrayvec.proofs.ArrayVecLemmas.{filter-from_retain}
use Rattle.caches.specs.Unlisted.{is_listed}
use Rattle.caches.proofs.KeyOrder.{key_cmp}
use Rattle.caches.proofs.Viewed.{listed_without}
use Rattle.caches.proofs.entry_map.take_off.Goals as goal

pub returns-then-was-clause-rest : goal.returns-then-was-clause-rest
returns-then-was-clause-rest c = λ t.
    let left = filter-from_retain _ (λ x. not (eq_by_cmp key_cmp x c.args.rank)) _ (λ x b f' y called. search rules) _ _ c.retain.ensures.filtered in
    ap (λ ks. is_listed ks t) left ∙ listed_without c.args.removed.now.items c.args.rank t
