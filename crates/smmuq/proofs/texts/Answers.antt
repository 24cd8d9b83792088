use Rattle.std.proofs.Common.{rules, sym, ◌≡◌, ◌∙◌, drop, map, string_bytes, List, [], ◌∷◌, ap, refl}
use Rattle.std.proofs.lemmas.List.{drop-map}
use Rattle.std.proofs.lemmas.Simd.{map-map}
use Rattle.std.proofs.lemmas.Iterator.{YieldsList-from_slice}
use Rattle.std.proofs.lemmas.Iterator.Adapters.{YieldsList-from_skip}
use Rattle.std.proofs.lemmas.Iterator.Consumers.{YieldsList-end}
use Rattle.smmuq.proofs.texts.Goals as goal

pub returns : goal.returns
returns c =
    let road = YieldsList-from_skip 1 (YieldsList-from_slice c.args.words.now (search rules)) (search rules) in
    let t = YieldsList-end road c.loop-word.yielded _ c.loop-word.yielded_by _ _ c.in-None.is c.next.ensures.steps in
    c.loop-word.invariant ∙ sym (map-map string_bytes (λ word. word.now) c.loop-word.yielded) ∙ ap (map string_bytes) t.0 ∙ sym (drop-map string_bytes 1 c.args.words.now)
