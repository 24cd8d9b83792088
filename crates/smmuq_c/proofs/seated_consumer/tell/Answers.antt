use Rattle.std.proofs.Common.{◌≡◌, get_or, sym, ◌∙◌, arith}
use Rattle.std.proofs.lemmas.Grind.{common_steps}
use Rattle.std.proofs.lemmas.Option.{get_or_from_slice_get}
use Rattle.smmuq_c.proofs.seated_consumer.tell.Goals as goal

pub loop-place-preserved : goal.loop-place-preserved
loop-place-preserved c =
    let here : get_or c.args.pending.now.raws c.loop-place.place c.unwrap.result ≡ c.unwrap.result =
    get_or_from_slice_get c.args.pending.now.raws c.loop-place.place c.unwrap.result c.unwrap.result (sym c.get.ensures ∙ c.unwrap.ensures) in
    let i = c.loop-place.invariant in
    record { written = grind (arith, common_steps, here, i.written); behind = grind (arith, common_steps, i.behind) }
