use Rattle.std.proofs.Common.{◌++◌, ap, sym, ◌∙◌}
use Rattle.image.proofs.DumpLemmas.{slot_added}
use Rattle.image.proofs.dump.add_slot.Goals as goal

pub returns-in-Ok : goal.returns-in-Ok
returns-in-Ok c = λ rest.
    slot_added c.args.image.now.items c.extend_from_slice.new.self.items c.args.number c.args.last c.args.slot rest (sym c.follows.ensures ∙ c.if-not-follows.false)
    (c.in-Ok.ensures.items ∙ ap (λ b. c.args.image.now.items ++ b) c.to_bytes.ensures.bytes)
