use Rattle.std.proofs.Common.{◌++◌, ◌∙◌, drop, length, ap}
use Rattle.smmuq_c.proofs.guest_calls.give.Goals as goal

pub returns : goal.returns
returns c =
    let own = c.convert_all.result in
    let e = c.convert_all.ensures in
    let made = c.commands-made.ensures in
    record {
      conversion = own;
      converted = e.converted;
      given = ap (λ raws. raws ++ drop (length c.commands-made.result.now) c.args.buffer.now) (c.copy_from_slice.ensures.after ∙ made)
          ∙ ap (λ raws. own.commands ++ drop (length raws) c.args.buffer.now) made;
      told_is = c.of.ensures;
      legal = e.legal;
      isolated = e.isolated;
      complete = e.complete;
    }
