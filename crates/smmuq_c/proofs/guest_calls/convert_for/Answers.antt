use Rattle.std.proofs.Common.{◌≡◌, ◌∙◌, take, arith, refl, subst}
use Rattle.smmuq_c.specs.Guests.{HasConvertedTo}
use Rattle.smmuq_c.proofs.guest_calls.convert_for.Goals as goal

pub returns-clause-called : goal.returns-clause-called
returns-clause-called c =
    let read : c.as_slice.result.now ≡ take 63 c.args.commands.now = c.as_slice.ensures.value ∙ c.copy_first.ensures in (
      omega arith,
      subst (λ raws. HasConvertedTo raws c.args.buffer.now c.give.new.buffer c.give.new.converted c.args.guest.now) read c.give.ensures,
      refl,
    )
