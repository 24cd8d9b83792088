use Rattle.std.proofs.Common.{◌-◌, ◌+◌, ◌/◌, ◌%◌, ◌++◌, decimal, string_bytes, ap, sym, ◌∙◌, append_assoc, append-nil, arith}
use Rattle.schedule.specs.Texts.{flags_text}
use Rattle.schedule.proofs.FlagLemmas.{flags_text-more, flags_text-end}
use Rattle.schedule.proofs.telling.say_flags.Goals as goal

pub flags-preserved : goal.flags-preserved
flags-preserved c =
    let told = string_bytes c.flags.reply in
    let rest = flags_text (c.args.count - (c.flags.counter + 1)) (c.flags.rest / 2) in
    c.flags.invariant
    ∙ ap (λ t. told ++ t) (flags_text-more c.args.count c.flags.counter c.flags.rest (omega arith))
    ∙ sym (append_assoc told (decimal (c.flags.rest % 2)) rest)
    ∙ ap (λ t. t ++ rest) (sym c.in_ok-write.ensures.bytes)

pub returns : goal.returns
returns c =
    let told = string_bytes c.flags.reply in
    sym (c.flags.invariant ∙ ap (λ t. told ++ t) (flags_text-end c.args.count c.flags.counter c.flags.rest c.flags-test.false) ∙ append-nil told)
