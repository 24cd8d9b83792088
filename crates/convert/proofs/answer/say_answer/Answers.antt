use Rattle.std.proofs.Common.{◌∙◌, ◌++◌, inl, inr, ap, sym, string_bytes}
use Rattle.convert.specs.Answers.{command_answer, commands_text, converted_answer}
use Rattle.convert.proofs.ConversionLemmas.{IsTaken, not_full, stopped, taken}
use Rattle.convert.proofs.answer.say_answer.Goals as goal

pub returns-in_ok-say_stop-in-At-clause-text : goal.returns-in_ok-say_stop-in-At-clause-text
unfolding command_answer
returns-in_ok-say_stop-in-At-clause-text c =
    let stop = stopped c.args.guest.now c.args.raw c.convert_all-converted.result c.in-At.stop c.convert_all-converted.ensures.converted (sym c.ended.ensures ∙ c.in-At.is) in
    c.in_ok-say_stop-in-At.ensures ∙ ap (λ s. string_bytes c.args.reply.now ++ (converted_answer c.args.guest.now c.args.raw s).0) (sym stop)

pub returns-in_ok-say_stop-in-At-clause-good : goal.returns-in_ok-say_stop-in-At-clause-good
unfolding command_answer
returns-in_ok-say_stop-in-At-clause-good c =
    let stop = stopped c.args.guest.now c.args.raw c.convert_all-converted.result c.in-At.stop c.convert_all-converted.ensures.converted (sym c.ended.ensures ∙ c.in-At.is) in
    c.goes_on_at.ensures ∙ ap (λ s. (converted_answer c.args.guest.now c.args.raw s).1) (sym stop)

pub returns-in_ok-say_commands-in-End : goal.returns-in_ok-say_commands-in-End
unfolding command_answer
returns-in_ok-say_commands-in-End c =
    let guest = c.args.guest.now in
    let raw = c.args.raw in
    let before = string_bytes c.args.reply.now in
    let converted = c.convert_all-converted.ensures.converted in
    let is : IsTaken guest raw c.convert_all-converted.result.commands =
    elim c.in-End.is [
      | inl end ↦ taken guest raw c.convert_all-converted.result converted (sym c.ended.ensures ∙ end)
      | inr full ↦ absurd (not_full guest raw c.convert_all-converted.result converted (sym c.ended.ensures ∙ full))
    ] in
    let words = c.commands.ensures ∙ is.commands_are in
    record {
      text = c.in_ok-say_commands-in-End.ensures ∙ ap (λ commands. before ++ commands_text commands) words
          ∙ ap (λ stop. before ++ (converted_answer guest raw stop).0) (sym is.goes_on);
      good = ap (λ stop. (converted_answer guest raw stop).1) (sym is.goes_on);
    }
