use Rattle.std.proofs.Common.{◌≡◌, ◌++◌, ap, ◌∙◌, string_bytes}
use Rattle.std.proofs.lemmas.Result.{err_from_is_err_and, on_err_weaker, on_ok_weaker}
use Rattle.image.specs.States.{state_text}
use Rattle.image.specs.Views.{heading, lines_shown, view}
use Rattle.image.proofs.ViewLemmas.{moved_and_said, nothing_written, part_of_more, shown_all, shown_part}
use Rattle.image.proofs.viewing.show.Goals as goal

pub returns-in-Err-clause-err : goal.returns-in-Err-clause-err
returns-in-Err-clause-err g c = nothing_written _ (view c.args.image.now c.args.queue.now c.args.shown)

pub returns-in_err-show_lines-clause-err : goal.returns-in_err-show_lines-clause-err
returns-in_err-show_lines-clause-err g c =
    let returned = err_from_is_err_and c.from_residual.result c.from_residual.ensures.1 in
    let head : string_bytes c.say_heading.new.text ≡ heading c.args.queue.now = c.in_default.ensures ∙ ap (λ t. t ++ heading c.args.queue.now) c.new-text.ensures.bytes in
    rw returned.1 (part_of_more _ _ (heading c.args.queue.now) (lines_shown c.args.image.now c.args.queue.now c.args.shown.all)
    (state_text c.args.image.now c.args.queue.now c.args.shown.error) (rw head at c.in_err-show_lines.ensures.err))

pub returns-in-Err-say_state-clause-err : goal.returns-in-Err-say_state-clause-err
returns-in-Err-say_state-clause-err g c =
    let head : string_bytes c.say_heading.new.text ≡ heading c.args.queue.now = c.in_default.ensures ∙ ap (λ t. t ++ heading c.args.queue.now) c.new-text.ensures.bytes in
    let lines = lines_shown c.args.image.now c.args.queue.now c.args.shown.all in
    part_of_more _ _ (heading c.args.queue.now) lines (state_text c.args.image.now c.args.queue.now c.args.shown.error)
    (shown_part _ _ _ (string_bytes c.say_heading.new.text) (heading c.args.queue.now) (string_bytes c.show_lines.new.text) lines head c.in_ok-show_lines.ensures.ok
    (nothing_written _ (string_bytes c.show_lines.new.text)))

pub returns-clause-ok : goal.returns-clause-ok
returns-clause-ok g c =
    let head : string_bytes c.say_heading.new.text ≡ heading c.args.queue.now = c.in_default.ensures ∙ ap (λ t. t ++ heading c.args.queue.now) c.new-text.ensures.bytes in
    let lines = lines_shown c.args.image.now c.args.queue.now c.args.shown.all in
    let state = state_text c.args.image.now c.args.queue.now c.args.shown.error in
    let moved = moved_and_said _ _ (string_bytes c.say_heading.new.text) (string_bytes c.show_lines.new.text) lines (string_bytes c.say_state.new.text) state
    c.in_ok-show_lines.ensures.ok c.in_default-say_state.ensures in
    on_ok_weaker c.write_whole.result
    (λ written. shown_all _ _ _ (string_bytes c.say_heading.new.text) (heading c.args.queue.now) (string_bytes c.say_state.new.text) (lines ++ state) head moved written)
    (rw c.as_bytes.ensures.value at c.write_whole.ensures.ok)

pub returns-clause-err : goal.returns-clause-err
returns-clause-err g c =
    let head : string_bytes c.say_heading.new.text ≡ heading c.args.queue.now = c.in_default.ensures ∙ ap (λ t. t ++ heading c.args.queue.now) c.new-text.ensures.bytes in
    let lines = lines_shown c.args.image.now c.args.queue.now c.args.shown.all in
    let state = state_text c.args.image.now c.args.queue.now c.args.shown.error in
    let moved = moved_and_said _ _ (string_bytes c.say_heading.new.text) (string_bytes c.show_lines.new.text) lines (string_bytes c.say_state.new.text) state
    c.in_ok-show_lines.ensures.ok c.in_default-say_state.ensures in
    on_err_weaker c.write_whole.result
    (λ f. shown_part _ _ _ (string_bytes c.say_heading.new.text) (heading c.args.queue.now) (string_bytes c.say_state.new.text) (lines ++ state) head moved f)
    (rw c.as_bytes.ensures.value at c.write_whole.ensures.err)
