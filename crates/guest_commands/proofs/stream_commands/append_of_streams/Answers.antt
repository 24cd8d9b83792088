use Rattle.std.proofs.Common.{◌++◌, length, take, sym, ◌∙◌, ap, subst, append-nil, arith}
use Rattle.std.specs.Option.{option_to_list}
use Rattle.std.proofs.lemmas.Bool.{eqb-true}
use Rattle.guest_commands.specs.Appending.{IsSpelledFor}
use Rattle.guest_commands.specs.HostCommands.{stream_words}
use Rattle.guest_commands.proofs.AppendLemmas.{step, full, cut, few_more}
use Rattle.guest_commands.proofs.stream_commands.append_of_streams.Goals as goal
use Rattle.guest_commands.proofs.stream_commands.append_of_streams.Goals.{in-Some+else-is_full, in_default}

pub returns-then-is_full : goal.returns-then-is_full
returns-then-is_full c =
    let smmu = c.args.smmu.now in
    let command = c.args.command.now in
    let until = c.loop-stream.invariant in
    let here = ap (stream_words smmu command) (sym c.stream-item.is) ∙ sym c.in-Some.ensures.value in
    let many = eqb-true (length c.loop-stream.body.items) 63 (sym c.if-is_full.ensures.value) in
    record {
      same = c.truncate.ensures.items ∙ ap (λ n. take n c.loop-stream.body.items) c.len-before.ensures.value ∙ cut smmu command (take c.loop-stream.stream-index c.args.streams.now) c.args.body.now.items c.loop-stream.body.items until;
      many = full smmu command c.args.streams.now c.args.body.now.items c.loop-stream.body.items c.in-Some.words c.loop-stream.stream-index c.stream-item.result c.loop-stream-test.true until (omega (arith, many)) here;
    }

pub loop-stream-preserved : goal.loop-stream-preserved
loop-stream-preserved c =
    let smmu = c.args.smmu.now in
    let command = c.args.command.now in
    let old = c.loop-stream.body.items in
    let new = c.match-stream_words.body.items in
    let spelled = subst (IsSpelledFor smmu command) c.stream-item.is c.stream_words.ensures.spelled in
    let streams = c.args.streams.now in
    let start = c.args.body.now.items in
    elim c.match-stream_words.branch [
      | in-Some+else-is_full w ↦
          let pushed = ap (λ b. b.items) w.body-is ∙ w.push.ensures.items in
          step smmu command streams start old new c.loop-stream.stream-index c.stream-item.result c.loop-stream-test.true c.loop-stream.invariant
          (pushed ∙ ap (λ o. old ++ option_to_list o) (w.in-Some.ensures.value ∙ ap (stream_words smmu command) c.stream-item.is))
          (few_more old new w.in-Some.words pushed (sym w.if-is_full.ensures.value) c.loop-stream.invariant.few) spelled
      | in_default w ↦
          let kept = ap (λ b. b.items) w.body-is in
          step smmu command streams start old new c.loop-stream.stream-index c.stream-item.result c.loop-stream-test.true c.loop-stream.invariant
          (kept ∙ sym (append-nil old) ∙ ap (λ o. old ++ option_to_list o) (sym w.in_default.is ∙ c.stream_words.ensures.value ∙ ap (stream_words smmu command) c.stream-item.is))
          (omega (arith, ap length kept, c.loop-stream.invariant.few)) spelled
    ]
