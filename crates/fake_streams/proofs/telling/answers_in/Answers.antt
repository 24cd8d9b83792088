use Rattle.std.proofs.Common.{rules, inl, inr, ap, sym, ◌∙◌, ◌++◌, arith}
use Rattle.std.proofs.lemmas.Bool.{cases_lt}
use Rattle.std.specs.Prelude.{get_or}
use Rattle.std.proofs.lemmas.List.{length-map}
use Rattle.fake_streams.proofs.Joined.{one_more, not_fewer, not_more, is_left, past_end}
use Rattle.fake_streams.proofs.telling.answers_in.Goals as goal

pub loop-count-preserved : goal.loop-count-preserved
loop-count-preserved c =
    let found = c.in_ok-rest.ensures.cases in (
      search rules,
      one_more c.args.answers.now c.args.text.now c.loop-count.rest.now c.loop-count.count c.loop-count.invariant.1 c.in_ok-rest.rest.now c.loop-count-test.true
          (found.1.1 ∙ ap (λ l. (get_or c.args.answers.now c.loop-count.count past_end).now ++ l) (sym found.2)),
    )

pub returns-in_err-rest-clause-none : goal.returns-in_err-rest-clause-none
returns-in_err-rest-clause-none c = λ _ n are.
    elim (cases_lt c.loop-count.count n) as (λ _. ⊥) [
      | inl past ↦ not_more c.args.answers.now c.args.text.now c.loop-count.rest.now c.loop-count.count c.loop-count.invariant.1 c.loop-count-test.true c.in_err-rest.ensures.cases n past are
      | inr few ↦ not_fewer c.args.answers.now c.args.text.now c.loop-count.rest.now c.loop-count.count c.loop-count.invariant.1 (is_left c.loop-count.rest.now (c.if-is_empty.ensures)) n few are
    ]

pub returns-else-is_empty-2-clause-none : goal.returns-else-is_empty-2-clause-none
returns-else-is_empty-2-clause-none c = λ _ n are.
    not_fewer c.args.answers.now c.args.text.now c.loop-count.rest.now c.loop-count.count c.loop-count.invariant.1 (is_left c.loop-count.rest.now c.if-is_empty-2.ensures) n (omega (arith, are.few, length-map c.args.answers.now (λ s. s.now), c.loop-count-test.false))
    are
