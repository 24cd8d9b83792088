use Rattle.std.proofs.Common.{inr, rules, ◌≡◌, ◌∙◌, ◌≤◌, ℕ, length, ap, subst}
use Rattle.std.specs.Prelude.{max, min}
use Rattle.engine.specs.Engines.{EngineValue, HasRun}
use Rattle.engine.specs.Completions.{HasTold}
use Rattle.smmuq_c.specs.Runs.{run_length, HasRunCompletions}
use Rattle.smmuq_c.proofs.seated_engine.SeatedEngine.run_completions.Goals as goal

pub returns-clause-ran : goal.returns-clause-ran
returns-clause-ran c =
    let e = c.step_run_telling-answer.ensures in
    let answer = c.step_run_telling-answer.result in
    let old : EngineValue = c.self.inside.engine in
    let new : EngineValue = c.step_run_telling-answer.new.self in
    let before = c.args.completions.now in
    let after = c.step_run_telling-answer.new.completions in
    let room : 1 ≤ length before = search rules in
    let most : c.min-most.result ≡ run_length (min c.args.most (length before)) =
    c.min-most.ensures ∙ ap (λ (m : ℕ). min m 64) (c.max.ensures ∙ ap (λ (m : ℕ). max m 1) c.min.ensures) in
    subst (λ (own : EngineValue). HasRunCompletions c.args.most c.from.result before after answer.1 own new c.from-2.result) c.self.view_is
    (inr (record {
      room = room;
      ran = record {
        answer = answer.0;
        ran = subst (λ (m : ℕ). HasRun m old new answer.0) most e.stepped;
        history = e.history;
        settled = e.settled;
        removes = e.removes;
        still = e.still;
        exhausted = e.exhausted;
        ring_is = e.ring;
        status_is = c.from-2.ensures;
        told_is = c.from.ensures;
      };
      completions = subst (λ (m : ℕ). HasTold m old new answer before after) most e.told;
      cells = e.cells;
    }))
