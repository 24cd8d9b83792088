use Rattle.std.proofs.Common.{false, inl, inr, rules, tests, sym, ap, subst, ◌∙◌}
use Rattle.engine.specs.declared.queue_unit.QueueUnit.{QueueUnit}
use Rattle.engine.specs.Stops.{MayComeNext}
use Rattle.engine.specs.Units.{UnitValue, HasJudgedWords, StaysSettled, took_words, took_awaited}
use Rattle.engine.proofs.Rewritten.{settled_both, one_more, differs}
use Rattle.engine.proofs.queue_unit.QueueUnit.judge.Goals as goal
use Rattle.engine.proofs.queue_unit.QueueUnit.judge.Goals.{in-Some+else-not-self+else-taken-ge-MOST_RESERVED, in_default+else-taken-ge-MOST_RESERVED-2, in_default-via-in-Some+else-ne, in_default-via-in_default}

pub returns-clause-ok : goal.returns-clause-ok
returns-clause-ok c =
    let old = c.args.self.now.unit in
    let new = c.judge_words.new.self in
    let judgement = c.judge_words.result in elim c.match-awaited.branch [
      | in-Some+else-not-self+else-taken-ge-MOST_RESERVED w ↦
          let awaited = w.in-Some.awaited in
          let between = w.replace_awaited.new.self in
          let stands = ap (λ (q : QueueUnit). q.unit) w.self-is in
          let judged = subst (λ (u : UnitValue). HasJudgedWords c.args.raw u new judgement) stands c.judge_words.ensures.judged in
          let settled = subst (λ (u : UnitValue). StaysSettled u new (took_words c.args.raw judgement)) stands c.judge_words.ensures.settled in
          record {
            judged = inr (
              w.if-not-self.false,
              record {
                others = λ comes. differs awaited c.args.raw w.ne.result w.ne.ensures w.if-ne.true (sym (comes awaited (sym c.awaited.ensures ∙ w.in-Some.is)));
                awaited = awaited;
                between = between;
                replaced = w.replace_awaited.ensures.replaced;
                judged = judged;
                settled =
                    settled_both old between new (took_awaited awaited) (took_words c.args.raw judgement) (one_more awaited old between w.replace_awaited.ensures.replaced)
                    w.replace_awaited.ensures.settled settled;
              },
            );
            rest_is = ap (λ (q : QueueUnit). record q { unit = new; rereads = false }) w.self-is;
          }
      | in_default+else-taken-ge-MOST_RESERVED-2 w ↦
          let stands = ap (λ (q : QueueUnit). q.unit) w.self-is in
          let comes : MayComeNext c.args.raw old.stop = elim w.in_default.branch [
            | in_default-via-in-Some+else-ne v ↦ search (rules, tests)
            | in_default-via-in_default v ↦ search (rules, tests)
          ] in
          record {
            judged = inl (record {
              comes = comes;
              judged = subst (λ (u : UnitValue). HasJudgedWords c.args.raw u new judgement) stands c.judge_words.ensures.judged;
              settled = subst (λ (u : UnitValue). StaysSettled u new (took_words c.args.raw judgement)) stands c.judge_words.ensures.settled;
            });
            rest_is = ap (λ (q : QueueUnit). record q { unit = new; rereads = false }) w.self-is;
          }
    ]
