use Rattle.std.proofs.Common.{◌≡◌, true, map, None, sym, ap, subst, ◌∙◌}
use Rattle.cmdcodec.specs.Opcodes.{is_sync}
use Rattle.cmdcodec.specs.Legality.{first_ill}
use Rattle.engine.specs.declared.verdict.Verdict.TheVariants.{Applied}
use Rattle.engine.specs.Counting.{taken}
use Rattle.transactions.specs.Since.{recent_with}
use Rattle.transactions.specs.Tracking.{TrackedValue, IsTracked}
use Rattle.engine.specs.Units.{HasJudged}
use Rattle.transactions.specs.Outstanding.{cover, covered_by, HasCoveredOutstanding}
use Rattle.transactions.proofs.Judged.{judged_tracked, same_recent, same_slots}
use Rattle.transactions.proofs.tracked.TrackedUnit.take.Goals as goal

pub returns-in-Applied-clause-covered : goal.returns-in-Applied-clause-covered
returns-in-Applied-clause-covered c =
    (c.note.ensures.noted c.in-Applied.command c.in-Applied.ensures.judged.legal.spelled).outstanding ∙ ap (λ (t : TrackedValue). map (cover c.in-Applied.command) t.outstanding) c.self.view_is

pub returns-in-Applied-clause-tracked : goal.returns-in-Applied-clause-tracked
returns-in-Applied-clause-tracked c list is waited =
    let before = subst (λ (t : TrackedValue). IsTracked t list) (sym c.self.view_is) is in
    let command = c.in-Applied.command in
    let judged = c.in-Applied.ensures.judged in
    let noted = c.note.ensures.noted command judged.legal.spelled in
    judged_tracked c.args.raw c.self.inside.unit c.judge.new.self (Applied command c.in-Applied.removed) judged c.self.inside.tracking c.note.new.self list before.many before.recorded before.covered before.on_time
    (subst (λ (t : TrackedValue). is_sync c.args.raw ≡ true → first_ill c.args.raw ≡ None → ¬ HasCoveredOutstanding t.outstanding list) (sym c.self.view_is) waited)
    (noted.recent ∙ ap (λ n. recent_with n c.args.raw command c.self.inside.tracking.recent) (c.taken-place.ensures.value ∙ ap taken c.counts.ensures))
    noted.outstanding
    (c.in-Applied.ensures.settled list (sym before.many) before.settled)

pub returns-in_default : goal.returns-in_default
returns-in_default c =
    let verdict = c.judge.result in
    let tracking = c.self.inside.tracking in
    let slots = same_slots verdict tracking.outstanding c.in_default.not-Applied in
    record {
      judged = subst (λ (t : TrackedValue). HasJudged c.args.raw t.unit c.judge.new.self verdict) c.self.view_is c.judge.ensures.judged;
      covered = slots ∙ ap (λ (t : TrackedValue). covered_by verdict t.outstanding) c.self.view_is;
      next = ap (λ (t : TrackedValue). t.next_number) c.self.view_is;
      tracked = λ list is waited.
          let before = subst (λ (t : TrackedValue). IsTracked t list) (sym c.self.view_is) is in
          judged_tracked c.args.raw c.self.inside.unit c.judge.new.self verdict c.judge.ensures.judged tracking tracking list before.many before.recorded before.covered before.on_time
          (subst (λ (t : TrackedValue). is_sync c.args.raw ≡ true → first_ill c.args.raw ≡ None → ¬ HasCoveredOutstanding t.outstanding list) (sym c.self.view_is) waited)
          (same_recent (taken c.self.inside.unit.counts) c.args.raw verdict tracking.recent c.in_default.not-Applied)
          slots
          (c.judge.ensures.settled list (sym before.many) before.settled);
    }
