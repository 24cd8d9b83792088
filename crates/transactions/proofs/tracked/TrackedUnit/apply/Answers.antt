use Rattle.std.proofs.Common.{◌≡◌, false, Option, None, Some, refl, sym, subst, ◌∙◌}
use Rattle.std.specs.Option.{is_some}
use Rattle.std.specs.Prelude.{ℕ}
use Rattle.transactions.specs.Between.{IsWaitAnswer}
use Rattle.transactions.specs.Tracking.{TrackedValue}
use Rattle.transactions.proofs.Judged.{needs_no_wait}
use Rattle.transactions.proofs.tracked.TrackedUnit.apply.Goals as goal

none_found : (found : Option ℕ) → is_some found ≡ false → found ≡ None
none_found None is = refl
none_found (Some n) is = absurd (cc)

pub returns : goal.returns
returns c =
    let free : IsWaitAnswer c.args.raw c.args.self.now.outstanding None =
    subst (IsWaitAnswer c.args.raw c.args.self.now.outstanding) (none_found c.has_to_wait.result (sym c.is_some-2.ensures ∙ c.if-is_some-2.false))
    (subst (λ (t : TrackedValue). IsWaitAnswer c.args.raw t.outstanding c.has_to_wait.result) c.self.view_is c.has_to_wait.ensures) in (
      (
        c.in-Applied.command,
        record {
          judged = c.in-Applied.ensures.judged;
          covered = c.in-Applied.ensures.covered;
          next_number = c.in-Applied.ensures.next;
          none_waited_for = λ sync. free sync.0 sync.1;
        },
      ),
      needs_no_wait c.args.raw c.args.self.now c.take.new.self _ free c.in-Applied.ensures.tracked,
    )
