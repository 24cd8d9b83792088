use Rattle.std.proofs.Common.{◌≤◌, ◌<◌, ℕ, arith}
use Rattle.transactions.proofs.tracked.TrackedUnit.is_complete.Goals as goal

sooner : (a b : ℕ) → ¬ (b ≤ a) → a < b
sooner a b never = omega (arith, never)

pub returns : goal.returns
returns c list end is sync = record {
  held = λ tag entry at place t there before covered. sooner place entry.born (λ from. (is.settled tag entry at).uncovered place t there from (record { applied = covered.applied; command = covered.command; spelled = covered.spelled; covered = covered.concerned }));
  used = λ slot outstanding at place t there before covered.
      sooner place outstanding.born (λ from. is.on_time slot outstanding at (record {
        place = place;
        taken = t;
        at = there;
        since = from;
        concerned = covered;
        later = end;
        sync = sync.sync;
        at_later = sync.at;
        after = before;
        applied = sync.applied;
        is_sync = sync.is_sync;
      }));
}
