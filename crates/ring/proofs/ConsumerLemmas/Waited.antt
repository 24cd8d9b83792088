-- Who holds the head that a test found unwritten.
use Rattle.std.proofs.Common.{◌≡◌, ◌≢◌, ℕ, ◌∷◌, ◌++◌, sym, ap, ◌∙◌, subst}
use Rattle.progress.specs.Waiting.{IsHeldBy, HeldSinceALook}
use Rattle.ring.specs.Runs.{Consumer, Test, Run, head, world, control, Ring, IsRun}
use Rattle.ring.specs.table.{GrewBy}

pub waited : HeldSinceALook → (ring : Ring) (limit found : ℕ) (older run : Run) → found ≡ 0 → GrewBy Consumer (Test limit found) older run → IsRun ring run
    → (control ring.geometry (world older)).prod.number ≢ (control ring.geometry (world older)).cons.number → (s : ℕ) × IsHeldBy run (head (world run)) s
waited law ring limit found older run none grew ok apart =
    let newer = grew.went_on.newer in
    let is : run ≡ (Consumer, Test limit 0) ∷ (newer ++ older) =
    grew.run_is ∙ ap (λ (r : Run). (Consumer, Test limit found) ∷ r) grew.went_on.run_is ∙ ap (λ (n : ℕ). (Consumer, Test limit n) ∷ (newer ++ older)) none in
    subst (λ (r : Run). (s : ℕ) × IsHeldBy r (head (world r)) s) (sym is) (law ring limit newer older (subst (IsRun ring) is ok) grew.went_on.of_others apart)
