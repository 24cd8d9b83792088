-- Of two senders, the one that has no open reservation doesn't hold the head, so the other does.
use Rattle.std.proofs.Common.{◌≡◌, ℕ, zero, suc, [], ◌∷◌, ◌++◌, length, refl, sym, ap, subst, ◌∙◌, arith, length-append}
use Rattle.ring.specs.Runs.{Who, Sender, Trail, Run, trail_of, IsSettled, OnlyOf}
use Rattle.progress.specs.Waiting.{IsHeldBy, HoldersAreOpen}
use Rattle.progress.proofs.Drained.{no_trail}
use Rattle.ring.proofs.TableLemmas.Trails.{trail_append}

none_is_settled : IsSettled []
none_is_settled offset low = absurd (omega (arith, low))

pub the_other_holds : (run : Run) (position holder : ℕ) → HoldersAreOpen → OnlyOf 2 run → IsSettled (trail_of (Sender 0) run) → IsHeldBy run position holder → holder ≡ 1
the_other_holds run position zero is_open only settled held = absurd (is_open run position 0 held settled)
the_other_holds run position (suc zero) is_open only settled held = refl
the_other_holds run position (suc (suc n)) is_open only settled held =
    absurd (is_open run position (suc (suc n)) held (subst IsSettled (sym (no_trail 2 (suc (suc n)) run only (omega arith))) none_is_settled))

nothing_between : (newer between older : Trail) → newer ++ (between ++ older) ≡ older → between ≡ []
nothing_between newer [] older is = refl
nothing_between newer (e ∷ between) older is =
    let many = ap length is in
    absurd (omega (arith, many, length-append newer ((e ∷ between) ++ older), length-append (e ∷ between) older))

-- Who has the same trail in an older and in a newer run has it in each run between them.
pub same_between : (who : Who) (mine : Trail) (newer newest first second third : Run)
    → second ≡ newer ++ first → third ≡ newest ++ second → trail_of who first ≡ mine → trail_of who third ≡ mine → trail_of who second ≡ mine
same_between who mine newer newest first second third second_is third_is in_first in_third =
    let in_second : trail_of who second ≡ trail_of who newer ++ mine =
    ap (trail_of who) second_is ∙ trail_append who newer first ∙ ap (λ (t : Trail). trail_of who newer ++ t) in_first in
    let whole : trail_of who newest ++ (trail_of who newer ++ mine) ≡ mine =
    ap (λ (t : Trail). trail_of who newest ++ t) (sym in_second) ∙ sym (trail_append who newest second) ∙ sym (ap (trail_of who) third_is) ∙ in_third in
    in_second ∙ ap (λ (t : Trail). t ++ mine) (nothing_between (trail_of who newest) (trail_of who newer) mine whole)
