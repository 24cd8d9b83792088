-- Whether a pause is the run's end.
use Rattle.std.proofs.Common.{◌≡◌, ◌≢◌, ◌⊎◌, refl, inl, inr}
use Rattle.script.specs.declared.run.Pause.{Pause}
use Rattle.script.specs.declared.run.Pause.TheVariants.{Ended, Full, Drained}

pub full_is_not_ended : (pause : Pause) → pause ≡ Full → pause ≢ Ended
full_is_not_ended pause full ended = cc

pub drained_is_not_ended : (pause : Pause) → pause ≡ Drained → pause ≢ Ended
drained_is_not_ended pause drained ended = cc

pub ended_or_not : (pause : Pause) → (pause ≡ Ended) ⊎ (pause ≢ Ended)
ended_or_not Ended = inl refl
ended_or_not Full = inr (full_is_not_ended Full refl)
ended_or_not Drained = inr (drained_is_not_ended Drained refl)
