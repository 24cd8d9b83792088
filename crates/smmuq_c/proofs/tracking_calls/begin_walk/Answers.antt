use Rattle.std.proofs.Common.{refl, ◌∙◌}
use Rattle.smmuq_c.proofs.Objects.{of_read_unit}
use Rattle.smmuq_c.proofs.tracking_calls.begin_walk.Goals as goal

pub returns-in-Unit-clause-called : goal.returns-in-Unit-clause-called
returns-in-Unit-clause-called c =
    of_read_unit _ c.in-Unit.is (record { told_is = c.bits.ensures ∙ c.begin_walk.ensures.walk; new_is = refl; status_is = refl })
