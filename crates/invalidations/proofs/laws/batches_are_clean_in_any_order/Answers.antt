use Rattle.invalidations.proofs.AnyOrderLemmas.{covered_clean, changes_clean, stage_1_clean, endpoints_clean}
use Rattle.invalidations.proofs.laws.batches_are_clean_in_any_order.Goals as goal

pub returns-clause-covered : goal.returns-clause-covered
returns-clause-covered c = covered_clean

pub returns-clause-changes : goal.returns-clause-changes
returns-clause-changes c = changes_clean

pub returns-clause-stage_1_behind : goal.returns-clause-stage_1_behind
returns-clause-stage_1_behind c = stage_1_clean

pub returns-clause-endpoints : goal.returns-clause-endpoints
returns-clause-endpoints c = endpoints_clean
