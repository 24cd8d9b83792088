use Rattle.std.proofs.Common.{sym, ◌∙◌}
use Rattle.regions.proofs.CoveredLemmas.{atc_inv_covered}
use Rattle.regions.proofs.SpaceLemmas.{translations_covered}
use Rattle.regions.proofs.region.Region.of.Goals as goal

pub returns-in-AtcInv-clause-covered : goal.returns-in-AtcInv-clause-covered
returns-in-AtcInv-clause-covered c =
    atc_inv_covered _ _ _ _ _ _ _ _ _ c.in-AtcInv.is c.of-in-AtcInv.ensures c.cached_at_endpoint.ensures.value c.cached_at_endpoint.ensures.in_range

pub returns-in-Some-clause-covered : goal.returns-in-Some-clause-covered
returns-in-Some-clause-covered c = rw c.of-in-Some.ensures.value (translations_covered c.args.command.now c.in-Some.space (sym c.of.ensures ∙ c.in-Some.is))
