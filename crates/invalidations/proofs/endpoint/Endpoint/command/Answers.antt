use Rattle.std.proofs.Common.{ap, subst, ◌∙◌}
use Rattle.invalidations.specs.Endpoints.{endpoint_command, IsLeastPower}
use Rattle.invalidations.proofs.EndpointLemmas.{reaches}
use Rattle.invalidations.proofs.endpoint.Endpoint.command.Goals as goal

pub returns : goal.returns
returns c =
    let power = c.least_power-power.result in
    let least = subst (λ n. IsLeastPower n c.args.last power) c.get.ensures.value
    (subst (λ n. IsLeastPower c.get.result n power) c.get-2.ensures.value c.least_power-power.ensures.least) in
    reaches c.args.self.now c.args.first c.args.last power c.command_of_block.result c.requires c.least_power-power.ensures.in_range least
    (c.command_of_block.ensures ∙ ap (endpoint_command c.args.self.now power) c.block_page.ensures)
