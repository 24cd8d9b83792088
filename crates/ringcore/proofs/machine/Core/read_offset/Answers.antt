use Rattle.std.proofs.Common.{◌≡◌, ◌≤◌, Some, sym, subst, ◌∙◌, arith}
use Rattle.qindex.specs.Positions.{size}
use Rattle.ringcore.specs.machine.Faults.{tested_offset}
use Rattle.ringcore.specs.machine.Core.{CoreValue, core_of, ring_of}
use Rattle.ringcore.proofs.MachineLemmas.ReadSteps.{found_few, found_fits, offset_found}
use Rattle.ringcore.proofs.machine.Core.read_offset.Goals as goal

pub returns-in-Some-clause-few : goal.returns-in-Some-clause-few
returns-in-Some-clause-few c =
    let core = core_of c.self.inside in
    let is = c.self.invariant in
    let at : tested_offset (ring_of core) is.run c.args.slot ≡ Some c.in-Some.offset =
    sym (c.tested_offset.ensures (ring_of core) (sym c.geometry-geometry.ensures) is.run is.stands.consumer_knows) ∙ c.in-Some.is in
    let low = offset_found (ring_of core) is.run c.args.slot c.in-Some.offset at in
    let few = found_few (ring_of core) is.run is.stands.words_are.run_is in
    omega (arith, low, few)

pub returns-in-Some-clause-within : goal.returns-in-Some-clause-within
returns-in-Some-clause-within c =
    let core = core_of c.self.inside in
    let is = c.self.invariant in
    let at : tested_offset (ring_of core) is.run c.args.slot ≡ Some c.in-Some.offset =
    sym (c.tested_offset.ensures (ring_of core) (sym c.geometry-geometry.ensures) is.run is.stands.consumer_knows) ∙ c.in-Some.is in
    let low = offset_found (ring_of core) is.run c.args.slot c.in-Some.offset at in
    subst (λ (m : CoreValue). c.in-Some.offset ≤ size m.words.geometry) c.self.view_is
    (found_fits (ring_of core) is.run is.stands.words_are.run_is c.in-Some.offset (omega (arith, low)))
