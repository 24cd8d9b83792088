use Rattle.std.proofs.Common.{◌∙◌, ap, sym, subst}
use Rattle.ringcore.specs.world.World.{world, control}
use Rattle.ringcore.specs.machine.Core.{CoreValue, core_of, ring_of, StandsAfter}
use Rattle.ringcore.proofs.MachineLemmas.Standing.{is_there, that_there, control_found}
use Rattle.ringcore.proofs.machine.Core.control.Goals as goal

pub unwrap-requires : goal.unwrap-requires
unwrap-requires c =
    let is = c.self.invariant in
    let core = core_of c.self.inside in
    is_there _ _ _ c.control.ensures (c.look.ensures.word (ring_of core) is.run c.self.inside.words.words is.stands.words_are)

pub returns-clause-says : goal.returns-clause-says
returns-clause-says c = λ run stands.
    let core = core_of c.self.inside in
    control_found c.control_words_say_their_control.ensures.said c.indexes_tell_the_queue.ensures.control core run c.unwrap.result
    (subst (λ m. StandsAfter m run) (sym c.self.view_is) stands) (that_there _ _ _ c.unwrap.result c.control.ensures c.unwrap.ensures)
    ∙ ap (λ (m : CoreValue). control m.words.geometry (world run)) c.self.view_is
