use Rattle.std.proofs.Common.{rules, ◌≡◌, ℕ, ap, ◌∙◌}
use Rattle.qindex.specs.ControlWord.{control_in}
use Rattle.ring.proofs.TableLemmas.StepKinds.{control_inside}
use Rattle.ring.proofs.KeeperLemmas.Asking.{finds_as, still_keeper, same_keeper, control_is}
use Rattle.ring.proofs.keeper.Keeper.control.Goals as goal

pub load-word-requires : goal.load-word-requires
load-word-requires c = (
  search rules,
  control_inside _ _ _ _ c.ring.invariant.words c.control_word.ensures,
  finds_as _ _ _ c.self.view_is c.self.invariant c.requires.whole _ _ _ _,
)

pub invariant_of-self : goal.invariant_of-self
invariant_of-self c = still_keeper _ _ _ c.self.view_is c.self.invariant c.requires.whole _ _ _ c.control_word.ensures c.load-word.ensures.2

pub returns-clause-keeper : goal.returns-clause-keeper
returns-clause-keeper c = same_keeper _ _ _ c.self.view_is c.self.invariant c.requires.whole _ _ _ c.control_word.ensures c.load-word.ensures.2 _ (search rules)

pub returns-clause-says : goal.returns-clause-says
returns-clause-says c =
    let geometry_is : c.geometry.result ≡ c.args.self.now.ring.made_with.geometry = search rules in
    let result_is : c.unwrap.result ≡ control_in c.geometry.result c.load-word.result = search rules in
    result_is ∙ ap (λ (g : ℕ). control_in g c.load-word.result) geometry_is
    ∙ control_is _ _ _ c.self.view_is c.self.invariant c.requires.whole _ _ _ c.control_word.ensures c.load-word.ensures.2 c.look.ensures.finds
