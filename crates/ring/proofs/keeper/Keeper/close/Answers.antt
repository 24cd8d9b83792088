use Rattle.ring.specs.Runs.{Close}
use Rattle.ring.proofs.KeeperLemmas.Asking.{IsStep, is_step, keeps_all, close_leaves_all}
use Rattle.ring.proofs.keeper.Keeper.close.Goals as goal

did : (c : goal.After-run_stands) → IsStep c.args.sender Close c.args.self.now c.take_back.new.self
did c = is_step c.args.sender Close c.args.self.now c.lend_to_sender-port.new.self c.take_back.new.self c.lend_to_sender-port.result c.close.new.self
    c.requires.whole c.lend_to_sender-port.ensures.port c.lend_to_sender-port.ensures.keeper c.close.ensures.trail c.take_back.ensures.keeper c.run_stands.ensures

pub returns-clause-keeper : goal.returns-clause-keeper
returns-clause-keeper c = (did c).keeper_is

pub returns-clause-all : goal.returns-clause-all
returns-clause-all c = keeps_all c.args.sender Close c.args.self.now c.take_back.new.self close_leaves_all (did c)
