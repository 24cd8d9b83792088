use Rattle.ring.specs.Runs.{Ask}
use Rattle.ring.proofs.KeeperLemmas.Asking.{IsStep, is_step, keeps_all, ask_leaves_all}
use Rattle.ring.proofs.keeper.Keeper.done_up_to.Goals as goal

did : (c : goal.After-run_stands) → IsStep c.args.sender (Ask c.ask-found.result) c.args.self.now c.take_back.new.self
did c = is_step c.args.sender (Ask c.ask-found.result) c.args.self.now c.lend_to_sender-port.new.self c.take_back.new.self c.lend_to_sender-port.result c.ask-found.new.self
    c.requires.whole c.lend_to_sender-port.ensures.port c.lend_to_sender-port.ensures.keeper c.ask-found.ensures.trail c.take_back.ensures.keeper c.run_stands.ensures

pub returns-clause-keeper : goal.returns-clause-keeper
returns-clause-keeper c = (did c).keeper_is

pub returns-clause-found : goal.returns-clause-found
returns-clause-found c = (did c).allowed

pub returns-clause-all : goal.returns-clause-all
returns-clause-all c = keeps_all c.args.sender (Ask c.ask-found.result) c.args.self.now c.take_back.new.self (ask_leaves_all c.ask-found.result) (did c)
