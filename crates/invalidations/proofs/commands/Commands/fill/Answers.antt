use Rattle.invalidations.proofs.FillLemmas.{begun, stepped, ended, still_no_sync}
use Rattle.invalidations.proofs.commands.Commands.fill.Goals as goal

pub commands-init : goal.commands-init
commands-init c = begun c.args.self.now c.args.body.now.items

pub returns-in-None-clause-filled : goal.returns-in-None-clause-filled
returns-in-None-clause-filled c = ended c.commands.invariant c.in-None.ensures.words

pub returns-in-None-clause-no_sync : goal.returns-in-None-clause-no_sync
returns-in-None-clause-no_sync c = still_no_sync c.args.self.now c.commands.self c.args.body.now.items c.commands.body.items c.commands.invariant

pub returns-clause-no_sync : goal.returns-clause-no_sync
returns-clause-no_sync c = still_no_sync c.args.self.now c.commands.self c.args.body.now.items c.commands.body.items c.commands.invariant

pub commands-preserved : goal.commands-preserved
commands-preserved c = stepped c.commands.invariant c.in-Some.ensures.words c.in-Some.ensures.target c.push.ensures.items
