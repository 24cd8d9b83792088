use Rattle.script.specs.Giving.{MayAnswer}
use Rattle.script.proofs.ServesLemmas.{refused_by, tells}
use Rattle.replay.specs.ReplayText.{replays}
use Rattle.replay.proofs.serving.replay_to_last_line.Goals as goal

pub returns-clause-replays : goal.returns-clause-replays
returns-clause-replays g c =
    tells (MayAnswer replays) c.serve_to_last_line-served.result.0 c.status_of.result _ _ _ _ c.status_of.ensures c.serve_to_last_line-served.ensures.serves

pub returns-clause-last : goal.returns-clause-last
returns-clause-last g c = refused_by c.serve_to_last_line-served.result.0 c.status_of.result c.status_of.ensures c.serve_to_last_line-served.ensures.last
