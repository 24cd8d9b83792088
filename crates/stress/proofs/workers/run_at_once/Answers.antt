use denote.Param.Send.{param_send, arg_send}
use Rattle.engine.proofs.Crossing.{engine_send}
use Rattle.stress.proofs.Crossing.{runner_send}
use Rattle.stress.proofs.workers.run_at_once.Goals as goal

pub join-requires-send-A : goal.join-requires-send-A
join-requires-send-A g c κs within = search (param_send, arg_send, engine_send)

pub join-requires-send-F : goal.join-requires-send-F
join-requires-send-F g c κs within = search (param_send, arg_send, runner_send, c.type_bounds.sync-G)
