use denote.Param.Send.{param_send, arg_send}
use Rattle.engine.proofs.Crossing.{engine_send}
use Rattle.ring_bench.proofs.NewSenders.{are_its_own}
use Rattle.ring_bench.proofs.threads.time_engine.Goals as goal

pub time_one-requires-clause-senders : goal.time_one-requires-clause-senders
time_one-requires-clause-senders g c κs within = are_its_own c.in-Ok.ring c.args.senders _ c.in-Ok.ensures.made.unused.senders_are

pub time_one-requires-send-T : goal.time_one-requires-send-T
time_one-requires-send-T g c κs within = search (param_send, arg_send, engine_send)
