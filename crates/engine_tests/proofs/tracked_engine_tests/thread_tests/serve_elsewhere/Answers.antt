use denote.Param.Send.{param_send, arg_send, sendable}
use Rattle.std.proofs.Crossing.{crosses}
use Rattle.tracked_engine.proofs.Crossing.{tracked_engine_send}
use Rattle.engine_tests.proofs.Crossing.{server_send}
use Rattle.engine_tests.proofs.tracked_engine_tests.thread_tests.serve_elsewhere.Goals as goal

pub join-served-requires-send-F : goal.join-served-requires-send-F
join-served-requires-send-F g c κs within = search (param_send, arg_send, server_send)

pub join-served-requires-send-A : goal.join-served-requires-send-A
join-served-requires-send-A g c κs within = search (param_send, arg_send, sendable, crosses, tracked_engine_send) depth 40 fits 200000
