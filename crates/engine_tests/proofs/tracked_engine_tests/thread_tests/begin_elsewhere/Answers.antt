use denote.Param.Send.{param_send, arg_send, sendable}
use Rattle.std.proofs.Crossing.{crosses}
use Rattle.tracked_engine.proofs.Crossing.{tracked_engine_send}
use Rattle.engine_tests.proofs.Crossing.{device_send}
use Rattle.engine_tests.proofs.tracked_engine_tests.thread_tests.begin_elsewhere.Goals as goal

pub join-begun-requires-send-F : goal.join-begun-requires-send-F
join-begun-requires-send-F g c κs within = search (param_send, arg_send, device_send)

pub join-begun-requires-send-A : goal.join-begun-requires-send-A
join-begun-requires-send-A g c κs within = search (param_send, arg_send, sendable, crosses, tracked_engine_send) depth 40 fits 200000
