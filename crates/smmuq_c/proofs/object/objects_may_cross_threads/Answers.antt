use denote.Param.Send.{param_send, arg_send}
use Rattle.smmuq_c.proofs.Crossing.{object_send}
use Rattle.smmuq_c.proofs.object.objects_may_cross_threads.Goals as goal

pub may_cross_threads-requires-send-T : goal.may_cross_threads-requires-send-T
may_cross_threads-requires-send-T c κs = search (param_send, arg_send, object_send)
