use Rattle.std.proofs.Common.{arith}
use Rattle.std.proofs.lemmas.List.{length-replicate}
use Rattle.ringcore.specs.machine.ConsumerViews.{unread}
use Rattle.ringcore.proofs.MachineLemmas.ConsumerKnows.{new_known, all_unread}
use Rattle.ringcore.proofs.machine.consumer_view.ConsumerView.new.Goals as goal

pub invariant_of-result : goal.invariant_of-result
invariant_of-result c = record { places = length-replicate 64 unread; within = omega arith; behind = λ k from. all_unread 64 k }

pub returns : goal.returns
returns c = new_known
