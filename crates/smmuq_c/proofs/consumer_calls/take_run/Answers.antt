use Rattle.smmuq_c.proofs.Objects.{of_consumer}
use Rattle.smmuq_c.proofs.consumer_calls.take_run.Goals as goal

pub returns-in-Consumer-clause-called : goal.returns-in-Consumer-clause-called
returns-in-Consumer-clause-called c = of_consumer _ c.in-Consumer.is c.take_run.ensures
