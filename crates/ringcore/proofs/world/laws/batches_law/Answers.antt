use Rattle.ringcore.proofs.WorldLemmas.Numbering.{senders_order}
use Rattle.ringcore.proofs.WorldLemmas.Completed.{unbroken}
use Rattle.ringcore.proofs.WorldLemmas.Order.{earlier_first}
use Rattle.ringcore.proofs.WorldLemmas.Reading.{is_read, reserved_raws}
use Rattle.ringcore.proofs.WorldLemmas.Owners.{have_owners, all_of_batches}
use Rattle.ringcore.proofs.world.laws.batches_law.Goals as goal

pub returns-clause-unbroken : goal.returns-clause-unbroken
returns-clause-unbroken c = λ ring run ok. unbroken run

pub returns-clause-senders_order : goal.returns-clause-senders_order
returns-clause-senders_order c = senders_order

pub returns-clause-earlier_first : goal.returns-clause-earlier_first
returns-clause-earlier_first c = earlier_first

pub returns-clause-commands : goal.returns-clause-commands
returns-clause-commands c = λ ring run ok. reserved_raws run

pub returns-clause-all : goal.returns-clause-all
returns-clause-all c = λ ring run ok. all_of_batches run

pub returns-clause-closed : goal.returns-clause-closed
returns-clause-closed c = λ ring run ok. (is_read run).closed

pub returns-clause-owners : goal.returns-clause-owners
returns-clause-owners c = have_owners
