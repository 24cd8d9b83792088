use Rattle.progress.proofs.Held.{holders_are_open, only_one, are_held, has_a_name, held_since_a_look, tests_find}
use Rattle.progress.proofs.Holding.{only_the_holder}
use Rattle.progress.proofs.laws.waiting_law.Goals as goal

pub returns-clause-unsettled : goal.returns-clause-unsettled
returns-clause-unsettled c = holders_are_open

pub returns-clause-one : goal.returns-clause-one
returns-clause-one c = only_one

pub returns-clause-held : goal.returns-clause-held
returns-clause-held c = are_held

pub returns-clause-name : goal.returns-clause-name
returns-clause-name c = has_a_name

pub returns-clause-some : goal.returns-clause-some
returns-clause-some c = tests_find

pub returns-clause-since : goal.returns-clause-since
returns-clause-since c = held_since_a_look

pub returns-clause-only : goal.returns-clause-only
returns-clause-only c = only_the_holder
