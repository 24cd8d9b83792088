use Rattle.ring.proofs.TableLemmas.OneRun.{is_one_run}
use Rattle.ring.proofs.TableLemmas.OneWords.{words_are_one}
use Rattle.ring.proofs.table.rule.run_is_one.Goals as goal

pub returns-clause-one : goal.returns-clause-one
returns-clause-one c = is_one_run

pub returns-clause-words : goal.returns-clause-words
returns-clause-words c ring s holds = holds.made

pub returns-clause-one_list : goal.returns-clause-one_list
returns-clause-one_list c = words_are_one
