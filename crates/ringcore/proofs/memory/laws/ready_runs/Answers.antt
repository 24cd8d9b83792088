use Rattle.ringcore.proofs.MemoryLemmas.FlagWords.{test}
use Rattle.ringcore.proofs.MemoryLemmas.ReadyRuns.{ready_in_is, one_run, fits_ring}
use Rattle.ringcore.proofs.memory.laws.ready_runs.Goals as goal

pub returns-clause-function : goal.returns-clause-function
returns-clause-function c = ready_in_is

pub returns-clause-one : goal.returns-clause-one
returns-clause-one c = one_run

pub returns-clause-within : goal.returns-clause-within
returns-clause-within c = fits_ring c.indexes_tell_place_and_wrap_bit.ensures.turns

pub returns-clause-test : goal.returns-clause-test
returns-clause-test c = λ ring run words is limit many. test ring run words is c.indexes_tell_place_and_wrap_bit.ensures.turns limit _ many (ready_in_is _ _ _ limit)
