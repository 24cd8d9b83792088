use Rattle.ringcore.proofs.WorldLemmas.Starts.{starts_there}
use Rattle.ringcore.proofs.MemoryLemmas.SenderTrail.{length_of_commands, have_their_slots, are_apart}
use Rattle.ringcore.proofs.MemoryLemmas.TwoFlagWords.{tell_shared_words, two_flag_words}
use Rattle.ringcore.proofs.memory.laws.sender_trail.Goals as goal

pub returns-clause-length : goal.returns-clause-length
returns-clause-length c = length_of_commands

pub returns-clause-start : goal.returns-clause-start
returns-clause-start c = starts_there

pub returns-clause-slots : goal.returns-clause-slots
returns-clause-slots c = have_their_slots

pub returns-clause-apart : goal.returns-clause-apart
returns-clause-apart c = are_apart

pub returns-clause-shared_words : goal.returns-clause-shared_words
returns-clause-shared_words c = tell_shared_words c.indexes_tell_place_and_wrap_bit.ensures.alike

pub returns-clause-flag_words : goal.returns-clause-flag_words
returns-clause-flag_words c = two_flag_words
