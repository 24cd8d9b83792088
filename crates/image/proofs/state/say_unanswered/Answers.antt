use Rattle.image.proofs.state.say_unanswered.Goals as goal

pub returns : goal.returns
returns c = rw c.or_none-streams.ensures at c.write.ensures.bytes
