use Rattle.std.proofs.Common.{refl, ◌∙◌, arith}
use Rattle.std.proofs.lemmas.List.{length-set}
use Rattle.smmuq_c.proofs.Writing.{begun, stepped, ended, room}
use Rattle.smmuq_c.proofs.invalidation.write_words.Goals as goal

pub commands-init : goal.commands-init
commands-init c = (begun c.args.rest c.args.buffer.now, refl)

pub bounds-buffer-place : goal.bounds-buffer-place
bounds-buffer-place c =
    let inside = room c.commands.invariant.0 c.next_words.new.self c.in-Some.raw c.in-Some.ensures.words c.requires in
    let long = c.commands.invariant.1 in
    omega (arith, inside, long)

pub commands-preserved : goal.commands-preserved
commands-preserved c = (stepped c.commands.invariant.0 c.next_words.new.self c.in-Some.raw c.in-Some.ensures.words c.in-Some.ensures.target c.requires, length-set c.commands.buffer c.commands.place c.in-Some.raw ∙ c.commands.invariant.1)

pub returns : goal.returns
returns c = ended c.commands.invariant.0 c.in_default.ensures.words
