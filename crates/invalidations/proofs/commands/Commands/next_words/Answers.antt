use Rattle.std.proofs.Common.{◌≡◌, ◌∷◌, Some, subst}
use Rattle.invalidations.specs.Plans.{Plan, commands_of}
use Rattle.invalidations.proofs.WholeLemmas.{whole_words}
use Rattle.invalidations.specs.Hints.{AreNextWords}
use Rattle.invalidations.proofs.PlanLemmas.{by_address_words}
use Rattle.invalidations.proofs.commands.Commands.next_words.Goals as goal

pub returns-in-Some-clause-words : goal.returns-in-Some-clause-words
returns-in-Some-clause-words c =
    let old : Plan = record { request = c.self.inside.by_address; whole = c.self.inside.whole } in
    let new : Plan = record { request = c.next_words.new.self; whole = c.self.inside.whole } in
    subst (λ plan. AreNextWords plan (Some c.in-Some.raw) new) c.self.view_is
    (by_address_words old c.in-Some.raw c.next_words.new.self c.in-Some.ensures.words)

pub returns-in-Some-take_whole-clause-words : goal.returns-in-Some-take_whole-clause-words
returns-in-Some-take_whole-clause-words c =
    let command = c.in-Some-take_whole.command in
    let new = c.take_whole.new.self in
    let next : commands_of (record { request = c.self.inside.by_address; whole = c.self.inside.whole }) ≡ command ∷ commands_of new =
    subst (λ request. commands_of (record { request = request; whole = c.self.inside.whole }) ≡ command ∷ commands_of new)
    c.in-None.ensures.words.1 c.in-Some-take_whole.ensures.commands in (
      command,
      subst (λ plan. commands_of plan ≡ command ∷ commands_of new) c.self.view_is next,
      whole_words c.args.self.now.request.target command c.encode.result c.in-Some-take_whole.ensures.whole
          c.encode.ensures.spells c.encode.ensures.free_bits c.encode.ensures.decoded_again c.encode.ensures.words,
    )
