use Rattle.std.proofs.Common.{refl, sym, ap, ◌∙◌}
use Rattle.guest_commands.specs.Conversions.{stop_in}
use Rattle.guest_commands.proofs.BatchLemmas.{put}
use Rattle.guest_commands.proofs.guest.Guest.put.Goals as goal

pub returns-then-append : goal.returns-then-append
returns-then-append c =
    put c.legal_words_spell_one_command.ensures.decoded c.args.self.now c.args.raw c.in-Ok.hinted.0 c.in-Ok.hinted.1 c.args.body.now.items c.append.new.body.items c.in-Ok.ensures.found
    (sym c.of.ensures ∙ c.in_default.is) c.if-append.ensures

pub returns-in-Err : goal.returns-in-Err
returns-in-Err c = (refl, ap stop_in (c.legal_words_spell_one_command.ensures.faults c.args.raw c.in-Err.ill c.in-Err.ensures.first))
