use Rattle.std.proofs.Common.{◌≤◌, length, not, rules, refl, arith, List}
use Rattle.std.proofs.lemmas.List.Filters.{length-filter_both}
use Rattle.caches.specs.declared.tag.Tag.TheVariants.{Ste}
use Rattle.caches.specs.Covers.{covers}
use Rattle.guest_commands.specs.declared.streams.Attachment.{Attachment}
use Rattle.guest_commands.specs.Configurations.{concerned}
use Rattle.cmdcodec.specs.declared.command.Command.{Command}
use Rattle.smmuq_c.proofs.guest_calls.how_many.Goals as goal

no_more : (command : Command) (streams : List Attachment) → length (concerned command streams) ≤ length streams
no_more command streams =
    let both = length-filter_both (λ (stream : Attachment). covers command (Ste stream.sid)) (λ stream. not (covers command (Ste stream.sid))) (λ stream. refl) streams in
    omega (arith, both)

pub streams-init : goal.streams-init
streams-init c = let few = no_more c.args.command.now c.args.guest.now.streams in search (rules, few)
