use Rattle.std.proofs.Common.{List, All, sym, subst}
use Rattle.guest_commands.specs.declared.streams.Attachment.{Attachment}
use Rattle.guest_commands.specs.Configurations.{concerned, IsOwnEntry, AreConfigured}
use Rattle.guest_commands.proofs.ConfigurationLemmas.{own_entries, configured}
use Rattle.guest_commands.proofs.guest.Guest.configuration.Goals as goal

pub returns-clause-isolated : goal.returns-clause-isolated
returns-clause-isolated c =
    subst (λ (streams : List Attachment). All (IsOwnEntry c.args.self.now) (concerned c.args.command.now streams)) (sym c.streams.ensures.value) (own_entries c.args.self.now c.args.command.now)

pub returns-clause-complete : goal.returns-clause-complete
returns-clause-complete c =
    subst (λ (streams : List Attachment). AreConfigured c.args.self.now c.args.command.now (concerned c.args.command.now streams)) (sym c.streams.ensures.value)
    (configured c.args.self.now c.args.command.now)
