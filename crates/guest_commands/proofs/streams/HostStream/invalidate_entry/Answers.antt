use Rattle.guest_commands.proofs.ConfigurationLemmas.{ste_legal}
use Rattle.guest_commands.proofs.streams.HostStream.invalidate_entry.Goals as goal

pub returns-clause-legal : goal.returns-clause-legal
returns-clause-legal c smmu = ste_legal c.legal_words_spell_one_command.ensures.legal smmu c.args.self.sid c.encode.result c.encode.ensures.spells
