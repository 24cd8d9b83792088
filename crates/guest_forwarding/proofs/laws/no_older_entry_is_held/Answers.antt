use Rattle.guest_forwarding.proofs.LawLemmas.{no_older_entry_is_held}
use Rattle.guest_forwarding.proofs.laws.no_older_entry_is_held.Goals as goal

pub returns : goal.returns
returns c = no_older_entry_is_held
