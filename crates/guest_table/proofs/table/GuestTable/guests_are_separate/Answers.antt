use Rattle.std.proofs.Common.{subst, AllPairs}
use Rattle.guest_commands.specs.Laws.{AreSeparate}
use Rattle.guest_table.specs.Tables.{Table}
use Rattle.guest_table.proofs.SeparateLemmas.{of_one}
use Rattle.guest_table.proofs.table.GuestTable.guests_are_separate.Goals as goal

pub returns-clause-separate : goal.returns-clause-separate
returns-clause-separate c = subst (λ (t : Table). AllPairs AreSeparate t.guests) c.self.view_is c.self.invariant.separate

pub returns-clause-entries : goal.returns-clause-entries
returns-clause-entries c =
    of_one c.args.self.now c.entries_are_of_one_guest.ensures (subst (λ (t : Table). AllPairs AreSeparate t.guests) c.self.view_is c.self.invariant.separate)
