use Rattle.std.proofs.Common.{arith}
use Rattle.std.proofs.lemmas.List.Sums.{count_by-le-length}
use Rattle.transactions.specs.Outstanding.{is_outstanding}
use Rattle.transactions.proofs.outstanding.OutstandingTransactions.counts.Goals as goal

pub overflow_cast-result : goal.overflow_cast-result
overflow_cast-result c =
    let most = count_by-le-length is_outstanding c.self.inside.slots.items in
    let was = c.self.invariant.count_is in
    let few = c.self.invariant.few in
    omega (arith, most, was, few)
