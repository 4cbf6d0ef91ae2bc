use Rattle.std.proofs.Common.{length}
use Rattle.shared_store.proofs.transactions.clear.Given as goal

abbrev pub decreases-items : goal.decreases-items
decreases-items l = length l.list.items
