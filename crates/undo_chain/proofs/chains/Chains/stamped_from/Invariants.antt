use Rattle.std.proofs.Common.{length}
use Rattle.undo_chain.specs.Chains.{list_at}
use Rattle.undo_chain.specs.Walks.{IsStampedTo}
use Rattle.undo_chain.proofs.chains.Chains.stamped_from.Given as goal

abbrev pub invariant-look : goal.invariant-look
invariant-look l = IsStampedTo l.self l.from l.link

abbrev pub decreases-look : goal.decreases-look
decreases-look l = length (list_at l.self l.link)
