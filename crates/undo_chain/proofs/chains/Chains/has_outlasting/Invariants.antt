use Rattle.std.proofs.Common.{length}
use Rattle.undo_chain.specs.Records.{outlasts}
use Rattle.undo_chain.specs.Chains.{list_at}
use Rattle.undo_chain.specs.Walks.{IsSearch}
use Rattle.undo_chain.proofs.chains.Chains.has_outlasting.Given as goal

abbrev pub invariant-find : goal.invariant-find
invariant-find l = IsSearch l.self (outlasts l.by l.horizon) l.initial.link l.link

abbrev pub decreases-find : goal.decreases-find
decreases-find l = length (list_at l.self l.link)
