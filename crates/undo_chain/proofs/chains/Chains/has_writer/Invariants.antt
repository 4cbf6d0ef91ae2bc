use Rattle.std.proofs.Common.{length}
use Rattle.graph_model.specs.Conflict.{same_name}
use Rattle.undo_chain.specs.Chains.{list_at}
use Rattle.undo_chain.specs.Walks.{IsSearch}
use Rattle.undo_chain.proofs.chains.Chains.has_writer.Given as goal

abbrev pub invariant-find : goal.invariant-find
invariant-find l = IsSearch l.self (λ u. same_name u.by l.by) l.initial.link l.link

abbrev pub decreases-find : goal.decreases-find
decreases-find l = length (list_at l.self l.link)
