use Rattle.std.proofs.Common.{length}
use Rattle.undo_chain.specs.Chains.{list_at}
use Rattle.undo_chain.specs.Walks.{IsMoved}
use Rattle.undo_chain.proofs.chains.Chains.move_to.Given as goal

abbrev pub invariant-move_all : goal.invariant-move_all
invariant-move_all l = IsMoved l.initial.self l.self l.initial.to l.to l.initial.rest l.rest l.moved

abbrev pub decreases-move_all : goal.decreases-move_all
decreases-move_all l = length (list_at l.self l.rest)
