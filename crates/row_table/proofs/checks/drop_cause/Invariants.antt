use Rattle.std.proofs.Common.{length}
use Rattle.head_map.specs.UndoChain.Chains.{list_at}
use Rattle.row_table.specs.Walks.{IsDropWalk}
use Rattle.row_table.proofs.checks.drop_cause.Given as goal

abbrev pub invariant-ask : goal.invariant-ask
invariant-ask g l = IsDropWalk l.chains (g.S.States.knowledge l.initial.states) (g.S.States.knowledge l.states) l.snapshot l.initial.value l.initial.link l.value l.link l.cause

abbrev pub decreases-ask : goal.decreases-ask
decreases-ask g l = length (list_at l.chains l.link)
