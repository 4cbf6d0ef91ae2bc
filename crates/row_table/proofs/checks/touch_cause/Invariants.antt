use Rattle.std.proofs.Common.{length}
use Rattle.head_map.specs.UndoChain.Chains.{list_at}
use Rattle.row_table.specs.Walks.{IsTouchWalk}
use Rattle.row_table.proofs.checks.touch_cause.Given as goal

abbrev pub invariant-ask_all : goal.invariant-ask_all
invariant-ask_all g l = IsTouchWalk l.chains (g.S.States.knowledge l.initial.states) (g.S.States.knowledge l.states) l.snapshot l.initial.link l.link l.cause

abbrev pub decreases-ask_all : goal.decreases-ask_all
decreases-ask_all g l = length (list_at l.chains l.link)
