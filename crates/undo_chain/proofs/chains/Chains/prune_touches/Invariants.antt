use Rattle.std.proofs.Common.{length}
use Rattle.undo_chain.specs.Records.{open_touches}
use Rattle.undo_chain.specs.Chains.{list_at}
use Rattle.undo_chain.specs.Walks.{IsSifted, IsAsked}
use Rattle.undo_chain.proofs.chains.Chains.prune_touches.Given as goal

abbrev pub invariant-sift : goal.invariant-sift
invariant-sift g l =
    IsSifted l.initial.self l.self (open_touches (g.S.States.knowledge l.initial.states).stamps l.horizon) l.initial.rest l.rest l.kept
    × IsAsked l.self (g.S.States.knowledge l.initial.states) (g.S.States.knowledge l.states) l.rest

abbrev pub decreases-sift : goal.decreases-sift
decreases-sift g l = length (list_at l.self l.rest)
