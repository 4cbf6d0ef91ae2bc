use Rattle.std.proofs.Common.{length}
use Rattle.undo_chain.specs.Records.{unsettled_front}
use Rattle.undo_chain.specs.Chains.{list_at}
use Rattle.undo_chain.specs.Walks.{IsSifted, IsAsked}
use Rattle.undo_chain.proofs.chains.Chains.prune.Given as goal

abbrev pub invariant-keep : goal.invariant-keep
invariant-keep g l =
    IsSifted l.initial.self l.self (unsettled_front (g.S.States.knowledge l.initial.states).stamps l.horizon) l.initial.rest l.rest l.kept
    × IsAsked l.self (g.S.States.knowledge l.initial.states) (g.S.States.knowledge l.states) l.rest

abbrev pub decreases-keep : goal.decreases-keep
decreases-keep g l = length (list_at l.self l.rest)
