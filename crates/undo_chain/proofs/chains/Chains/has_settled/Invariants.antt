use Rattle.std.proofs.Common.{length}
use Rattle.undo_chain.specs.Records.{is_settled}
use Rattle.undo_chain.specs.Chains.{list_at}
use Rattle.undo_chain.specs.Walks.{IsSearch, IsAsked}
use Rattle.undo_chain.proofs.chains.Chains.has_settled.Given as goal

abbrev pub invariant-find : goal.invariant-find
invariant-find g l =
    IsSearch l.self (is_settled (g.S.States.knowledge l.initial.states).stamps l.horizon) l.initial.link l.link
    × IsAsked l.self (g.S.States.knowledge l.initial.states) (g.S.States.knowledge l.states) l.link

abbrev pub decreases-find : goal.decreases-find
decreases-find g l = length (list_at l.self l.link)
