use Rattle.std.proofs.Common.{length}
use Rattle.undo_chain.specs.Chains.{list_at}
use Rattle.undo_chain.specs.Walks.{IsRead}
use Rattle.undo_chain.proofs.chains.Chains.value_at.Given as goal

abbrev pub invariant-read : goal.invariant-read
invariant-read g l = IsRead l.self (g.S.States.knowledge l.initial.states) (g.S.States.knowledge l.states) l.snapshot l.initial.value l.initial.link l.value l.link

abbrev pub decreases-read : goal.decreases-read
decreases-read g l = length (list_at l.self l.link)
