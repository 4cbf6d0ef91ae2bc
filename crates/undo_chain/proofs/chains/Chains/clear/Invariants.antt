use Rattle.std.proofs.Common.{◌≡◌, ◌+◌, length}
use Rattle.undo_chain.specs.Chains.{list_at, ChangesOneList}
use Rattle.undo_chain.proofs.chains.Chains.clear.Given as goal

abbrev pub invariant-drop_all : goal.invariant-drop_all
invariant-drop_all l = ChangesOneList l.initial.self l.self l.initial.rest l.rest
    × (l.self.spare + length (list_at l.self l.rest) ≡ l.initial.self.spare + length (list_at l.initial.self l.initial.rest))

abbrev pub decreases-drop_all : goal.decreases-drop_all
decreases-drop_all l = length (list_at l.self l.rest)
