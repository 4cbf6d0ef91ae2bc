use Rattle.std.proofs.Common.{◌≡◌, length}
use Rattle.undo_chain.specs.Records.{upside_down}
use Rattle.undo_chain.specs.Chains.{list_at, ChangesTwoLists}
use Rattle.undo_chain.proofs.chains.Chains.pour.Given as goal

abbrev pub invariant-hand : goal.invariant-hand
invariant-hand l = ChangesTwoLists l.initial.self l.self l.initial.from l.initial.onto l.from l.onto
    × (upside_down (list_at l.self l.from) (list_at l.self l.onto) ≡ upside_down (list_at l.initial.self l.initial.from) (list_at l.initial.self l.initial.onto))
    × (l.self.spare ≡ l.initial.self.spare)

abbrev pub decreases-hand : goal.decreases-hand
decreases-hand l = length (list_at l.self l.from)
