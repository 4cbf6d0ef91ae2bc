use Rattle.std.proofs.Common.{length}
use Rattle.undo_chain.specs.Records.{without_touch}
use Rattle.undo_chain.specs.Chains.{list_at}
use Rattle.undo_chain.specs.Walks.{IsSifted}
use Rattle.undo_chain.proofs.chains.Chains.untouch.Given as goal

abbrev pub invariant-sift : goal.invariant-sift
invariant-sift l = IsSifted l.initial.self l.self (without_touch l.by) l.initial.rest l.rest l.kept

abbrev pub decreases-sift : goal.decreases-sift
decreases-sift l = length (list_at l.self l.rest)
