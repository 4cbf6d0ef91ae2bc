use Rattle.std.proofs.Common.{length}
use Rattle.undo_chain.specs.Chains.{list_at}
use Rattle.undo_chain.specs.Walks.{IsStamped}
use Rattle.undo_chain.proofs.chains.Chains.stamp_records.Given as goal

abbrev pub invariant-stamp_all : goal.invariant-stamp_all
invariant-stamp_all l = IsStamped l.initial.self l.self l.by l.stamp l.initial.link l.link

abbrev pub decreases-stamp_all : goal.decreases-stamp_all
decreases-stamp_all l = length (list_at l.initial.self l.link)
