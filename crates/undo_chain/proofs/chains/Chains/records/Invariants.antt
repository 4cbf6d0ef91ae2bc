use Rattle.undo_chain.specs.Walks.{IsCount}
use Rattle.undo_chain.proofs.chains.Chains.records.Given as goal

abbrev pub invariant-count : goal.invariant-count
invariant-count l = IsCount l.self l.initial.link l.link l.count
