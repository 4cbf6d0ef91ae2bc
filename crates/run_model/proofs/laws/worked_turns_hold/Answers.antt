use Rattle.run_model.proofs.TurnExampleLemmas.{orders, turns, counts, places}
use Rattle.run_model.proofs.laws.worked_turns_hold.Goals as goal

pub returns-clause-order : goal.returns-clause-order
returns-clause-order c = orders

pub returns-clause-conflicts : goal.returns-clause-conflicts
returns-clause-conflicts c = turns

pub returns-clause-counts : goal.returns-clause-counts
returns-clause-counts c = counts

pub returns-clause-places : goal.returns-clause-places
returns-clause-places c = places
