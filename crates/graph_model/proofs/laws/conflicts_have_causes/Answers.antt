use Rattle.graph_model.proofs.ConflictLemmas.{conflict_none, none_conflicts, names_least, names_newest}
use Rattle.graph_model.proofs.laws.conflicts_have_causes.Goals as goal

pub returns-clause-none : goal.returns-clause-none
returns-clause-none c = λ kind journal txns by start w. (conflict_none kind journal txns by start w, none_conflicts kind journal txns by start w)

pub returns-clause-holder : goal.returns-clause-holder
returns-clause-holder c = names_least

pub returns-clause-later : goal.returns-clause-later
returns-clause-later c = names_newest
