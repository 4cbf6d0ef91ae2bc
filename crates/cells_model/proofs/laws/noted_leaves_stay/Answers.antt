use Rattle.cells_model.proofs.NoteLemmas.{notes_leaf, forgets_leaves, begins_noted, ends_noted, retires_leaves}
use Rattle.cells_model.proofs.laws.noted_leaves_stay.Goals as goal

pub returns-clause-notes : goal.returns-clause-notes
returns-clause-notes c = notes_leaf

pub returns-clause-forgets : goal.returns-clause-forgets
returns-clause-forgets c = forgets_leaves

pub returns-clause-begins : goal.returns-clause-begins
returns-clause-begins c = begins_noted

pub returns-clause-ends : goal.returns-clause-ends
returns-clause-ends c = ends_noted

pub returns-clause-retires : goal.returns-clause-retires
returns-clause-retires c = retires_leaves
