use Rattle.graph_model.proofs.WalkLemmas.{walk_reaches, walk_reaches_by, walk_within, reaches_walk, reaches_by_walk, within_walk}
use Rattle.graph_model.proofs.laws.walks_have_their_forms.Goals as goal

pub returns-clause-forms : goal.returns-clause-forms
returns-clause-forms c = λ g a b vs w. (walk_reaches g a b vs w, walk_reaches_by g a b vs w, walk_within g a b vs w)

pub returns-clause-reaches : goal.returns-clause-reaches
returns-clause-reaches c = reaches_walk

pub returns-clause-weighs : goal.returns-clause-weighs
returns-clause-weighs c = reaches_by_walk

pub returns-clause-within : goal.returns-clause-within
returns-clause-within c = within_walk
