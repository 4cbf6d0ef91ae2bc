use Rattle.graph_model.proofs.WalkLemmas.{root_length, root_weight, one_distance, one_least_weight, length_by_arc, weight_by_arc}
use Rattle.graph_model.proofs.PathLemmas.{no_walk_is_none}
use Rattle.graph_model.proofs.laws.least_walks_are_distances.Goals as goal

pub returns-clause-root : goal.returns-clause-root
returns-clause-root c = λ g root there. (root_length g root there, root_weight g root there)

pub returns-clause-one_length : goal.returns-clause-one_length
returns-clause-one_length c = one_distance

pub returns-clause-one_weight : goal.returns-clause-one_weight
returns-clause-one_weight c = one_least_weight

pub returns-clause-arc : goal.returns-clause-arc
returns-clause-arc c = length_by_arc

pub returns-clause-weight : goal.returns-clause-weight
returns-clause-weight c = weight_by_arc

pub returns-clause-none : goal.returns-clause-none
returns-clause-none c = no_walk_is_none
