use Rattle.graph_model.proofs.LabelLemmas.{label-alone, label-twice}
use Rattle.graph_model.proofs.laws.labels_follow_neighbours.Goals as goal

pub returns-clause-lonely : goal.returns-clause-lonely
returns-clause-lonely c = label-alone

pub returns-clause-twice : goal.returns-clause-twice
returns-clause-twice c = label-twice
