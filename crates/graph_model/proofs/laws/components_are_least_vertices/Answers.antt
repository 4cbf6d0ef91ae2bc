use Rattle.graph_model.proofs.ComponentLemmas.{component_below, one_component, component_of_arc, component_of_least}
use Rattle.graph_model.proofs.laws.components_are_least_vertices.Goals as goal

pub returns-clause-below : goal.returns-clause-below
returns-clause-below c = component_below

pub returns-clause-one : goal.returns-clause-one
returns-clause-one c = one_component

pub returns-clause-arc : goal.returns-clause-arc
returns-clause-arc c = component_of_arc

pub returns-clause-least : goal.returns-clause-least
returns-clause-least c = component_of_least
