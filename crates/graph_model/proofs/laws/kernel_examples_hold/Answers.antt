use Rattle.graph_model.proofs.KernelExampleLemmas.{searches, paths, components, labels, texts}
use Rattle.graph_model.proofs.laws.kernel_examples_hold.Goals as goal

pub returns-clause-searches : goal.returns-clause-searches
returns-clause-searches c = searches

pub returns-clause-paths : goal.returns-clause-paths
returns-clause-paths c = paths

pub returns-clause-components : goal.returns-clause-components
returns-clause-components c = components

pub returns-clause-labels : goal.returns-clause-labels
returns-clause-labels c = labels

pub returns-clause-text : goal.returns-clause-text
returns-clause-text c = texts
