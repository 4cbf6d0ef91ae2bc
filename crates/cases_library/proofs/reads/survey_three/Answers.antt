use Rattle.std.proofs.Common.{subst, sym}
use Rattle.std.specs.List.{AllByRecursion}
use Rattle.graph_model.specs.declared.write.Kind.TheVariants.{Directed}
use Rattle.graph_model.specs.Graph.{empty_graph}
use Rattle.graph_model.specs.Loading.{IsAdd}
use Rattle.graph_model.specs.Refused.{AllAllowed, IsWithinLimits}
use Rattle.cases_library.proofs.LoadLemmas.{three_add, three_allowed, three_within}
use Rattle.cases_library.proofs.reads.survey_three.Goals as goal

pub load-requires-clause-adds : goal.load-requires-clause-adds
load-requires-clause-adds g c = subst (AllByRecursion IsAdd) (sym c.in_ok-graph.ensures) three_add

pub load-requires-clause-allowed : goal.load-requires-clause-allowed
load-requires-clause-allowed g c =
    subst (AllAllowed Directed empty_graph) (sym c.in_ok-graph.ensures) three_allowed

pub load-requires-clause-within : goal.load-requires-clause-within
load-requires-clause-within g c =
    subst (AllByRecursion IsWithinLimits) (sym c.in_ok-graph.ensures) three_within
