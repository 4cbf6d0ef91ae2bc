use Rattle.std.specs.List.{AllByRecursion}
use Rattle.graph_model.specs.declared.write.Kind.TheVariants.{Undirected}
use Rattle.graph_model.specs.Graph.{empty_graph}
use Rattle.graph_model.specs.Loading.{IsAdd}
use Rattle.graph_model.specs.Refused.{AllAllowed, IsWithinLimits}
use Rattle.bench_graphs.proofs.LoadLemmas.{load_adds, of_same}
use Rattle.bench_graphs.proofs.graph.Graph.load.Goals as goal

pub returns-clause-adds : goal.returns-clause-adds
returns-clause-adds c =
    of_same (AllByRecursion IsAdd) c.writes_of.result _ c.writes_of.ensures
    (load_adds c.args.self.now.ids c.args.self.now.edges)

pub returns-clause-allowed : goal.returns-clause-allowed
returns-clause-allowed c =
    of_same (AllAllowed Undirected empty_graph) c.writes_of.result _ c.writes_of.ensures c.requires.allowed

pub returns-clause-within : goal.returns-clause-within
returns-clause-within c =
    of_same (AllByRecursion IsWithinLimits) c.writes_of.result _ c.writes_of.ensures c.requires.within
