-- What a store takes at once.
use Rattle.std.specs.List.{AllByRecursion}
use Rattle.graph_model.specs.declared.write.Kind.TheVariants.{Undirected}
use Rattle.graph_model.specs.Graph.{empty_graph}
use Rattle.graph_model.specs.Refused.{AllAllowed, IsWithinLimits}
use Rattle.graphalytics_io.specs.Load.{load_of}
use Rattle.bench_graphs.specs.declared.graph.Graph.{Graph}

-- the writes that add the graph's vertices and edges are allowed one behind the other
pub record IsLoadableGraph (graph : Graph) : Type 0 where
  pub allowed : AllAllowed Undirected empty_graph (load_of graph.ids graph.edges)
  pub within : AllByRecursion IsWithinLimits (load_of graph.ids graph.edges)
