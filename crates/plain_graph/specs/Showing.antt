-- A graph in ordered maps, by their entries.
use Rattle.std.specs.Prelude.{◌≡◌, ℕ}
use Rattle.std.specs.FinMap as fin_map
use Rattle.std.specs.BTreeMap.{BTreeMap}
use Rattle.graph_model.specs.declared.write.Write.{Write}
use Rattle.graph_model.specs.Graph.{Graph, apply}
use Rattle.plain_graph.specs.declared.graph.PlainGraph.{PlainGraph}

-- these are the arcs of the graph
abbrev pub HasArcs : BTreeMap (ℕ × ℕ) ℕ → Graph → Type 0
HasArcs arcs g = arcs.entries ≡ fin_map.entries g.arcs

-- these are its vertices and its arcs
pub record Shows (p : PlainGraph) (g : Graph) : Type 0 where
  pub vertices : p.vertices.entries ≡ fin_map.entries g.vertices
  pub arcs : HasArcs p.arcs g

-- the write was made: on whatever graph the maps showed
pub record Makes (old : PlainGraph) (w : Write) (new : PlainGraph) : Type 0 where
  pub shows : (g : Graph) → Shows old g → Shows new (apply old.kind g w)
  pub kind : new.kind ≡ old.kind
