-- Worked examples of the kernels: their tables on small graphs, reckoned by hand.
use Rattle.std.specs.Prelude.{◌≡◌, ℕ, [], ◌∷◌, codes}
use Rattle.graph_model.specs.declared.write.Kind.TheVariants.{Directed, Undirected}
use Rattle.graph_model.specs.declared.table.Value.TheVariants.{Number, Infinity}
use Rattle.graph_model.specs.declared.table.Entry.{Entry}
use Rattle.graph_model.specs.Labels.{most_frequent}
use Rattle.graph_model.specs.Tables.{IsBfs, IsSssp, IsWcc, IsCdlp}
use Rattle.graph_model.specs.TableText.{table_text}
use Rattle.graph_model.specs.Examples.{load_graph, arrows, detour}

-- a line with a number
abbrev pub entry : ℕ → ℕ → Entry
entry v n = record { vertex = v; value = Number n }

-- the line of a vertex that no walk leads to
abbrev pub no_walk_to : ℕ → Entry
no_walk_to v = record { vertex = v; value = Infinity }

-- breadth-first search
pub record SearchExamples : Type 0 where
  -- no walk leads to vertex 4
  pub undirected : IsBfs load_graph 1 (entry 1 0 ∷ entry 2 1 ∷ entry 3 2 ∷ entry 4 9223372036854775807 ∷ [])
  pub directed : IsBfs arrows 2 (entry 1 1 ∷ entry 2 0 ∷ entry 3 2 ∷ [])
  -- the arc to vertex 1 isn't taken back to vertex 2
  pub one_way : IsBfs arrows 1 (entry 1 0 ∷ entry 2 9223372036854775807 ∷ entry 3 1 ∷ [])

-- shortest paths
pub record PathExamples : Type 0 where
  -- the way of two arcs is lighter, though the search takes the one arc
  pub lighter_way : IsSssp detour 1 (entry 1 0 ∷ entry 2 7 ∷ entry 3 3 ∷ no_walk_to 4 ∷ [])
  pub fewest_arcs : IsBfs detour 1 (entry 1 0 ∷ entry 2 1 ∷ entry 3 1 ∷ entry 4 9223372036854775807 ∷ [])

-- weakly connected components
pub record ComponentExamples : Type 0 where
  pub undirected : IsWcc load_graph (entry 1 1 ∷ entry 2 1 ∷ entry 3 1 ∷ entry 4 4 ∷ [])
  -- arcs are taken against their direction as well
  pub directed : IsWcc detour (entry 1 1 ∷ entry 2 1 ∷ entry 3 1 ∷ entry 4 1 ∷ [])

-- community labels
pub record LabelExamples : Type 0 where
  -- on a tie the least
  pub tie : most_frequent 9 (3 ∷ 2 ∷ 3 ∷ 2 ∷ []) ≡ 2
  pub most : most_frequent 1 (3 ∷ 2 ∷ 3 ∷ []) ≡ 3
  pub alone : most_frequent 7 [] ≡ 7
  pub no_round : IsCdlp Undirected load_graph 0 (entry 1 1 ∷ entry 2 2 ∷ entry 3 3 ∷ entry 4 4 ∷ [])
  pub first_round : IsCdlp Undirected load_graph 1 (entry 1 2 ∷ entry 2 1 ∷ entry 3 2 ∷ entry 4 4 ∷ [])
  pub second_round : IsCdlp Undirected load_graph 2 (entry 1 1 ∷ entry 2 2 ∷ entry 3 1 ∷ entry 4 4 ∷ [])
  -- vertex 1 meets the label 3 twice, once for each direction, and the label 2 once
  pub both_directions : IsCdlp Directed arrows 1 (entry 1 3 ∷ entry 2 1 ∷ entry 3 1 ∷ [])
  pub both_directions_again : IsCdlp Directed arrows 2 (entry 1 1 ∷ entry 2 3 ∷ entry 3 3 ∷ [])

-- the text of a table
pub record TextExamples : Type 0 where
  pub text : table_text (entry 1 0 ∷ entry 2 15 ∷ no_walk_to 4 ∷ []) ≡ codes "1 0\n2 15\n4 infinity\n"
  pub none : table_text [] ≡ []
