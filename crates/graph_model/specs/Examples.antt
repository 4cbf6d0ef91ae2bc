-- Worked examples of writes and of rows, on small graphs and reckoned by hand.
use Rattle.std.specs.Prelude.{◌≡◌, true, false, List, [], ◌∷◌, Some, None}
use Rattle.std.specs.List.{AllByRecursion}
use Rattle.graph_model.specs.declared.write.Kind.TheVariants.{Directed, Undirected}
use Rattle.graph_model.specs.declared.write.Write.{Write}
use Rattle.graph_model.specs.declared.write.Write.TheVariants.{AddVertex, DropVertex, AddEdge, SetEdge, DropEdge}
use Rattle.graph_model.specs.declared.refusal.Refusal.TheVariants.{SelfLoop, NoVertex, VertexExists, EdgeExists, NoEdge, HasEdges}
use Rattle.graph_model.specs.declared.row.Cursor.{Cursor}
use Rattle.graph_model.specs.Items.{clash}
use Rattle.graph_model.specs.Graph.{Graph, empty_graph, has_vertex, vertices_of, weight_of, apply, apply_all, HasBothEnds, IsSymmetric, HasNoLoops, IsBounded}
use Rattle.graph_model.specs.Refused.{refused, AllAllowed, IsWithinLimits}
use Rattle.graph_model.specs.Effects.{any_writes, any_touches}
use Rattle.graph_model.specs.Inserted.{inserted, inserts}
use Rattle.graph_model.specs.Scans.{ScansBy}
use Rattle.graph_model.specs.Rows.{vertex_key, arc_key, first_key, end_key, is_between, rows, all_rows, AreRowsOf}

-- vertices 1 to 4, and undirected edges from 1 to 2 and from 2 to 3
abbrev pub load : List Write
load = AddVertex 1 ∷ AddVertex 2 ∷ AddVertex 3 ∷ AddVertex 4 ∷ AddEdge 1 2 1 ∷ AddEdge 2 3 1 ∷ []

-- what the load makes of the empty graph
abbrev pub load_graph : Graph
load_graph = apply_all Undirected empty_graph load

-- arcs from 3 to 1, from 1 to 3 and from 2 to 1
abbrev pub arrows : Graph
arrows = apply_all Directed empty_graph
    (AddVertex 1 ∷ AddVertex 2 ∷ AddVertex 3 ∷ AddEdge 3 1 1 ∷ AddEdge 1 3 1 ∷ AddEdge 2 1 1 ∷ [])

-- the arc from 1 to 2 is heavier than the way over 3, and no arc leads to 4
abbrev pub detour : Graph
detour = apply_all Directed empty_graph
    (AddVertex 1 ∷ AddVertex 2 ∷ AddVertex 3 ∷ AddVertex 4
    ∷ AddEdge 1 2 10 ∷ AddEdge 1 3 3 ∷ AddEdge 3 2 4 ∷ AddEdge 4 1 1 ∷ [])

-- an arc to what is no vertex
abbrev pub no_target : Graph
no_target = apply_all Directed empty_graph (AddVertex 1 ∷ AddEdge 1 2 1 ∷ [])

-- a vertex above the greatest id
abbrev pub great_id : Graph
great_id = apply Directed empty_graph (AddVertex 9223372036854775807)

-- which writes have one writer at most
pub record ClashExamples : Type 0 where
  pub either_way : clash Undirected (AddEdge 1 2 1) (SetEdge 2 1 9) ≡ true
  pub with_direction : clash Directed (AddEdge 1 2 1) (SetEdge 2 1 9) ≡ false
  pub common_end : clash Undirected (AddEdge 1 4 1) (AddEdge 2 4 1) ≡ false
  pub added_again : clash Directed (DropVertex 4) (AddVertex 4) ≡ true
  pub other_vertex : clash Directed (DropVertex 4) (AddVertex 5) ≡ false
  -- a removed vertex cuts off the edges that are added at it, and no others
  pub cut_off : clash Undirected (DropVertex 4) (AddEdge 1 4 1) ≡ true
  pub cut_off_at_its_source : clash Directed (DropVertex 4) (AddEdge 4 1 1) ≡ true
  pub cut_off_by : clash Undirected (AddEdge 1 4 1) (DropVertex 4) ≡ true
  pub elsewhere : clash Undirected (DropVertex 4) (AddEdge 1 2 1) ≡ false
  pub not_set : clash Undirected (DropVertex 4) (SetEdge 1 4 1) ≡ false
  pub not_dropped : clash Undirected (DropVertex 4) (DropEdge 1 4) ≡ false
  pub not_by_an_added_end : clash Undirected (AddVertex 1) (AddEdge 1 4 1) ≡ false

-- why a graph refuses a write
pub record RefusalExamples : Type 0 where
  -- a self loop comes before a missing vertex
  pub loop_first : refused empty_graph (AddEdge 9 9 1) ≡ Some SelfLoop
  pub loop_to_set : refused load_graph (SetEdge 2 2 1) ≡ Some SelfLoop
  pub loop_to_drop : refused load_graph (DropEdge 2 2) ≡ Some SelfLoop
  -- of two missing ends the first is named
  pub both_ends_missing : refused load_graph (AddEdge 8 9 1) ≡ Some (NoVertex 8)
  pub source_missing : refused load_graph (AddEdge 8 1 1) ≡ Some (NoVertex 8)
  pub target_missing : refused load_graph (AddEdge 1 9 1) ≡ Some (NoVertex 9)
  pub target_to_set_missing : refused load_graph (SetEdge 1 9 1) ≡ Some (NoVertex 9)
  pub source_to_drop_missing : refused load_graph (DropEdge 9 1) ≡ Some (NoVertex 9)
  pub edge_exists : refused load_graph (AddEdge 2 1 1) ≡ Some EdgeExists
  pub no_edge_to_set : refused load_graph (SetEdge 1 3 5) ≡ Some NoEdge
  pub no_edge_to_drop : refused load_graph (DropEdge 1 3) ≡ Some NoEdge
  pub vertex_exists : refused load_graph (AddVertex 4) ≡ Some VertexExists
  pub no_vertex : refused load_graph (DropVertex 9) ≡ Some (NoVertex 9)
  pub has_edges : refused load_graph (DropVertex 1) ≡ Some HasEdges
  -- an arc counts at both of its ends
  pub has_an_arc_out : refused detour (DropVertex 4) ≡ Some HasEdges
  pub has_an_arc_in : refused detour (DropVertex 2) ≡ Some HasEdges
  pub edge_allowed : refused load_graph (AddEdge 3 4 7) ≡ None
  pub set_allowed : refused load_graph (SetEdge 3 2 7) ≡ None
  pub drop_allowed : refused load_graph (DropEdge 3 2) ≡ None
  pub vertex_allowed : refused load_graph (AddVertex 5) ≡ None
  pub lone_vertex_goes : refused load_graph (DropVertex 4) ≡ None
  -- the other direction is another edge where edges have one
  pub other_direction : refused arrows (AddEdge 1 2 1) ≡ None
  pub no_other_direction : refused arrows (SetEdge 1 2 1) ≡ Some NoEdge

-- a write is judged behind those before it
pub record AllowedExamples : Type 0 where
  pub behind_its_own : AllAllowed Undirected load_graph (DropVertex 4 ∷ AddVertex 4 ∷ [])
  pub behind_its_edges : AllAllowed Undirected load_graph (DropEdge 2 1 ∷ DropVertex 1 ∷ [])
  pub not_twice : AllAllowed Undirected load_graph (DropVertex 4 ∷ DropVertex 4 ∷ []) → ⊥
  pub not_the_first : AllAllowed Undirected load_graph (AddVertex 4 ∷ AddVertex 5 ∷ []) → ⊥
  pub not_the_last : AllAllowed Undirected load_graph (AddVertex 5 ∷ AddVertex 4 ∷ []) → ⊥

-- the greatest ids and weights, and one more
pub record LimitExamples : Type 0 where
  pub at_most : AllByRecursion IsWithinLimits
      (AddVertex 9223372036854775806 ∷ DropVertex 9223372036854775806
      ∷ AddEdge 9223372036854775806 9223372036854775806 4294967295
      ∷ SetEdge 9223372036854775806 9223372036854775806 4294967295
      ∷ DropEdge 9223372036854775806 9223372036854775806 ∷ [])
  pub no_more : AllByRecursion (λ w. IsWithinLimits w → ⊥)
      (AddVertex 9223372036854775807 ∷ DropVertex 9223372036854775807
      ∷ AddEdge 9223372036854775807 1 1 ∷ AddEdge 1 9223372036854775807 1 ∷ AddEdge 1 2 4294967296
      ∷ SetEdge 9223372036854775807 1 1 ∷ SetEdge 1 9223372036854775807 1 ∷ SetEdge 1 2 4294967296
      ∷ DropEdge 9223372036854775807 1 ∷ DropEdge 1 9223372036854775807 ∷ [])

-- what each write makes of a graph
pub record EffectExamples : Type 0 where
  pub vertex_added : has_vertex (apply Undirected load_graph (AddVertex 5)) 5 ≡ true
  pub not_there_before : has_vertex load_graph 5 ≡ false
  pub vertex_removed : has_vertex (apply Undirected load_graph (DropVertex 4)) 4 ≡ false
  pub others_stay : has_vertex (apply Undirected load_graph (DropVertex 4)) 3 ≡ true
  -- an edge without direction goes both ways
  pub edge_added : weight_of (apply Undirected load_graph (AddEdge 1 4 7)) 4 1 ≡ Some 7
  pub edge_set : weight_of (apply Undirected load_graph (SetEdge 1 2 7)) 2 1 ≡ Some 7
  pub edge_dropped : weight_of (apply Undirected load_graph (DropEdge 1 2)) 2 1 ≡ None
  pub other_edges_stay : weight_of (apply Undirected load_graph (DropEdge 1 2)) 2 3 ≡ Some 1
  -- and one with a direction goes one way
  pub arc_added : weight_of (apply Directed arrows (AddEdge 3 2 7)) 3 2 ≡ Some 7
  pub not_back : weight_of (apply Directed arrows (AddEdge 3 2 7)) 2 3 ≡ None
  pub arc_dropped : weight_of (apply Directed arrows (DropEdge 1 3)) 1 3 ≡ None
  pub way_back_stays : weight_of (apply Directed arrows (DropEdge 1 3)) 3 1 ≡ Some 1

-- a vertex, and an edge to it
abbrev pub new_end : List Write
new_end = AddVertex 5 ∷ AddEdge 1 5 7 ∷ []

-- which rows writes write, and which they need and leave as they are
pub record TouchExamples : Type 0 where
  pub vertex_written : any_writes Undirected new_end (vertex_key 5) ≡ true
  pub way_back_written : any_writes Undirected new_end (arc_key 5 1) ≡ true
  pub not_back : any_writes Directed new_end (arc_key 5 1) ≡ false
  pub end_not_written : any_writes Undirected new_end (vertex_key 1) ≡ false
  -- an added edge touches both of its ends, and nothing else
  pub source_touched : any_touches new_end (vertex_key 1) ≡ true
  pub target_touched : any_touches new_end (vertex_key 5) ≡ true
  pub other_vertex_not_touched : any_touches new_end (vertex_key 2) ≡ false
  pub arc_not_touched : any_touches new_end (arc_key 1 5) ≡ false

-- what sound graphs have, and graphs that lack it
pub record SoundExamples : Type 0 where
  pub ends : HasBothEnds load_graph
  pub source_missing : HasBothEnds (apply_all Directed empty_graph (AddVertex 2 ∷ AddEdge 1 2 1 ∷ [])) → ⊥
  pub target_missing : HasBothEnds no_target → ⊥
  pub symmetric : IsSymmetric load_graph
  pub one_way : IsSymmetric arrows → ⊥
  pub two_weights : IsSymmetric (apply_all Directed empty_graph (AddEdge 1 2 1 ∷ AddEdge 2 1 2 ∷ [])) → ⊥
  pub loop : HasNoLoops (apply Directed empty_graph (AddEdge 1 1 1)) → ⊥
  pub id_too_great : IsBounded great_id → ⊥
  pub weight_too_great : IsBounded (apply Directed empty_graph (AddEdge 1 2 4294967296)) → ⊥

-- an undirected edge is two rows, and a write that adds nothing is none
pub record CountExamples : Type 0 where
  pub undirected : inserted Undirected load ≡ 8
  pub directed : inserted Directed load ≡ 6
  pub nothing : inserted Undirected (SetEdge 1 2 9 ∷ DropEdge 1 2 ∷ DropVertex 4 ∷ []) ≡ 0
  -- an added vertex or edge wants a place, and no other write does
  pub vertex_wants_a_place : inserts (AddVertex 5) ≡ true
  pub edge_wants_a_place : inserts (AddEdge 1 4 1) ≡ true
  pub weight_wants_none : inserts (SetEdge 1 2 9) ≡ false
  pub no_edge_wants_none : inserts (DropEdge 1 2) ≡ false
  pub no_vertex_wants_none : inserts (DropVertex 4) ≡ false

-- the rows of a graph, and of ranges
pub record RowExamples : Type 0 where
  pub vertices : vertices_of load_graph ≡ 1 ∷ 2 ∷ 3 ∷ 4 ∷ []
  -- a vertex's row stands directly before its arcs
  pub whole : all_rows load_graph ≡
      record { key = vertex_key 1; weight = 0 } ∷ record { key = arc_key 1 2; weight = 1 }
      ∷ record { key = vertex_key 2; weight = 0 } ∷ record { key = arc_key 2 1; weight = 1 }
      ∷ record { key = arc_key 2 3; weight = 1 }
      ∷ record { key = vertex_key 3; weight = 0 } ∷ record { key = arc_key 3 2; weight = 1 }
      ∷ record { key = vertex_key 4; weight = 0 } ∷ []
  -- a range has its first key, and not the one that it ends at
  pub range : rows load_graph (arc_key 2 1) (arc_key 3 2) ≡
      record { key = arc_key 2 1; weight = 1 } ∷ record { key = arc_key 2 3; weight = 1 }
      ∷ record { key = vertex_key 3; weight = 0 } ∷ []
  pub first_key_in : is_between (vertex_key 2) (vertex_key 3) (vertex_key 2) ≡ true
  pub last_key_out : is_between (vertex_key 2) (vertex_key 3) (vertex_key 3) ≡ false
  -- all rows are those of the least key, those of the greatest, and those between
  pub least_in : is_between first_key end_key (vertex_key 0) ≡ true
  pub greatest_in : is_between first_key end_key
      (arc_key 9223372036854775806 9223372036854775806) ≡ true
  pub all_of_it : AreRowsOf (all_rows load_graph) load_graph
  pub none_of_it : AreRowsOf [] load_graph → ⊥
  pub of_no_target : AreRowsOf (all_rows no_target) no_target → ⊥
  pub of_great_id : AreRowsOf (all_rows great_id) great_id → ⊥

-- a scan of all rows, before its first step
abbrev pub scan : Cursor
scan = record { next = first_key; until = end_key; done = false }

-- steps of a scan: eight rows are one portion, and it isn't full
pub record ScanExamples : Type 0 where
  pub whole : ScansBy load_graph scan (record scan { done = true }) (all_rows load_graph)
  pub not_without_rows : ScansBy load_graph scan (record scan { done = true }) [] → ⊥
  pub not_going_on : ScansBy load_graph scan scan (all_rows load_graph) → ⊥
  pub not_of_another_range : ScansBy load_graph scan (record scan { done = true; until = first_key })
      (all_rows load_graph) → ⊥
