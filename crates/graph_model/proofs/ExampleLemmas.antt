-- The worked examples of writes and of rows.
use Rattle.std.proofs.Common.{◌≡◌, ℕ, ◌<◌, ◌≤◌, List, [], ◌∷◌, length, take, refl, sym, ◌∙◌, ap, arith}
use Rattle.std.specs.Prelude.{true, false, ◌==◌, Option, Some, None, IsTrue}
use Rattle.std.specs.List.{AllByRecursion}
use Rattle.graph_model.specs.declared.write.Kind.{Kind}
use Rattle.graph_model.specs.declared.write.Kind.TheVariants.{Directed, Undirected}
use Rattle.graph_model.specs.declared.write.Write.{Write}
use Rattle.graph_model.specs.declared.write.Write.TheVariants.{AddVertex, DropVertex, AddEdge, SetEdge, DropEdge}
use Rattle.graph_model.specs.declared.row.Key.{Key}
use Rattle.graph_model.specs.declared.row.Row.{Row}
use Rattle.graph_model.specs.declared.refusal.Refusal.TheVariants.{NoVertex, VertexExists}
use Rattle.graph_model.specs.Graph.{Graph, empty_graph, has_vertex, weight_of, apply, HasBothEnds}
use Rattle.graph_model.specs.Refused.{refused, IsWithinLimits}
use Rattle.graph_model.specs.Rows.{arc_key, first_key, end_key, all_rows}
use Rattle.graph_model.specs.Examples.{load, load_graph, arrows, detour, no_target, great_id, RefusalExamples, AllowedExamples, LimitExamples, EffectExamples, SoundExamples, RowExamples, ScanExamples}
use Rattle.graph_model.proofs.TestLemmas.{self_eq}
use Rattle.graph_model.proofs.EntryLemmas.{Marks, Arcs, HasEntries, vertex_in, weight_in, vertex_at, weight_at, vertices_are, refusal_in, refused_at, marks_after_all, arcs_after_all, entries_after, entries_made, made_weight, made_vertex, made_arc, empty_entries, all_allowed, allowed_all, rows_in, rows_at}
use Rattle.graph_model.proofs.HistoryLemmas.{ends_after}
use Rattle.graph_model.proofs.SerialLemmas.{empty_ends}
use Rattle.graph_model.proofs.ViewLemmas.{made_symmetric, empty_bounded, all_bounded}

-- ---- the graphs, written out

abbrev pub load_marks : Marks
load_marks = (1, tt) ∷ (2, tt) ∷ (3, tt) ∷ (4, tt) ∷ []

abbrev pub load_arcs : Arcs
load_arcs = ((1, 2), 1) ∷ ((2, 1), 1) ∷ ((2, 3), 1) ∷ ((3, 2), 1) ∷ []

-- the load's graph
pub load_entries : HasEntries load_graph load_marks load_arcs
load_entries = entries_made Undirected load

abbrev pub arrow_marks : Marks
arrow_marks = (1, tt) ∷ (2, tt) ∷ (3, tt) ∷ []

abbrev pub arrow_arcs : Arcs
arrow_arcs = ((1, 3), 1) ∷ ((2, 1), 1) ∷ ((3, 1), 1) ∷ []

pub arrow_entries : HasEntries arrows arrow_marks arrow_arcs
arrow_entries = entries_made Directed (AddVertex 1 ∷ AddVertex 2 ∷ AddVertex 3 ∷ AddEdge 3 1 1 ∷ AddEdge 1 3 1 ∷ AddEdge 2 1 1 ∷ [])

abbrev pub detour_arcs : Arcs
detour_arcs = ((1, 2), 10) ∷ ((1, 3), 3) ∷ ((3, 2), 4) ∷ ((4, 1), 1) ∷ []

pub detour_entries : HasEntries detour load_marks detour_arcs
detour_entries = entries_made Directed (AddVertex 1 ∷ AddVertex 2 ∷ AddVertex 3 ∷ AddVertex 4 ∷ AddEdge 1 2 10 ∷ AddEdge 1 3 3 ∷ AddEdge 3 2 4 ∷ AddEdge 4 1 1 ∷ [])

-- ---- refusals

-- what the load's graph refuses
pub by_load : (w : Write) → refused load_graph w ≡ refusal_in load_marks load_arcs w
by_load w = refused_at load_graph load_marks load_arcs load_entries w

by_arrows : (w : Write) → refused arrows w ≡ refusal_in arrow_marks arrow_arcs w
by_arrows w = refused_at arrows arrow_marks arrow_arcs arrow_entries w

by_detour : (w : Write) → refused detour w ≡ refusal_in load_marks detour_arcs w
by_detour w = refused_at detour load_marks detour_arcs detour_entries w

pub refusals : RefusalExamples
refusals = record {
  loop_first = refl;
  loop_to_set = refl;
  loop_to_drop = refl;
  both_ends_missing = by_load (AddEdge 8 9 1);
  source_missing = by_load (AddEdge 8 1 1);
  target_missing = by_load (AddEdge 1 9 1);
  target_to_set_missing = by_load (SetEdge 1 9 1);
  source_to_drop_missing = by_load (DropEdge 9 1);
  edge_exists = by_load (AddEdge 2 1 1);
  no_edge_to_set = by_load (SetEdge 1 3 5);
  no_edge_to_drop = by_load (DropEdge 1 3);
  vertex_exists = by_load (AddVertex 4);
  no_vertex = by_load (DropVertex 9);
  has_edges = by_load (DropVertex 1);
  has_an_arc_out = by_detour (DropVertex 4);
  has_an_arc_in = by_detour (DropVertex 2);
  edge_allowed = by_load (AddEdge 3 4 7);
  set_allowed = by_load (SetEdge 3 2 7);
  drop_allowed = by_load (DropEdge 3 2);
  vertex_allowed = by_load (AddVertex 5);
  lone_vertex_goes = by_load (DropVertex 4);
  other_direction = by_arrows (AddEdge 1 2 1);
  no_other_direction = by_arrows (SetEdge 1 2 1);
}

-- nothing is something
pub some_none : {X P : Type 0} (x : X) → ◌≡◌ {A = Option X} (Some x) None → P
some_none x e = cc

pub allowed_lists : AllowedExamples
allowed_lists = record {
  behind_its_own = all_allowed Undirected load_graph load_marks load_arcs load_entries (DropVertex 4 ∷ AddVertex 4 ∷ []) refl;
  behind_its_edges = all_allowed Undirected load_graph load_marks load_arcs load_entries (DropEdge 2 1 ∷ DropVertex 1 ∷ []) refl;
  not_twice = λ all. some_none (NoVertex 4) (allowed_all Undirected load_graph load_marks load_arcs load_entries (DropVertex 4 ∷ DropVertex 4 ∷ []) all);
  not_the_first = λ all. some_none VertexExists (allowed_all Undirected load_graph load_marks load_arcs load_entries (AddVertex 4 ∷ AddVertex 5 ∷ []) all);
  not_the_last = λ all. some_none VertexExists (allowed_all Undirected load_graph load_marks load_arcs load_entries (AddVertex 5 ∷ AddVertex 4 ∷ []) all);
}

pub limits : LimitExamples
limits = record {
  at_most = (omega arith, (omega arith, ((omega arith, omega arith, omega arith), ((omega arith, omega arith, omega arith), ((omega arith, omega arith), tt)))));
  no_more = (
    λ le. omega (arith, le),
    (
      λ le. omega (arith, le),
      (
        λ le. omega (arith, le.0),
        (
          λ le. omega (arith, le.1),
          (
            λ le. omega (arith, le.2),
            (
              λ le. omega (arith, le.0),
              (
                λ le. omega (arith, le.1),
                (
                  λ le. omega (arith, le.2),
                  (λ le. omega (arith, le.0), (λ le. omega (arith, le.1), tt)),
                ),
              ),
            ),
          ),
        ),
      ),
    ),
  );
}

-- ---- effects

vertex_behind : (kind : Kind) (g : Graph) (vs : Marks) (es : Arcs) → HasEntries g vs es → (w : Write) (v : ℕ) → has_vertex (apply kind g w) v ≡ vertex_in (marks_after_all (w ∷ []) vs) v
vertex_behind kind g vs es has w v = vertex_at (apply kind g w) _ _ (entries_after kind g vs es has w) v

weight_behind : (kind : Kind) (g : Graph) (vs : Marks) (es : Arcs) → HasEntries g vs es → (w : Write) (u v : ℕ) → weight_of (apply kind g w) u v ≡ weight_in (arcs_after_all kind (w ∷ []) es) u v
weight_behind kind g vs es has w u v = weight_at (apply kind g w) _ _ (entries_after kind g vs es has w) u v

pub effects : EffectExamples
effects = record {
  vertex_added = vertex_behind Undirected load_graph load_marks load_arcs load_entries (AddVertex 5) 5;
  not_there_before = vertex_at load_graph load_marks load_arcs load_entries 5;
  vertex_removed = vertex_behind Undirected load_graph load_marks load_arcs load_entries (DropVertex 4) 4;
  others_stay = vertex_behind Undirected load_graph load_marks load_arcs load_entries (DropVertex 4) 3;
  edge_added = weight_behind Undirected load_graph load_marks load_arcs load_entries (AddEdge 1 4 7) 4 1;
  edge_set = weight_behind Undirected load_graph load_marks load_arcs load_entries (SetEdge 1 2 7) 2 1;
  edge_dropped = weight_behind Undirected load_graph load_marks load_arcs load_entries (DropEdge 1 2) 2 1;
  other_edges_stay = weight_behind Undirected load_graph load_marks load_arcs load_entries (DropEdge 1 2) 2 3;
  arc_added = weight_behind Directed arrows arrow_marks arrow_arcs arrow_entries (AddEdge 3 2 7) 3 2;
  not_back = weight_behind Directed arrows arrow_marks arrow_arcs arrow_entries (AddEdge 3 2 7) 2 3;
  arc_dropped = weight_behind Directed arrows arrow_marks arrow_arcs arrow_entries (DropEdge 1 3) 1 3;
  way_back_stays = weight_behind Directed arrows arrow_marks arrow_arcs arrow_entries (DropEdge 1 3) 3 1;
}

-- ---- sound graphs

-- and no test is both passed and failed
pub true_false : {P : Type 0} → true ≡ false → P
true_false e = cc

some_other : {P : Type 0} (m n : ℕ) → (m == n) ≡ false → ◌≡◌ {A = Option ℕ} (Some m) (Some n) → P
some_other m n apart e = let same : m ≡ n = cc in true_false (sym (self_eq n) ∙ ap (λ k. k == n) (sym same) ∙ apart)

abbrev bad_source : List Write
bad_source = AddVertex 2 ∷ AddEdge 1 2 1 ∷ []

abbrev bad_target : List Write
bad_target = AddVertex 1 ∷ AddEdge 1 2 1 ∷ []

no_ends : HasBothEnds no_target → ⊥
no_ends ends = true_false (sym (ends 1 2 (made_arc Directed bad_target 1 2 refl)).1 ∙ made_vertex Directed bad_target 2)

id_above : ((v : ℕ) → IsTrue (has_vertex great_id v) → v ≤ 9223372036854775806) → ⊥
id_above ids = omega (arith, ids 9223372036854775807 (made_vertex Directed (AddVertex 9223372036854775807 ∷ []) 9223372036854775807))

pub sound_graphs : SoundExamples
sound_graphs = record {
  ends = ends_after Undirected empty_graph load (all_allowed Undirected empty_graph [] [] empty_entries load refl) empty_ends;
  source_missing = λ ends. true_false (sym (ends 1 2 (made_arc Directed bad_source 1 2 refl)).0 ∙ made_vertex Directed bad_source 1);
  target_missing = no_ends;
  symmetric = made_symmetric load;
  one_way = λ same. some_none 1 (sym (weight_at arrows arrow_marks arrow_arcs arrow_entries 2 1) ∙ same 2 1 ∙ weight_at arrows arrow_marks arrow_arcs arrow_entries 1 2);
  two_weights = λ same. some_other 1 2 refl (sym (made_weight Directed (AddEdge 1 2 1 ∷ AddEdge 2 1 2 ∷ []) 1 2) ∙ same 1 2 ∙ made_weight Directed (AddEdge 1 2 1 ∷ AddEdge 2 1 2 ∷ []) 2 1);
  loop = λ none. true_false (sym (made_arc Directed (AddEdge 1 1 1 ∷ []) 1 1 refl) ∙ none 1);
  id_too_great = λ is. id_above is.ids;
  weight_too_great = λ is. omega (arith, is.weights 1 2 4294967296 (made_weight Directed (AddEdge 1 2 4294967296 ∷ []) 1 2));
}

-- ---- rows

-- its writes are within the limits
pub load_within : AllByRecursion IsWithinLimits load
load_within = (omega arith, (omega arith, (omega arith, (omega arith, ((omega arith, omega arith, omega arith), ((omega arith, omega arith, omega arith), tt))))))

no_rows : {P : Type 0} (r : Row) (rs : List Row) → [] ≡ r ∷ rs → P
no_rows r rs e = cc

pub row_lists : RowExamples
row_lists = record {
  vertices = vertices_are load_graph load_marks load_arcs load_entries;
  whole = rows_at load_graph load_marks load_arcs load_entries first_key end_key;
  range = rows_at load_graph load_marks load_arcs load_entries (arc_key 2 1) (arc_key 3 2);
  first_key_in = refl;
  last_key_out = refl;
  least_in = refl;
  greatest_in = refl;
  all_of_it = record { listed = refl; ends = sound_graphs.ends; within = (all_bounded Undirected empty_graph load load_within empty_bounded).ids };
  none_of_it = λ are. no_rows _ _ (are.listed ∙ rows_at load_graph load_marks load_arcs load_entries first_key end_key);
  of_no_target = λ are. no_ends are.ends;
  of_great_id = λ are. id_above are.within;
}

-- ---- scans

load_rows : all_rows load_graph ≡ rows_in load_marks load_arcs first_key end_key
load_rows = row_lists.whole

other_src : {P : Type 0} (a b : Key) → (a.src == b.src) ≡ false → a ≡ b → P
other_src a b apart same = true_false (sym (self_eq a.src) ∙ ap (λ (k : Key). a.src == k.src) same ∙ apart)

short : length (all_rows load_graph) < 64
short = let count : ◌≡◌ {A = ℕ} (length (all_rows load_graph)) 8 = ap length load_rows in omega arith

pub scans : ScanExamples
scans = record {
  whole = record {
    gave = load_rows ∙ sym (ap (take 64) load_rows);
    until = refl;
    ended = λ done. short;
    goes_on = λ going. true_false going;
  };
  not_without_rows = λ is. no_rows _ _ (is.gave ∙ ap (take 64) load_rows);
  not_going_on = λ is. let full : length (all_rows load_graph) ≡ 64 = (is.goes_on refl).0 in omega (arith, full, short);
  not_of_another_range = λ is. other_src first_key end_key refl is.until;
}
