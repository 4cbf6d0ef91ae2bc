-- The examples of lines on graphs with weighted edges, by the entries of the graphs.
use Rattle.std.proofs.Common.{◌≡◌, ℕ, ◌+◌, ◌-◌, ◌/◌, ◌≤◌, List, [], ◌∷◌, ◌++◌, length, slice_get, cond, Some, None, refl, sym, ap, ◌∙◌, subst, arith}
use Rattle.std.specs.Prelude.{true, false, map as list_map, take, drop, codes, Option, unwrap_or}
use Rattle.std.specs.List.{AllByRecursion, list_any}
use Rattle.std.specs.FinMap as fin_map
use Rattle.std.proofs.lemmas.List.{length-map}
use Rattle.graph_model.specs.declared.write.Kind.{Kind}
use Rattle.graph_model.specs.declared.write.Kind.TheVariants.{Directed, Undirected}
use Rattle.graph_model.specs.declared.write.Write.{Write}
use Rattle.graph_model.specs.declared.write.Write.TheVariants as writes
use Rattle.graph_model.specs.declared.row.Row.{Row}
use Rattle.graph_model.specs.declared.refusal.Refusal.{Refusal}
use Rattle.graph_model.specs.declared.refusal.Refusal.TheVariants as refusals
use Rattle.graph_model.specs.declared.table.Entry.{Entry}
use Rattle.graph_model.specs.declared.table.Value.TheVariants.{Number}
use Rattle.graph_model.specs.declared.limits.TheConstants.{MAX_BEGINS}
use Rattle.graph_model.specs.Graph.{Graph, empty_graph, vertices_of, apply_all}
use Rattle.graph_model.specs.Walks.{IsDistance, IsLeastWeight}
use Rattle.graph_model.specs.Components.{IsComponent}
use Rattle.graph_model.specs.Refused.{refused, IsWithinLimits, AllAllowed}
use Rattle.graph_model.specs.Rows.{first_key, end_key, all_rows}
use Rattle.graph_model.specs.Tables.{IsBfs, IsBfsValue, IsSssp, IsSsspValue, IsWcc, IsWccValue, IsCdlp}
use Rattle.graph_model.specs.KernelExamples.{entry}
use Rattle.graph_model.proofs.EntryLemmas.{Marks, Arcs, HasEntries, vertex_in, weight_in, vertex_at, weight_at, vertices_are, refusal_in, refused_at, marks_after_all, arcs_after_all, entries_made, empty_entries, all_allowed, rows_in, rows_at}
use Rattle.graph_model.proofs.HistoryLemmas.{each_item}
use Rattle.graph_model.proofs.PlaceLemmas.{some_eq}
use Rattle.graph_model.proofs.WitnessLemmas.{value_in, is_walk_in, walk_weight_in, distance_of, least_weight_of, is_trail_in, component_of, label_in, label_value}
use Rattle.run_model.specs.declared.command.Command.{Command}
use Rattle.run_model.specs.declared.command.Command.TheVariants as commands
use Rattle.run_model.specs.declared.answer.Answer.{Answer}
use Rattle.run_model.specs.declared.answer.Answer.TheVariants as answers
use Rattle.run_model.specs.declared.command.Query.TheVariants.{WeightOf, NeighboursOf, Counts}
use Rattle.run_model.specs.declared.command.Kernel.{Kernel}
use Rattle.run_model.specs.declared.command.Kernel.TheVariants.{Bfs, Wcc, Cdlp, Sssp, FastBfs, FastSssp}
use Rattle.run_model.specs.Commands.{begun_by, IsScript}
use Rattle.run_model.specs.AnsweredLines.{AnsweredLine, answered_lines}
use Rattle.run_model.specs.Answering.{targets_of, edges_in, at_vertex, weight_answer, query_answer, table_answer, IsKernelTable}
use Rattle.run_model.specs.Inputs.{File}
use Rattle.run_model.specs.Run.{Context, txn_name, IsWriteAnswer, AllAnswered, HasFiles}
use Rattle.run_model.specs.LineExamples.{arcs, file, hops, weights, Answers, AnswersOnEdges, Files, ReadExamples, WriteExamples, KernelExamples, star, LineTurnExamples}
use Rattle.run_model.specs.Examples.{vertices_to}
use Rattle.run_model.proofs.ExampleLemmas.{is_full, alone, answers_so}
use Rattle.run_model.proofs.FullLemmas.{one_kernel_table}

-- ---- the graphs

abbrev marks : Marks
marks = (1, tt) ∷ (2, tt) ∷ (3, tt) ∷ []

abbrev arrows : Graph
arrows = apply_all Directed empty_graph arcs

abbrev arrow_list : Arcs
arrow_list = ((1, 2), 5) ∷ ((1, 3), 2) ∷ ((3, 2), 2) ∷ []

on_arrows : HasEntries arrows marks arrow_list
on_arrows = entries_made Directed arcs

abbrev lines_both_ways : Graph
lines_both_ways = apply_all Undirected empty_graph arcs

abbrev edge_list : Arcs
edge_list = ((1, 2), 5) ∷ ((1, 3), 2) ∷ ((2, 1), 5) ∷ ((2, 3), 2) ∷ ((3, 1), 2) ∷ ((3, 2), 2) ∷ []

on_edges : HasEntries lines_both_ways marks edge_list
on_edges = entries_made Undirected arcs

arcs_within : AllByRecursion IsWithinLimits arcs
arcs_within = (omega arith, (omega arith, (omega arith, ((omega arith, omega arith, omega arith), ((omega arith, omega arith, omega arith), ((omega arith, omega arith, omega arith), tt))))))

directed_allowed : AllAllowed Directed empty_graph arcs
directed_allowed = all_allowed Directed empty_graph [] [] empty_entries arcs refl

undirected_allowed : AllAllowed Undirected empty_graph arcs
undirected_allowed = all_allowed Undirected empty_graph [] [] empty_entries arcs refl

abbrev other_writes : List Write
other_writes = writes.AddVertex 2 ∷ writes.AddVertex 3 ∷ writes.AddEdge 1 2 5 ∷ writes.AddEdge 1 3 2 ∷ writes.AddEdge 3 2 2 ∷ []

-- ---- what they answer

module _ (kind : Kind) (g : Graph) (vs : Marks) (es : Arcs) (has : HasEntries g vs es) where
  tells_weight : (u v : ℕ) → query_answer kind g (WeightOf u v) ≡ weight_answer (weight_in es u v)
  tells_weight u v = ap weight_answer (weight_at g vs es has u v)

  abbrev targets_in : ℕ → List ℕ
  targets_in v = list_map (λ (r : Row). r.key.second - 1) (rows_in vs es (record { src = v; second = 1 }) (record { src = v + 1; second = 0 }))

  targets_at : (v : ℕ) → targets_of g v ≡ targets_in v
  targets_at v = ap (list_map (λ (r : Row). r.key.second - 1)) (rows_at g vs es has (record { src = v; second = 1 }) (record { src = v + 1; second = 0 }))

  tells_targets : (v : ℕ) → query_answer kind g (NeighboursOf v) ≡ cond (vertex_in vs v) (answers.Neighbours (targets_in v)) (answers.NoVertex v)
  tells_targets v = λ i. cond (vertex_at g vs es has v i) (answers.Neighbours (targets_at v i)) (answers.NoVertex v)

  abbrev edges_among : Kind → ℕ
  edges_among Directed = length es
  edges_among Undirected = length es / 2

  arc_count : fin_map.len g.arcs ≡ length es
  arc_count = fin_map.len-entries g.arcs ∙ ap length has.arcs

  edge_count : (k : Kind) → edges_in k g ≡ edges_among k
  edge_count Directed = arc_count
  edge_count Undirected = ap (λ n. n / 2) arc_count

  vertex_count : length (vertices_of g) ≡ length vs
  vertex_count = ap length (vertices_are g vs es has) ∙ length-map vs (λ (e : ℕ × Unit {0}). e.0)

  tells_counts : query_answer kind g Counts ≡ answers.Counted (length vs) (edges_among kind)
  tells_counts = λ i. answers.Counted (vertex_count i) (edge_count kind i)

  tells_table : (root : ℕ) → at_vertex g root (table_answer g) ≡ cond (vertex_in vs root) (answers.Table (length vs)) (answers.NoVertex root)
  tells_table root = λ i. cond (vertex_at g vs es has root i) (answers.Table (vertex_count i)) (answers.NoVertex root)

  tells_entries : table_answer g ≡ answers.Table (length vs)
  tells_entries = ap answers.Table vertex_count

-- on the arcs, on the edges, and on the arcs when these writes were made
arrows_weight : (u v : ℕ) → query_answer Directed arrows (WeightOf u v) ≡ weight_answer (weight_in arrow_list u v)
arrows_weight u v = tells_weight Directed arrows marks arrow_list on_arrows u v

edges_weight : (u v : ℕ) → query_answer Undirected lines_both_ways (WeightOf u v) ≡ weight_answer (weight_in edge_list u v)
edges_weight u v = tells_weight Undirected lines_both_ways marks edge_list on_edges u v

-- what a script of these lines is judged by
abbrev on_arcs : List Command → List Answer → Context
on_arcs cs report = alone Directed (writes.AddVertex 1) other_writes directed_allowed arcs_within (cs ++ commands.Abort ∷ []) (report ++ answers.Aborted ∷ [])

abbrev on_lines : List Command → List Answer → Context
on_lines cs report = alone Undirected (writes.AddVertex 1) other_writes undirected_allowed arcs_within (cs ++ commands.Abort ∷ []) (report ++ answers.Aborted ∷ [])

-- one line with its answer, between `begin` and `abort`
abbrev lines_of : Command → Answer → List AnsweredLine
lines_of c a = answered_lines (commands.Begin ∷ c ∷ commands.Abort ∷ []) (answers.Begun (txn_name 1 1) 1 ∷ a ∷ answers.Aborted ∷ [])

-- a line that gives no file
module _ (c : Command) (a : Answer) where
  reads_arcs : IsScript (Some true) (c ∷ commands.Abort ∷ []) → begun_by 1 (c ∷ commands.Abort ∷ []) ≤ MAX_BEGINS
      → AllAnswered (on_arcs (c ∷ []) (a ∷ [])) (take 1 (lines_of c a)) (drop 1 (lines_of c a)) → list_any (λ l. is_full l.answer) (lines_of c a) ≡ false
      → HasFiles (on_arcs (c ∷ []) (a ∷ [])) [] (lines_of c a) [] → Answers c a
  reads_arcs script few all none filed =
      answers_so Directed (writes.AddVertex 1) other_writes directed_allowed arcs_within (c ∷ commands.Abort ∷ []) (a ∷ answers.Aborted ∷ []) [] script few refl all none filed

  reads_edges : IsScript (Some true) (c ∷ commands.Abort ∷ []) → begun_by 1 (c ∷ commands.Abort ∷ []) ≤ MAX_BEGINS
      → AllAnswered (on_lines (c ∷ []) (a ∷ [])) (take 1 (lines_of c a)) (drop 1 (lines_of c a)) → list_any (λ l. is_full l.answer) (lines_of c a) ≡ false
      → HasFiles (on_lines (c ∷ []) (a ∷ [])) [] (lines_of c a) [] → AnswersOnEdges c a
  reads_edges script few all none filed =
      answers_so Undirected (writes.AddVertex 1) other_writes undirected_allowed arcs_within (c ∷ commands.Abort ∷ []) (a ∷ answers.Aborted ∷ []) [] script few refl all none filed

other_number : (m n : ℕ) → answers.Weight m ≡ answers.Weight n → m ≡ n
other_number m n e = cc

pub reads : ReadExamples
reads = record {
  weight = reads_arcs (commands.Read (WeightOf 1 2)) (answers.Weight 5) ((omega arith, omega arith), (tt, refl)) (omega arith) (sym (arrows_weight 1 2), (refl, tt)) refl ([], refl, ([], refl, ([], refl, refl)));
  not_the_way_round = λ run. let same : ◌≡◌ {A = ℕ} 4 5 = other_number 4 5 ((run.answered 0 _ refl).1.0 ∙ arrows_weight 1 2) in omega (arith, same);
  no_way_back = reads_arcs (commands.Read (WeightOf 2 1)) answers.Nothing ((omega arith, omega arith), (tt, refl)) (omega arith) (sym (arrows_weight 2 1), (refl, tt)) refl ([], refl, ([], refl, ([], refl, refl)));
  weight_back = λ run. let e : answers.Weight 5 ≡ answers.Nothing = (run.answered 0 _ refl).1.0 ∙ arrows_weight 2 1 in cc;
  both_ways = reads_edges (commands.Read (WeightOf 2 1)) (answers.Weight 5) ((omega arith, omega arith), (tt, refl)) (omega arith) (sym (edges_weight 2 1), (refl, tt)) refl ([], refl, ([], refl, ([], refl, refl)));
  not_one_way = λ run. let e : answers.Nothing ≡ answers.Weight 5 = (run.answered 0 _ refl).1.0 ∙ edges_weight 2 1 in cc;
  targets = reads_arcs (commands.Read (NeighboursOf 1)) (answers.Neighbours (2 ∷ 3 ∷ [])) (omega arith, (tt, refl)) (omega arith) (sym (tells_targets Directed arrows marks arrow_list on_arrows 1), (refl, tt)) refl ([], refl, ([], refl, ([], refl, refl)));
  one_too_great = λ run.
      let e : answers.Neighbours (3 ∷ 4 ∷ []) ≡ answers.Neighbours (2 ∷ 3 ∷ []) = (run.answered 0 _ refl).1.0 ∙ tells_targets Directed arrows marks arrow_list on_arrows 1 in
      let lists : ◌≡◌ {A = List ℕ} (3 ∷ 4 ∷ []) (2 ∷ 3 ∷ []) = cc in
      let same : ◌≡◌ {A = ℕ} 3 2 = ap (λ xs. unwrap_or (slice_get xs 0) 0) lists in omega (arith, same);
  no_targets = reads_arcs (commands.Read (NeighboursOf 2)) (answers.Neighbours []) (omega arith, (tt, refl)) (omega arith) (sym (tells_targets Directed arrows marks arrow_list on_arrows 2), (refl, tt)) refl ([], refl, ([], refl, ([], refl, refl)));
  either_end = reads_edges (commands.Read (NeighboursOf 2)) (answers.Neighbours (1 ∷ 3 ∷ [])) (omega arith, (tt, refl)) (omega arith) (sym (tells_targets Undirected lines_both_ways marks edge_list on_edges 2), (refl, tt)) refl ([], refl, ([], refl, ([], refl, refl)));
  count = reads_arcs (commands.Read Counts) (answers.Counted 3 3) (tt, (tt, refl)) (omega arith) (sym (tells_counts Directed arrows marks arrow_list on_arrows), (refl, tt)) refl ([], refl, ([], refl, ([], refl, refl)));
  edges_once = reads_edges (commands.Read Counts) (answers.Counted 3 3) (tt, (tt, refl)) (omega arith) (sym (tells_counts Undirected lines_both_ways marks edge_list on_edges), (refl, tt)) refl ([], refl, ([], refl, ([], refl, refl)));
  edges_twice = λ run.
      let e : answers.Counted 3 6 ≡ answers.Counted 3 3 = (run.answered 0 _ refl).1.0 ∙ tells_counts Undirected lines_both_ways marks edge_list on_edges in
      let same : ◌≡◌ {A = ℕ} 6 3 = cc in omega (arith, same);
}

-- ---- writes

-- what the arcs refuse, and what they answer then
refused_by : (w : Write) → refused arrows w ≡ refusal_in marks arrow_list w
refused_by w = refused_at arrows marks arrow_list on_arrows w

module _ (cs : List Command) (report : List Answer) (w : Write) (r : Option Refusal) (a : Answer) (is : refused arrows w ≡ r) where
  so_refused : IsWriteAnswer (on_arcs cs report) 1 w r a → IsWriteAnswer (on_arcs cs report) 1 w (refused arrows w) a
  so_refused answered = subst (λ x. IsWriteAnswer (on_arcs cs report) 1 w x a) (sym is) answered

  refused_so : IsWriteAnswer (on_arcs cs report) 1 w (refused arrows w) a → IsWriteAnswer (on_arcs cs report) 1 w r a
  refused_so answered = subst (λ x. IsWriteAnswer (on_arcs cs report) 1 w x a) is answered

-- the arcs when one has been added, set or dropped
abbrev after_write : Write → Graph
after_write w = apply_all Directed empty_graph (arcs ++ w ∷ [])

added_weight : query_answer Directed (after_write (writes.AddEdge 2 1 7)) (WeightOf 2 1) ≡ answers.Weight 7
added_weight = tells_weight Directed _ _ _ (entries_made Directed (arcs ++ writes.AddEdge 2 1 7 ∷ [])) 2 1

set_weight : query_answer Directed (after_write (writes.SetEdge 1 2 9)) (WeightOf 1 2) ≡ answers.Weight 9
set_weight = tells_weight Directed _ _ _ (entries_made Directed (arcs ++ writes.SetEdge 1 2 9 ∷ [])) 1 2

dropped_weight : query_answer Directed (after_write (writes.DropEdge 1 2)) (WeightOf 1 2) ≡ answers.Nothing
dropped_weight = tells_weight Directed _ _ _ (entries_made Directed (arcs ++ writes.DropEdge 1 2 ∷ [])) 1 2

dropped_count : query_answer Directed (after_write (writes.DropEdge 1 2)) Counts ≡ answers.Counted 3 2
dropped_count = tells_counts Directed _ _ _ (entries_made Directed (arcs ++ writes.DropEdge 1 2 ∷ []))

abbrev add_lines : List Command
add_lines = commands.Write (writes.AddEdge 2 1 7) ∷ commands.Read (WeightOf 2 1) ∷ []

abbrev set_lines : List Command
set_lines = commands.Write (writes.SetEdge 1 2 9) ∷ commands.Read (WeightOf 1 2) ∷ []

abbrev drop_lines : List Command
drop_lines = commands.Write (writes.DropEdge 1 2) ∷ commands.Read (WeightOf 1 2) ∷ commands.Read Counts ∷ []

pub written : WriteExamples
written = record {
  added = answers_so Directed (writes.AddVertex 1) other_writes directed_allowed arcs_within (add_lines ++ commands.Abort ∷ []) (answers.Done ∷ answers.Weight 7 ∷ answers.Aborted ∷ []) []
      ((omega arith, omega arith, omega arith), ((omega arith, omega arith), (tt, refl))) (omega arith) refl
      (so_refused add_lines (answers.Done ∷ answers.Weight 7 ∷ []) (writes.AddEdge 2 1 7) _ answers.Done (refused_by (writes.AddEdge 2 1 7)) tt, (sym added_weight, (refl, tt)))
      refl ([], refl, ([], refl, ([], refl, ([], refl, refl))));
  added_with_one = λ run. let same : ◌≡◌ {A = ℕ} 1 7 = other_number 1 7 ((run.answered 0 _ refl).1.1.0 ∙ added_weight) in omega (arith, same);
  set = answers_so Directed (writes.AddVertex 1) other_writes directed_allowed arcs_within (set_lines ++ commands.Abort ∷ []) (answers.Done ∷ answers.Weight 9 ∷ answers.Aborted ∷ []) []
      ((omega arith, omega arith, omega arith), ((omega arith, omega arith), (tt, refl))) (omega arith) refl
      (so_refused set_lines (answers.Done ∷ answers.Weight 9 ∷ []) (writes.SetEdge 1 2 9) _ answers.Done (refused_by (writes.SetEdge 1 2 9)) tt, (sym set_weight, (refl, tt)))
      refl ([], refl, ([], refl, ([], refl, ([], refl, refl))));
  not_set = λ run. let same : ◌≡◌ {A = ℕ} 5 9 = other_number 5 9 ((run.answered 0 _ refl).1.1.0 ∙ set_weight) in omega (arith, same);
  dropped = answers_so Directed (writes.AddVertex 1) other_writes directed_allowed arcs_within (drop_lines ++ commands.Abort ∷ []) (answers.Done ∷ answers.Nothing ∷ answers.Counted 3 2 ∷ answers.Aborted ∷ []) []
      ((omega arith, omega arith), ((omega arith, omega arith), (tt, (tt, refl)))) (omega arith) refl
      (so_refused drop_lines (answers.Done ∷ answers.Nothing ∷ answers.Counted 3 2 ∷ []) (writes.DropEdge 1 2) _ answers.Done (refused_by (writes.DropEdge 1 2)) tt, (sym dropped_weight, (sym dropped_count, (refl, tt))))
      refl ([], refl, ([], refl, ([], refl, ([], refl, ([], refl, refl)))));
  not_dropped = λ run. refused_so (commands.Write (writes.DropEdge 1 2) ∷ []) (answers.HasEdges ∷ []) (writes.DropEdge 1 2) _ answers.HasEdges (refused_by (writes.DropEdge 1 2)) (run.answered 0 _ refl).1.0;
  edge_exists = reads_arcs (commands.Write (writes.AddEdge 1 2 7)) answers.Exists ((omega arith, omega arith, omega arith), (tt, refl)) (omega arith)
      (so_refused (commands.Write (writes.AddEdge 1 2 7) ∷ []) (answers.Exists ∷ []) (writes.AddEdge 1 2 7) _ answers.Exists (refused_by (writes.AddEdge 1 2 7)) refl, (refl, tt)) refl ([], refl, ([], refl, ([], refl, refl)));
  no_edge = reads_arcs (commands.Write (writes.DropEdge 2 1)) answers.NoEdge ((omega arith, omega arith), (tt, refl)) (omega arith)
      (so_refused (commands.Write (writes.DropEdge 2 1) ∷ []) (answers.NoEdge ∷ []) (writes.DropEdge 2 1) _ answers.NoEdge (refused_by (writes.DropEdge 2 1)) refl, (refl, tt)) refl ([], refl, ([], refl, ([], refl, refl)));
  has_edges = reads_arcs (commands.Write (writes.DropVertex 2)) answers.HasEdges (omega arith, (tt, refl)) (omega arith)
      (so_refused (commands.Write (writes.DropVertex 2) ∷ []) (answers.HasEdges ∷ []) (writes.DropVertex 2) _ answers.HasEdges (refused_by (writes.DropVertex 2)) refl, (refl, tt)) refl ([], refl, ([], refl, ([], refl, refl)));
  has_no_edge = λ run. let e : answers.NoEdge ≡ answers.HasEdges = refused_so (commands.Write (writes.DropVertex 2) ∷ []) (answers.NoEdge ∷ []) (writes.DropVertex 2) _ answers.NoEdge (refused_by (writes.DropVertex 2)) (run.answered 0 _ refl).1.0 in cc;
  removed_with_edges = λ run. let e : answers.Done ≡ answers.HasEdges = refused_so (commands.Write (writes.DropVertex 2) ∷ []) (answers.Done ∷ []) (writes.DropVertex 2) _ answers.Done (refused_by (writes.DropVertex 2)) (run.answered 0 _ refl).1.0 in cc;
  no_vertex_to_remove = reads_arcs (commands.Write (writes.DropVertex 9)) (answers.NoVertex 9) (omega arith, (tt, refl)) (omega arith)
      (so_refused (commands.Write (writes.DropVertex 9) ∷ []) (answers.NoVertex 9 ∷ []) (writes.DropVertex 9) _ (answers.NoVertex 9) (refused_by (writes.DropVertex 9)) refl, (refl, tt)) refl ([], refl, ([], refl, ([], refl, refl)));
}

-- ---- kernels

far : (v : ℕ) (ws : List ℕ) → is_walk_in arrows marks arrow_list on_arrows 1 ws v ≡ true → length ws ≡ value_in hops v → IsDistance arrows 1 v (value_in hops v)
far v ws walk count = distance_of arrows marks arrow_list on_arrows hops refl 1 v ws refl walk count

hops_are : IsBfs arrows 1 hops
hops_are = record {
  vertices = sym (vertices_are arrows marks arrow_list on_arrows);
  values = each_item (λ (e : Entry). IsBfsValue arrows 1 e.vertex e.value) hops (far 1 [] refl refl, (far 2 (2 ∷ []) refl refl, (far 3 (3 ∷ []) refl refl, tt)));
}

light : (v : ℕ) (ws : List ℕ) → is_walk_in arrows marks arrow_list on_arrows 1 ws v ≡ true → walk_weight_in arrows marks arrow_list on_arrows 1 ws ≡ value_in weights v
    → IsLeastWeight arrows 1 v (value_in weights v)
light v ws walk weight = least_weight_of arrows marks arrow_list on_arrows weights refl 1 v ws refl walk weight

weights_are : IsSssp arrows 1 weights
weights_are = record {
  vertices = sym (vertices_are arrows marks arrow_list on_arrows);
  values = each_item (λ (e : Entry). IsSsspValue arrows 1 e.vertex e.value) weights (light 1 [] refl refl, (light 2 (3 ∷ 2 ∷ []) refl refl, (light 3 (3 ∷ []) refl refl, tt)));
}

abbrev one_component : List Entry
one_component = entry 1 1 ∷ entry 2 1 ∷ entry 3 1 ∷ []

joined : (v : ℕ) (ws : List ℕ) → is_trail_in arrows marks arrow_list on_arrows v ws (value_in one_component v) ≡ true → IsComponent arrows v (value_in one_component v)
joined v ws trail = component_of arrows marks arrow_list on_arrows one_component refl refl v ws trail

component_is : IsWcc arrows one_component
component_is = record {
  vertices = sym (vertices_are arrows marks arrow_list on_arrows);
  values = each_item (λ (e : Entry). IsWccValue arrows e.vertex e.value) one_component (joined 1 [] refl, (joined 2 (1 ∷ []) refl, (joined 3 (1 ∷ []) refl, tt)));
}

labels_are : (rounds : ℕ) (table : List Entry) → list_map (λ (e : Entry). e.vertex) table ≡ 1 ∷ 2 ∷ 3 ∷ []
    → AllByRecursion (λ (e : Entry). e.value ≡ Number (label_in arrows marks arrow_list on_arrows Directed rounds e.vertex)) table → IsCdlp Directed arrows rounds table
labels_are rounds table vertices values = record {
  vertices = vertices ∙ sym (vertices_are arrows marks arrow_list on_arrows);
  values = λ i e at. each_item (λ (e : Entry). e.value ≡ Number (label_in arrows marks arrow_list on_arrows Directed rounds e.vertex)) table values i e at ∙ label_value arrows marks arrow_list on_arrows Directed rounds e.vertex;
}

abbrev first_labels : List Entry
first_labels = entry 1 2 ∷ entry 2 1 ∷ entry 3 1 ∷ []

abbrev own_labels : List Entry
own_labels = entry 1 1 ∷ entry 2 2 ∷ entry 3 3 ∷ []

-- a line with its file
files_so : (kernel : Kernel) (table : List Entry) → IsScript (Some true) (commands.Run kernel (codes "f") ∷ commands.Abort ∷ []) → begun_by 1 (commands.Run kernel (codes "f") ∷ commands.Abort ∷ []) ≤ MAX_BEGINS
    → AllAnswered (on_arcs (commands.Run kernel (codes "f") ∷ []) (answers.Table 3 ∷ [])) (take 1 (lines_of (commands.Run kernel (codes "f")) (answers.Table 3))) (drop 1 (lines_of (commands.Run kernel (codes "f")) (answers.Table 3)))
    → list_any (λ l. is_full l.answer) (lines_of (commands.Run kernel (codes "f")) (answers.Table 3)) ≡ false
    → HasFiles (on_arcs (commands.Run kernel (codes "f") ∷ []) (answers.Table 3 ∷ [])) [] (lines_of (commands.Run kernel (codes "f")) (answers.Table 3)) (file (codes "f") table ∷ []) → Files kernel table
files_so kernel table script few all none filed =
    answers_so Directed (writes.AddVertex 1) other_writes directed_allowed arcs_within (commands.Run kernel (codes "f") ∷ commands.Abort ∷ []) (answers.Table 3 ∷ answers.Aborted ∷ []) (file (codes "f") table ∷ []) script few refl all none filed

-- the table of a script's first file
first_table : (t u : List Entry) (fs gs : List File) (name other : List ℕ) → file name t ∷ fs ≡ file other u ∷ gs → t ≡ u
first_table t u fs gs name other e = ap (λ (f : File). f.table) (some_eq (file name t) (file other u) (ap (λ (xs : List File). slice_get xs 0) e))

-- a kernel has one table: what another line of the vertex 2 says is none
another_table : (kernel : Kernel) (right wrong table : List Entry) → IsKernelTable Directed arrows kernel right → IsKernelTable Directed arrows kernel table → wrong ≡ table → value_in wrong 2 ≡ value_in right 2
another_table kernel right wrong table is that same = ap (λ t. value_in t 2) (same ∙ one_kernel_table Directed arrows kernel table right that is)

pub kernels : KernelExamples
kernels = record {
  bfs = files_so (Bfs 1) hops (omega arith, (tt, refl)) (omega arith) (sym (tells_table Directed arrows marks arrow_list on_arrows 1), (refl, tt)) refl
      (_, refl, ([], (hops, refl, hops_are), ([], refl, refl)));
  bfs_by_weight = λ run.
      let files = run.files 0 _ _ refl refl in
      let same : ◌≡◌ {A = ℕ} 4 1 = another_table (Bfs 1) hops weights files.2.1.0 hops_are files.2.1.2 (first_table _ _ _ _ _ _ (files.1 ∙ files.2.1.1)) in omega (arith, same);
  sssp = files_so (Sssp 1) weights (omega arith, (tt, refl)) (omega arith) (sym (tells_table Directed arrows marks arrow_list on_arrows 1), (refl, tt)) refl
      (_, refl, ([], (weights, refl, weights_are), ([], refl, refl)));
  sssp_by_arcs = λ run.
      let files = run.files 0 _ _ refl refl in
      let same : ◌≡◌ {A = ℕ} 1 4 = another_table (Sssp 1) weights hops files.2.1.0 weights_are files.2.1.2 (first_table _ _ _ _ _ _ (files.1 ∙ files.2.1.1)) in omega (arith, same);
  fast_bfs = files_so (FastBfs 1) hops (omega arith, (tt, refl)) (omega arith) (sym (tells_table Directed arrows marks arrow_list on_arrows 1), (refl, tt)) refl
      (_, refl, ([], (hops, refl, hops_are), ([], refl, refl)));
  fast_bfs_by_weight = λ run.
      let files = run.files 0 _ _ refl refl in
      let same : ◌≡◌ {A = ℕ} 4 1 = another_table (Bfs 1) hops weights files.2.1.0 hops_are files.2.1.2 (first_table _ _ _ _ _ _ (files.1 ∙ files.2.1.1)) in omega (arith, same);
  fast_sssp = files_so (FastSssp 1 3) weights (omega arith, (tt, refl)) (omega arith) (sym (tells_table Directed arrows marks arrow_list on_arrows 1), (refl, tt)) refl
      (_, refl, ([], (weights, refl, weights_are), ([], refl, refl)));
  fast_sssp_by_arcs = λ run.
      let files = run.files 0 _ _ refl refl in
      let same : ◌≡◌ {A = ℕ} 1 4 = another_table (Sssp 1) weights hops files.2.1.0 weights_are files.2.1.2 (first_table _ _ _ _ _ _ (files.1 ∙ files.2.1.1)) in omega (arith, same);
  wcc = files_so Wcc one_component (tt, (tt, refl)) (omega arith) (sym (tells_entries Directed arrows marks arrow_list on_arrows), (refl, tt)) refl
      (_, refl, ([], (one_component, refl, component_is), ([], refl, refl)));
  cdlp = files_so (Cdlp 1) first_labels (omega arith, (tt, refl)) (omega arith) (sym (tells_entries Directed arrows marks arrow_list on_arrows), (refl, tt)) refl
      (_, refl, ([], (first_labels, refl, labels_are 1 first_labels refl (refl, (refl, (refl, tt)))), ([], refl, refl)));
  cdlp_of_no_round = λ run.
      let files = run.files 0 _ _ refl refl in
      let same : ◌≡◌ {A = ℕ} 1 2 = another_table (Cdlp 0) own_labels first_labels files.2.1.0 (labels_are 0 own_labels refl (refl, (refl, (refl, tt)))) files.2.1.2 (first_table _ _ _ _ _ _ (files.1 ∙ files.2.1.1)) in omega (arith, same);
  no_root = reads_arcs (commands.Run (Bfs 9) (codes "f")) (answers.NoVertex 9) (omega arith, (tt, refl)) (omega arith) (sym (tells_table Directed arrows marks arrow_list on_arrows 9), (refl, tt)) refl ([], refl, ([], refl, ([], refl, refl)));
  no_root_of_paths = reads_arcs (commands.Run (Sssp 9) (codes "f")) (answers.NoVertex 9) (omega arith, (tt, refl)) (omega arith) (sym (tells_table Directed arrows marks arrow_list on_arrows 9), (refl, tt)) refl ([], refl, ([], refl, ([], refl, refl)));
  table_without_a_root = λ run. let e : answers.Table 3 ≡ answers.NoVertex 9 = (run.answered 0 _ refl).1.0 ∙ tells_table Directed arrows marks arrow_list on_arrows 9 in cc;
  unfiled = λ run. let files = run.files 0 _ [] refl refl in let e = files.1 ∙ files.2.1.1 in cc;
}

-- ---- turns

-- how many rows a graph has, and how many arcs lead out of a vertex
module _ (kind : Kind) (ws : List Write) where
  abbrev rows_of_all : ℕ
  rows_of_all = length (rows_in (marks_after_all ws []) (arcs_after_all kind ws []) first_key end_key)

  all_rows_are : length (all_rows (apply_all kind empty_graph ws)) ≡ rows_of_all
  all_rows_are = ap length (rows_at _ _ _ (entries_made kind ws) first_key end_key)

  turns_for_all : (n : ℕ) → rows_of_all ≡ n → length (all_rows (apply_all kind empty_graph ws)) / 64 + 1 ≡ n / 64 + 1
  turns_for_all n is = ap (λ m. m / 64 + 1) (all_rows_are ∙ is)

  turns_for_targets : (v n : ℕ) → length (targets_in kind (apply_all kind empty_graph ws) (marks_after_all ws []) (arcs_after_all kind ws []) (entries_made kind ws) v) ≡ n
      → length (targets_of (apply_all kind empty_graph ws) v) / 64 + 1 ≡ n / 64 + 1
  turns_for_targets v n is = ap (λ m. m / 64 + 1) (ap length (targets_at kind _ _ _ (entries_made kind ws) v) ∙ is)

pub line_turns : LineTurnExamples
line_turns = record {
  kernel = turns_for_all Undirected (vertices_to 63) 63 refl;
  longer_kernel = turns_for_all Undirected (vertices_to 64) 64 refl;
  no_root = turns_for_all Undirected (vertices_to 64) 64 refl;
  neighbours = turns_for_targets Directed (star 63) 64 63 refl;
  more_neighbours = turns_for_targets Directed (star 64) 65 64 refl;
  no_neighbours = turns_for_targets Directed (star 64) 1 0 refl;
  arcs = turns_for_all Directed (star 31) 63 refl;
  more_arcs = turns_for_all Directed (star 32) 65 refl;
  two_a_edge = turns_for_all Undirected (star 21) 64 refl;
  weight = refl;
  write = refl;
  skipped = refl;
}
