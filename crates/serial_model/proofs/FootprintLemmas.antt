-- A line has one answer on all graphs that agree at the keys of its footprint.
use Rattle.std.proofs.Common.{◌≡◌, ℕ, ◌+◌, ◌-◌, map, refl, sym, ◌∙◌, ap, subst, arith, cond}
use Rattle.std.specs.Prelude.{Bool, true, false, ◌==◌, ◌||◌, is_some, Option, Some, None}
use Rattle.std.specs.List.{list_any}
use Rattle.std.specs.FinMap as fin_map
use Rattle.std.specs.FinMap.Entries.{where_key, is_sorted-where_key}
use Rattle.std.proofs.lemmas.Bool.{or_left, or_right, true≢false}
use Rattle.std.proofs.lemmas.Bool.Decides.{nat_tests}
use Rattle.graph_model.specs.declared.write.Kind.{Kind}
use Rattle.graph_model.specs.declared.write.Kind.TheVariants.{Directed, Undirected}
use Rattle.graph_model.specs.declared.write.Write.{Write}
use Rattle.graph_model.specs.declared.write.Write.TheVariants.{AddVertex, DropVertex, AddEdge, SetEdge, DropEdge}
use Rattle.graph_model.specs.declared.row.Key.{Key}
use Rattle.graph_model.specs.declared.row.Row.{Row}
use Rattle.graph_model.specs.declared.refusal.Refusal.{Refusal}
use Rattle.graph_model.specs.declared.refusal.Refusal.TheVariants.{SelfLoop, VertexExists, EdgeExists, NoEdge, HasEdges, NoVertex}
use Rattle.graph_model.specs.Graph.{Graph, has_vertex, weight_of, has_arc, has_edges, IsSymmetric}
use Rattle.graph_model.specs.Refused.{unless_ends, refused}
use Rattle.graph_model.specs.Rows.{key_cmp, vertex_key, arc_key, is_between, row_map, rows, value_at}
use Rattle.graph_model.specs.Effects.{same_key, arc_keys}
use Rattle.graph_model.proofs.TestLemmas.{self_eq}
use Rattle.graph_model.proofs.GraphLemmas.{same_graph, no_edges, has_no_edges}
use Rattle.graph_model.proofs.SortedLemmas.{true_from_T}
use Rattle.graph_model.proofs.RowLemmas.{find-entries, rows_of_values}
use Rattle.graph_model.proofs.KeyLemmas.{same_key_test}
use Rattle.run_model.specs.declared.command.Command.{Command}
use Rattle.run_model.specs.declared.command.Command.TheVariants as commands
use Rattle.run_model.specs.declared.command.Query.{Query}
use Rattle.run_model.specs.declared.command.Query.TheVariants.{WeightOf, NeighboursOf, Counts}
use Rattle.run_model.specs.Answering.{targets_of, weight_answer, query_answer, kernel_answer, IsKernelTable}
use Rattle.run_model.specs.declared.answer.Answer.TheVariants as answers
use Rattle.serial_model.specs.Footprints.{is_from, is_at_edge, is_at_removal, write_depends, read_depends, depends}
use Rattle.serial_model.specs.SerialRun.{HasSameAnswer}
use Rattle.serial_model.specs.Laws.{AnswersDependOnFootprints}

-- ---- what a graph has, by its keys

vertex_seen : (g : Graph) (v : ℕ) → is_some (value_at g (vertex_key v)) ≡ has_vertex g v
vertex_seen g v = there (has_vertex g v)
  where
    there : (t : Bool) → is_some {T = ℕ} (cond t (Some 0) None) ≡ t
    there true = refl
    there false = refl

not_zero : (v : ℕ) → (v + 1 == 0) ≡ false
not_zero v = grind (arith, nat_tests)

weight_seen : (g : Graph) (u v : ℕ) → value_at g (arc_key u v) ≡ weight_of g u v
weight_seen g u v =
    let back : v + 1 - 1 ≡ v = omega arith in
    ap (λ t. cond t (cond (has_vertex g u) (Some 0) None) (weight_of g u (v + 1 - 1))) (not_zero v) ∙ ap (weight_of g u) back

-- ---- the rows out of a vertex

-- a key between that of the first arc out of v and that of the next vertex is v's
source_is : (v : ℕ) (q : Key) → is_between (record { src = v; second = 1 }) (record { src = v + 1; second = 0 }) q ≡ true → q.src ≡ v
source_is v q e = by_numbers v q.src q.second e
  where
    by_numbers : (v src second : ℕ) → is_between (record { src = v; second = 1 }) (record { src = v + 1; second = 0 }) (record { src = src; second = second }) ≡ true → src ≡ v
    by_numbers v src second e = grind (arith, nat_tests)

module _ (g h : Graph) where
  -- graphs that agree on a range have the same rows there
  pub rows_same : (from until : Key) → ((q : Key) → is_between from until q ≡ true → value_at g q ≡ value_at h q) → rows g from until ≡ rows h from until
  rows_same from until same = rows_of_values h from until (where_key key_cmp (is_between from until) (fin_map.entries (row_map g)))
      (true_from_T _ (is_sorted-where_key key_cmp (is_between from until) (fin_map.entries (row_map g)) (fin_map.entries_sorted (row_map g))))
      (λ q. find-entries g from until q ∙ by_test q (is_between from until q) refl)
    where
      by_test : (q : Key) (t : Bool) → is_between from until q ≡ t → cond t (value_at g q) None ≡ cond t (value_at h q) None
      by_test q true e = same q e
      by_test q false e = refl

  -- graphs that agree at all keys are one
  pub graph_same : ((q : Key) → value_at g q ≡ value_at h q) → g ≡ h
  graph_same same = same_graph g h
      (λ v. sym (vertex_seen g v) ∙ ap is_some (same (vertex_key v)) ∙ vertex_seen h v)
      (λ u v. sym (weight_seen g u v) ∙ same (arc_key u v) ∙ weight_seen h u v)

  targets_same : (v : ℕ) → ((q : Key) → is_from v q ≡ true → value_at g q ≡ value_at h q) → targets_of g v ≡ targets_of h v
  targets_same v same = ap (map (λ (r : Row). r.key.second - 1))
      (rows_same (record { src = v; second = 1 }) (record { src = v + 1; second = 0 }) (λ q e. same q (ap (λ n. n == v) (source_is v q e) ∙ self_eq v)))

  -- ---- writes

  module _ (kind : Kind) (u v : ℕ) (same : (q : Key) → is_at_edge kind u v q ≡ true → value_at g q ≡ value_at h q) where
    first_end : has_vertex g u ≡ has_vertex h u
    first_end = sym (vertex_seen g u) ∙ ap is_some (same (vertex_key u) (or_left _ _ (or_left _ _ (same_key_test (vertex_key u) (vertex_key u) refl)))) ∙ vertex_seen h u

    second_end : has_vertex g v ≡ has_vertex h v
    second_end = sym (vertex_seen g v)
        ∙ ap is_some (same (vertex_key v) (or_left _ _ (or_right (same_key (vertex_key v) (vertex_key u)) _ (same_key_test (vertex_key v) (vertex_key v) refl))))
        ∙ vertex_seen h v

    its_arc : (kind : Kind) → list_any (same_key (arc_key u v)) (arc_keys kind u v) ≡ true
    its_arc Directed = or_left _ _ (same_key_test (arc_key u v) (arc_key u v) refl)
    its_arc Undirected = or_right (same_key (arc_key u v) (arc_key v u)) _ (or_left _ _ (same_key_test (arc_key u v) (arc_key u v) refl))

    arc_same : has_arc g u v ≡ has_arc h u v
    arc_same = ap is_some (sym (weight_seen g u v) ∙ same (arc_key u v) (or_right (same_key (arc_key u v) (vertex_key u) || same_key (arc_key u v) (vertex_key v)) _ (its_arc kind)) ∙ weight_seen h u v)

    unless_same : (x y : Bool → Option Refusal) → x ≡ y → unless_ends g u v (x (has_arc g u v)) ≡ unless_ends h u v (y (has_arc h u v))
    unless_same x y e = λ i. cond (u == v) (Some SelfLoop) (cond (first_end i) (cond (second_end i) (e i (arc_same i)) (Some (NoVertex v))) (Some (NoVertex u)))

  -- which edges a vertex has, where all keys agree or, without directions, those from it
  edges_from : (x y : Graph) (v : ℕ) → ((a b : ℕ) → ((a == v) || (b == v)) ≡ true → weight_of x a b ≡ weight_of y a b) → has_edges x v ≡ has_edges y v
  edges_from x y v same = by_both (has_edges x v) (has_edges y v) refl refl
    where
      by_both : (s t : Bool) → has_edges x v ≡ s → has_edges y v ≡ t → s ≡ t
      by_both true true e f = refl
      by_both false false e f = refl
      by_both true false e f = absurd (true≢false (sym e ∙ has_no_edges x v (λ a b touches. same a b touches ∙ no_edges y v f a b touches)))
      by_both false true e f = absurd (true≢false (sym f ∙ has_no_edges y v (λ a b touches. sym (same a b touches) ∙ no_edges x v e a b touches)))

  module _ (v : ℕ) (g_symmetric : IsSymmetric g) (h_symmetric : IsSymmetric h) (same : (q : Key) → is_from v q ≡ true → value_at g q ≡ value_at h q) where
    out_of : (a b : ℕ) → (a == v) ≡ true → weight_of g a b ≡ weight_of h a b
    out_of a b e = sym (weight_seen g a b) ∙ same (arc_key a b) e ∙ weight_seen h a b

    at_vertex_same : (a b : ℕ) (s : Bool) → (a == v) ≡ s → (s || (b == v)) ≡ true → weight_of g a b ≡ weight_of h a b
    at_vertex_same a b true e touches = out_of a b e
    at_vertex_same a b false e touches = g_symmetric a b ∙ out_of b a touches ∙ h_symmetric b a

    edges_same : has_edges g v ≡ has_edges h v
    edges_same = edges_from g h v (λ a b touches. at_vertex_same a b (a == v) refl touches)

  removal_same : (kind : Kind) (v : ℕ) → (kind ≡ Undirected → IsSymmetric g) → (kind ≡ Undirected → IsSymmetric h) → ((q : Key) → is_at_removal kind v q ≡ true → value_at g q ≡ value_at h q)
      → refused g (DropVertex v) ≡ refused h (DropVertex v)
  removal_same Directed v gs hs same = ap (λ x. refused x (DropVertex v)) (graph_same (λ q. same q refl))
  removal_same Undirected v gs hs same =
      let vertex : has_vertex g v ≡ has_vertex h v = sym (vertex_seen g v) ∙ ap is_some (same (vertex_key v) (self_eq v)) ∙ vertex_seen h v in
      λ i. cond (vertex i) (cond (edges_same v (gs refl) (hs refl) same i) (Some HasEdges) None) (Some (NoVertex v))

-- ---- lines

module _ (kind : Kind) (g h : Graph) (gs : kind ≡ Undirected → IsSymmetric g) (hs : kind ≡ Undirected → IsSymmetric h) where
  write_same : (w : Write) → ((q : Key) → write_depends kind w q ≡ true → value_at g q ≡ value_at h q) → refused g w ≡ refused h w
  write_same (AddVertex v) same =
      let vertex : has_vertex g v ≡ has_vertex h v = sym (vertex_seen g v) ∙ ap is_some (same (vertex_key v) (same_key_test (vertex_key v) (vertex_key v) refl)) ∙ vertex_seen h v in
      ap (λ t. cond t (Some VertexExists) None) vertex
  write_same (DropVertex v) same = removal_same g h kind v gs hs same
  write_same (AddEdge u v weight) same = unless_same g h kind u v same (λ t. cond t (Some EdgeExists) None) (λ t. cond t (Some EdgeExists) None) refl
  write_same (SetEdge u v weight) same = unless_same g h kind u v same (λ t. cond t None (Some NoEdge)) (λ t. cond t None (Some NoEdge)) refl
  write_same (DropEdge u v) same = unless_same g h kind u v same (λ t. cond t None (Some NoEdge)) (λ t. cond t None (Some NoEdge)) refl

  read_same : (query : Query) → ((q : Key) → read_depends query q ≡ true → value_at g q ≡ value_at h q) → query_answer kind g query ≡ query_answer kind h query
  read_same (WeightOf u v) same = ap weight_answer (sym (weight_seen g u v) ∙ same (arc_key u v) (same_key_test (arc_key u v) (arc_key u v) refl) ∙ weight_seen h u v)
  read_same (NeighboursOf v) same =
      let vertex : has_vertex g v ≡ has_vertex h v = sym (vertex_seen g v) ∙ ap is_some (same (vertex_key v) (self_eq v)) ∙ vertex_seen h v in
      λ i. cond (vertex i) (answers.Neighbours (targets_same g h v same i)) (answers.NoVertex v)
  read_same Counts same = ap (λ x. query_answer kind x Counts) (graph_same g h (λ q. same q refl))

  -- graphs that agree at the keys of a line's footprint give it one answer
  pub answer_same : (r : Command) → ((q : Key) → depends kind r q ≡ true → value_at g q ≡ value_at h q) → HasSameAnswer kind g h r
  answer_same commands.Begin same = tt
  answer_same commands.Commit same = tt
  answer_same commands.Abort same = tt
  answer_same (commands.Write w) same = write_same w same
  answer_same (commands.Read query) same = read_same query same
  answer_same (commands.Run kernel file) same =
      let one : g ≡ h = graph_same g h (λ q. same q refl) in
      (ap (λ x. kernel_answer x kernel) one, λ table. (subst (λ x. IsKernelTable kind x kernel table) one, subst (λ x. IsKernelTable kind x kernel table) (sym one)))

pub answers_depend : AnswersDependOnFootprints
answers_depend kind g h r gs hs same = answer_same kind g h gs hs r same
