-- How many rows of a write are missing, and what it may insert.
use Rattle.std.proofs.Common.{◌≡◌, ℕ, ◌+◌, ◌≤◌, [], ◌∷◌, refl, sym, ◌∙◌, ap, cond, arith}
use Rattle.std.specs.Prelude.{Bool, true, false, not, Option, Some, None, is_some, count_by}
use Rattle.std.specs.FinMap.Entries.{find}
use Rattle.graph_model.specs.declared.write.Kind.{Kind}
use Rattle.graph_model.specs.declared.write.Kind.TheVariants.{Directed, Undirected}
use Rattle.graph_model.specs.declared.write.Write.{Write}
use Rattle.graph_model.specs.declared.write.Write.TheVariants.{AddVertex, DropVertex, AddEdge, SetEdge, DropEdge}
use Rattle.graph_model.specs.declared.row.Key.{Key}
use Rattle.graph_model.specs.declared.refusal.Refusal.TheVariants.{HasEdges, NoVertex, NoEdge}
use Rattle.graph_model.specs.Effects.{arc_keys}
use Rattle.graph_model.specs.Graph.{Graph, has_vertex, has_arc, has_edges, weight_of}
use Rattle.graph_model.specs.Inserted.{inserted_by}
use Rattle.graph_model.specs.Refused.{refused}
use Rattle.graph_model.specs.Rows.{key_cmp, vertex_key, arc_key}
use Rattle.graph_model.proofs.WriteLemmas.{allowed_ends}
use Rattle.store_model.specs.Stamped.{StampedVersions, forget_row}
use Rattle.leaf_rows.specs.VersionSegment.Rows.{or_nothing}
use Rattle.leaf_rows.specs.declared.reader.Reader.{Reader}
use Rattle.leaf_rows.specs.Checks.{FitsKind}
use Rattle.leaf_rows.specs.Readers.{Shows, value_for}
use Rattle.leaf_rows.specs.LeafStore.Leaves.{Leaves, contents_of, has_row, cell_at}
use Rattle.leaf_rows.specs.Laying.{missing}
use Rattle.teseo_core.proofs.ValueLemmas.{weight_is_value}

one_or_none : (t : Bool) → cond t 1 0 ≤ 1
one_or_none true = omega arith
one_or_none false = omega arith

missing_arcs : (rows : Leaves) (kind : Kind) (u v : ℕ) → count_by (λ k. not (has_row rows k)) (arc_keys kind u v) ≤ inserted_by kind (AddEdge u v 0)
missing_arcs rows Directed u v =
    let one = one_or_none (not (has_row rows (arc_key u v))) in
    let all : count_by (λ k. not (has_row rows k)) (arc_key u v ∷ []) ≡ 0 + cond (not (has_row rows (arc_key u v))) 1 0 = refl in
    omega (arith, one, all)
missing_arcs rows Undirected u v =
    let one = one_or_none (not (has_row rows (arc_key u v))) in
    let other = one_or_none (not (has_row rows (arc_key v u))) in
    let all : count_by (λ k. not (has_row rows k)) (arc_key v u ∷ arc_key u v ∷ []) ≡ 0 + cond (not (has_row rows (arc_key v u))) 1 0 + cond (not (has_row rows (arc_key u v))) 1 0 = refl in
    omega (arith, one, other, all)

-- a key with a value has a row
row_has_row : (r : Reader) (rows : Leaves) (k : Key) (w : ℕ) → value_for r (contents_of rows k) ≡ Some w → has_row rows k ≡ true
row_has_row r rows k w is = there (find key_cmp k (cell_at rows k).rows) is
  where
    there : (x : Option StampedVersions) → value_for r (forget_row (or_nothing x)) ≡ Some w → is_some x ≡ true
    there None e = let no : ◌≡◌ {A = Option ℕ} None (Some w) = e in cc
    there (Some vs) e = refl

none_missing : (t : Bool) → t ≡ true → ◌≡◌ {A = ℕ} (cond (not t) 1 0) 0
none_missing true e = refl
none_missing false e = cc

module _ (r : Reader) (rows : Leaves) (g : Graph) (shows : Shows r rows g) where
  -- a vertex of the view has a row
  pub vertex_there : (v : ℕ) → has_vertex g v ≡ true → has_row rows (vertex_key v) ≡ true
  vertex_there v is = row_has_row r rows (vertex_key v) 0 (shows (vertex_key v) ∙ ap (λ t. cond t (Some 0) None) is)

  arc_there : (u v : ℕ) → has_arc g u v ≡ true → has_row rows (arc_key u v) ≡ true
  arc_there u v is = by_weight (weight_of g u v) refl
    where
      by_weight : (x : Option ℕ) → weight_of g u v ≡ x → has_row rows (arc_key u v) ≡ true
      by_weight None e = let no : false ≡ true = ap is_some (sym e) ∙ is in cc
      by_weight (Some w) e = row_has_row r rows (arc_key u v) w (shows (arc_key u v) ∙ weight_is_value g u v ∙ e)

  edge_there : (kind : Kind) → FitsKind kind g → (u v : ℕ) → has_arc g u v ≡ true → count_by (λ k. not (has_row rows k)) (arc_keys kind u v) ≡ 0
  edge_there Directed fits u v is = let one = none_missing (has_row rows (arc_key u v)) (arc_there u v is) in let all : count_by (λ k. not (has_row rows k)) (arc_key u v ∷ []) ≡ 0 + cond (not (has_row rows (arc_key u v))) 1 0 = refl in omega (arith, one, all)
  edge_there Undirected fits u v is =
      let one = none_missing (has_row rows (arc_key u v)) (arc_there u v is) in
      let other = none_missing (has_row rows (arc_key v u)) (arc_there v u (ap is_some (sym (fits u v)) ∙ is)) in
      let all : count_by (λ k. not (has_row rows k)) (arc_key v u ∷ arc_key u v ∷ []) ≡ 0 + cond (not (has_row rows (arc_key v u))) 1 0 + cond (not (has_row rows (arc_key u v))) 1 0 = refl in
      omega (arith, one, other, all)

  -- no allowed write makes more rows than it may insert
  pub missing_few : (kind : Kind) → FitsKind kind g → (w : Write) → refused g w ≡ None → missing rows kind w ≤ inserted_by kind w
  missing_few kind fits (AddVertex v) allowed = let one = one_or_none (not (has_row rows (vertex_key v))) in let all : missing rows kind (AddVertex v) ≡ 0 + cond (not (has_row rows (vertex_key v))) 1 0 = refl in omega (arith, one, all)
  missing_few kind fits (DropVertex v) allowed =
      let none = none_missing (has_row rows (vertex_key v)) (vertex_there v (dropped (has_vertex g v) (has_edges g v) allowed)) in
      let all : missing rows kind (DropVertex v) ≡ 0 + cond (not (has_row rows (vertex_key v))) 1 0 = refl in
      omega (arith, none, all)
    where
      dropped : (t e : Bool) → cond t (cond e (Some HasEdges) None) (Some (NoVertex v)) ≡ None → t ≡ true
      dropped true e is = refl
      dropped false e is = cc
  missing_few kind fits (AddEdge u v weight) allowed = edge_few kind
    where
      edge_few : (kind : Kind) → missing rows kind (AddEdge u v weight) ≤ inserted_by kind (AddEdge u v weight)
      edge_few kind = missing_arcs rows kind u v
  missing_few kind fits (SetEdge u v weight) allowed =
      let none = edge_there kind fits u v (old_edge (has_arc g u v) (allowed_ends g u v (cond (has_arc g u v) None (Some NoEdge)) allowed).3) in
      let all : missing rows kind (SetEdge u v weight) ≡ count_by (λ k. not (has_row rows k)) (arc_keys kind u v) = refl in
      omega (arith, none, all)
    where
      old_edge : (t : Bool) → cond t None (Some NoEdge) ≡ None → t ≡ true
      old_edge true is = refl
      old_edge false is = cc
  missing_few kind fits (DropEdge u v) allowed =
      let none = edge_there kind fits u v (old_edge (has_arc g u v) (allowed_ends g u v (cond (has_arc g u v) None (Some NoEdge)) allowed).3) in
      let all : missing rows kind (DropEdge u v) ≡ count_by (λ k. not (has_row rows k)) (arc_keys kind u v) = refl in
      omega (arith, none, all)
    where
      old_edge : (t : Bool) → cond t None (Some NoEdge) ≡ None → t ≡ true
      old_edge true is = refl
      old_edge false is = cc
