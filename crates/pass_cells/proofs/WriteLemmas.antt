-- A write that the view allows has its rows among those in hand.
use Rattle.std.proofs.Common.{◌≡◌, ℕ, ◌+◌, ◌-◌, ◌≤◌, List, [], ◌∷◌, refl, sym, ◌∙◌, ap, cond, arith}
use Rattle.std.specs.Prelude.{Bool, true, false, ◌==◌, not, Option, Some, None, is_some, count_by}
use Rattle.std.specs.FinMap.Entries.{find}
use Rattle.std.proofs.lemmas.Bool.Decides.{nat_tests}
use Rattle.graph_model.specs.declared.write.Kind.{Kind}
use Rattle.graph_model.specs.declared.write.Kind.TheVariants.{Directed, Undirected}
use Rattle.graph_model.specs.declared.write.Write.{Write}
use Rattle.graph_model.specs.declared.write.Write.TheVariants.{AddVertex, DropVertex, AddEdge, SetEdge, DropEdge}
use Rattle.graph_model.specs.declared.journal.TxnName.{TxnName}
use Rattle.graph_model.specs.declared.row.Key.{Key}
use Rattle.graph_model.specs.declared.refusal.Refusal.TheVariants.{EdgeExists, HasEdges, NoVertex, NoEdge}
use Rattle.graph_model.specs.Effects.{arc_keys}
use Rattle.graph_model.specs.Graph.{Graph, has_vertex, has_arc, has_edges, weight_of}
use Rattle.graph_model.specs.Inserted.{inserted_by}
use Rattle.graph_model.specs.Refused.{refused}
use Rattle.graph_model.specs.Rows.{key_cmp, vertex_key, arc_key, value_at}
use Rattle.graph_model.proofs.WriteLemmas.{allowed_ends}
use Rattle.store_model.specs.Stamped.{StampedVersions, read_stamped}
use Rattle.undo_chain.specs.declared.states.Snapshot.{Snapshot}
use Rattle.row_writes.specs.VersionSegment.Rows.{or_nothing}
use Rattle.row_writes.specs.Checks.{ShowsHeld}
use Rattle.row_writes.specs.Held.{AreHeld}
use Rattle.row_writes.specs.Laying.{MayLay, rows_missing}
use Rattle.row_writes.specs.Written.{all_keys, of_edge, rows_of}
use Rattle.pass_cells.specs.declared.taken.TakenCell.{TakenCell}
use Rattle.pass_cells.specs.Changes.{FitsKind, MissesFew, WritesHaveRows}
use Rattle.pass_cells.specs.Taken.{cell_at, has_cell, held_rows}

one_or_none : (t : Bool) → cond t 1 0 ≤ 1
one_or_none true = omega arith
one_or_none false = omega arith

none_missing : (t : Bool) → t ≡ true → ◌≡◌ {A = ℕ} (cond (not t) 1 0) 0
none_missing true e = refl
none_missing false e = cc

not_zero : (v : ℕ) → (v + 1 == 0) ≡ false
not_zero v = grind (arith, nat_tests)

-- an arc's row has its weight
weight_is_value : (g : Graph) (u v : ℕ) → value_at g (arc_key u v) ≡ weight_of g u v
weight_is_value g u v =
    let back : v + 1 - 1 ≡ v = omega arith in
    ap (λ t. cond t (cond (has_vertex g u) (Some 0) None) (weight_of g u (v + 1 - 1))) (not_zero v)
    ∙ ap (weight_of g u) back

module _ (ts : List TakenCell) (stamps : TxnName → Option ℕ) (snapshot : Snapshot) (g : Graph)
    (shows : ShowsHeld stamps snapshot (held_rows ts) g) where
  abbrev there : Key → Bool
  there k = (held_rows ts).has_row k

  -- a key with a value has a row
  row_has_row : (k : Key) (w : ℕ)
      → read_stamped stamps snapshot.start snapshot.own ((held_rows ts).versions k) ≡ Some w → there k ≡ true
  row_has_row k w is = found (find key_cmp k (cell_at ts k).rows) is
    where
      found : (x : Option StampedVersions) → read_stamped stamps snapshot.start snapshot.own (or_nothing x) ≡ Some w
          → is_some x ≡ true
      found None e = let no : ◌≡◌ {A = Option ℕ} None (Some w) = e in cc
      found (Some vs) e = refl

  -- a vertex of the view has a row
  vertex_there : (v : ℕ) → has_cell ts (vertex_key v) ≡ true → has_vertex g v ≡ true → there (vertex_key v) ≡ true
  vertex_there v held is = row_has_row (vertex_key v) 0 (shows (vertex_key v) held ∙ ap (λ t. cond t (Some 0) None) is)

  -- and an arc
  arc_there : (u v : ℕ) → has_cell ts (arc_key u v) ≡ true → has_arc g u v ≡ true → there (arc_key u v) ≡ true
  arc_there u v held is = by_weight (weight_of g u v) refl
    where
      by_weight : (x : Option ℕ) → weight_of g u v ≡ x → there (arc_key u v) ≡ true
      by_weight None e = let no : false ≡ true = ap is_some (sym e) ∙ is in cc
      by_weight (Some w) e = row_has_row (arc_key u v) w (shows (arc_key u v) held ∙ weight_is_value g u v ∙ e)

  edge_there : (kind : Kind) → FitsKind kind g → (u v : ℕ) → AreHeld (held_rows ts) (arc_keys kind u v)
      → has_arc g u v ≡ true → count_by (λ k. not (there k)) (arc_keys kind u v) ≡ 0
  edge_there Directed fits u v held is =
      let one = none_missing (there (arc_key u v)) (arc_there u v held.0 is) in
      let all : count_by (λ k. not (there k)) (arc_key u v ∷ []) ≡ 0 + cond (not (there (arc_key u v))) 1 0 = refl in
      omega (arith, one, all)
  edge_there Undirected fits u v held is =
      let one = none_missing (there (arc_key u v)) (arc_there u v held.1.0 is) in
      let other = none_missing (there (arc_key v u)) (arc_there v u held.0 (ap is_some (sym (fits u v)) ∙ is)) in
      let all : count_by (λ k. not (there k)) (arc_key v u ∷ arc_key u v ∷ []) ≡ 0 + cond
      (not (there (arc_key v u))) 1 0 + cond (not (there (arc_key u v))) 1 0 = refl in
      omega (arith, one, other, all)

  arcs_held : (kind : Kind) (u v : ℕ) (value : Option ℕ) → AreHeld (held_rows ts) (all_keys (of_edge kind u v value))
      → AreHeld (held_rows ts) (arc_keys kind u v)
  arcs_held Directed u v value held = (held.0, tt)
  arcs_held Undirected u v value held = (held.0, (held.1.0, tt))

  ends_held : (kind : Kind) (u v : ℕ) (value : Option ℕ) → AreHeld (held_rows ts) (all_keys (of_edge kind u v value))
      → (has_cell ts (vertex_key u) ≡ true) × (has_cell ts (vertex_key v) ≡ true)
  ends_held Directed u v value held = (held.1.0, held.1.1.0)
  ends_held Undirected u v value held = (held.1.1.0, held.1.1.1.0)

  old_edge : (t : Bool) → cond t None (Some NoEdge) ≡ None → t ≡ true
  old_edge true is = refl
  old_edge false is = cc

  few_of_edge : (kind : Kind) → FitsKind kind g → (u v : ℕ) (value : Option ℕ)
      → AreHeld (held_rows ts) (all_keys (of_edge kind u v value)) → has_arc g u v ≡ true
      → rows_missing (held_rows ts) (of_edge kind u v value) ≤ 0
  few_of_edge Directed fits u v value held is = let none =
      edge_there Directed fits u v (arcs_held Directed u v value held) is in omega (arith, none)
  few_of_edge Undirected fits u v value held is = let none =
      edge_there Undirected fits u v (arcs_held Undirected u v value held) is in omega (arith, none)

  few_of_arcs : (kind : Kind) (u v weight : ℕ)
      → rows_missing (held_rows ts) (rows_of kind (AddEdge u v weight)) ≤ inserted_by kind (AddEdge u v weight)
  few_of_arcs Directed u v weight =
      let one = one_or_none (not (there (arc_key u v))) in
      let all : count_by (λ k. not (there k)) (arc_key u v ∷ []) ≡ 0 + cond (not (there (arc_key u v))) 1 0 = refl in
      omega (arith, one, all)
  few_of_arcs Undirected u v weight =
      let one = one_or_none (not (there (arc_key u v))) in
      let other = one_or_none (not (there (arc_key v u))) in
      let all : count_by (λ k. not (there k)) (arc_key v u ∷ arc_key u v ∷ []) ≡ 0 + cond
      (not (there (arc_key v u))) 1 0 + cond (not (there (arc_key u v))) 1 0 = refl in
      omega (arith, one, other, all)

  pub has_rows : (kind : Kind) (w : Write) → FitsKind kind g → AreHeld (held_rows ts) (all_keys (rows_of kind w))
      → refused g w ≡ None
      → MayLay (held_rows ts) w × MissesFew kind (held_rows ts) w
  has_rows kind (AddVertex v) fits held allowed =
      let one = one_or_none (not (there (vertex_key v))) in
      let all : count_by (λ k. not (there k)) (vertex_key v ∷ []) ≡ 0 + cond (not (there (vertex_key v))) 1 0 = refl in
      (tt, omega (arith, one, all))
  has_rows kind (DropVertex v) fits held allowed =
      let none = none_missing (there (vertex_key v))
      (vertex_there v held.0 (dropped (has_vertex g v) (has_edges g v) allowed)) in
      let all : count_by (λ k. not (there k)) (vertex_key v ∷ []) ≡ 0 + cond (not (there (vertex_key v))) 1 0 = refl in
      (tt, omega (arith, none, all))
    where
      dropped : (t e : Bool) → cond t (cond e (Some HasEdges) None) (Some (NoVertex v)) ≡ None → t ≡ true
      dropped true e is = refl
      dropped false e is = cc
  has_rows kind (AddEdge u v weight) fits held allowed =
      let ends = allowed_ends g u v (cond (has_arc g u v) (Some EdgeExists) None) allowed in
      let held_ends = ends_held kind u v (Some weight) held in (
        record {
          apart = ends.0;
          source = vertex_there u held_ends.0 ends.1;
          target = vertex_there v held_ends.1
              ends.2;
        },
        few_of_arcs kind u v weight,
      )
  has_rows kind (SetEdge u v weight) fits held allowed =
      let ends = allowed_ends g u v (cond (has_arc g u v) None (Some NoEdge)) allowed in
      (ends.0, few_of_edge kind fits u v (Some weight) held (old_edge (has_arc g u v) ends.3))
  has_rows kind (DropEdge u v) fits held allowed =
      let ends = allowed_ends g u v (cond (has_arc g u v) None (Some NoEdge)) allowed in
      (ends.0, few_of_edge kind fits u v None held (old_edge (has_arc g u v) ends.3))

pub writes_have_rows : WritesHaveRows
writes_have_rows kind ts stamps snapshot g w shows fits held allowed =
    has_rows ts stamps snapshot g shows kind w fits held allowed
