-- Which rows of a write that its view allows are there.
use Rattle.std.proofs.Common.{◌≡◌, ℕ, ◌+◌, ◌-◌, ◌≤◌, List, [], ◌∷◌, refl, sym, ◌∙◌, ap, cond, arith}
use Rattle.std.specs.Prelude.{Bool, true, false, not, ◌==◌, Option, Some, None, is_some, count_by}
use Rattle.std.specs.FinMap.Entries.{find}
use Rattle.std.proofs.lemmas.Bool.Decides.{nat_tests}
use Rattle.graph_model.specs.declared.journal.TxnName.{TxnName}
use Rattle.graph_model.specs.declared.refusal.Refusal.TheVariants.{EdgeExists, HasEdges, NoEdge, NoVertex}
use Rattle.graph_model.specs.declared.row.Key.{Key}
use Rattle.graph_model.specs.declared.write.Kind.{Kind}
use Rattle.graph_model.specs.declared.write.Kind.TheVariants.{Directed, Undirected}
use Rattle.graph_model.specs.declared.write.Write.{Write}
use Rattle.graph_model.specs.declared.write.Write.TheVariants.{AddVertex, DropVertex, AddEdge, SetEdge, DropEdge}
use Rattle.graph_model.specs.Graph.{Graph, has_arc, has_edges, has_vertex, weight_of}
use Rattle.graph_model.specs.Refused.{refused}
use Rattle.graph_model.specs.Rows.{arc_key, key_cmp, value_at, vertex_key}
use Rattle.graph_model.proofs.ViewLemmas.{view_symmetric}
use Rattle.graph_model.proofs.WriteLemmas.{allowed_ends}
use Rattle.store_model.specs.Stamped.{StampedVersions, read_stamped}
use Rattle.undo_chain.specs.declared.states.Snapshot.{Snapshot}
use Rattle.pass_prunes.specs.VersionSegment.Rows.{or_nothing}
use Rattle.pass_prunes.specs.RowWrites.Checks.{ShowsHeld}
use Rattle.pass_prunes.specs.RowWrites.Held.{AreHeld, HeldRows}
use Rattle.pass_prunes.specs.RowWrites.Laying.{MayLay}
use Rattle.pass_prunes.specs.RowWrites.Written.{all_keys, rows_of}
use Rattle.pass_prunes.specs.StoreRelation.Passes.{PassState}
use Rattle.pass_prunes.specs.PassCells.Changes.{MissesFew}
use Rattle.pass_prunes.specs.PassCellsDeclared.taken.TakenCell.{TakenCell}
use Rattle.pass_prunes.specs.PassCells.Taken.{cell_at, held_rows}
use Rattle.pass_writes.specs.Found.{view_of}

-- ---- values at keys

not_zero : (v : ℕ) → (v + 1 == 0) ≡ false
not_zero v = grind (arith, nat_tests)

weight_is_value : (g : Graph) (u v : ℕ) → value_at g (arc_key u v) ≡ weight_of g u v
weight_is_value g u v =
    let back : v + 1 - 1 ≡ v = omega arith in
    ap (λ t. cond t (cond (has_vertex g u) (Some 0) None) (weight_of g u (v + 1 - 1))) (not_zero v)
    ∙ ap (weight_of g u) back

one_or_none : (t : Bool) → cond t 1 0 ≤ 1
one_or_none true = omega arith
one_or_none false = omega arith

none_missing : (t : Bool) → t ≡ true → ◌≡◌ {A = ℕ} (cond (not t) 1 0) 0
none_missing true e = refl
none_missing false e = cc

old_edge : (t : Bool) → cond t None (Some NoEdge) ≡ None → t ≡ true
old_edge true is = refl
old_edge false is = cc

-- ---- rows of what is seen

module _ (ts : List TakenCell) (stamps : TxnName → Option ℕ) (snapshot : Snapshot) (g : Graph)
    (shows : ShowsHeld stamps snapshot (held_rows ts) g) where
  abbrev c : HeldRows
  c = held_rows ts

  -- a key with a value has a row
  value_has_row : (k : Key) (w : ℕ) → c.holds k ≡ true → value_at g k ≡ Some w → c.has_row k ≡ true
  value_has_row k w held is =
      there (find key_cmp k (cell_at ts k).rows) (shows k held ∙ is)
    where
      there : (x : Option StampedVersions)
          → read_stamped stamps snapshot.start snapshot.own (or_nothing x) ≡ Some w → is_some x ≡ true
      there None e = let no : ◌≡◌ {A = Option ℕ} None (Some w) = e in cc
      there (Some vs) e = refl

  vertex_there : (v : ℕ) → c.holds (vertex_key v) ≡ true → has_vertex g v ≡ true → c.has_row (vertex_key v) ≡ true
  vertex_there v held is = value_has_row (vertex_key v) 0 held (ap (λ t. cond t (Some 0) None) is)

  arc_there : (u v : ℕ) → c.holds (arc_key u v) ≡ true → has_arc g u v ≡ true → c.has_row (arc_key u v) ≡ true
  arc_there u v held is = by_weight (weight_of g u v) refl
    where
      by_weight : (x : Option ℕ) → weight_of g u v ≡ x → c.has_row (arc_key u v) ≡ true
      by_weight None e = let no : false ≡ true = ap is_some (sym e) ∙ is in cc
      by_weight (Some w) e = value_has_row (arc_key u v) w held (weight_is_value g u v ∙ e)

  -- MAY LAY: an edge that is allowed has two ends with rows
  pub may_lay : (kind : Kind) (w : Write) → AreHeld c (all_keys (rows_of kind w)) → refused g w ≡ None → MayLay c w
  may_lay kind (AddVertex v) held allowed = tt
  may_lay kind (DropVertex v) held allowed = tt
  may_lay Directed (AddEdge u v weight) held allowed =
      let ends = allowed_ends g u v (cond (has_arc g u v) (Some EdgeExists) None) allowed in
      record {
        apart = ends.0;
        source = vertex_there u held.1.0 ends.1;
        target = vertex_there v held.1.1.0 ends.2;
      }
  may_lay Undirected (AddEdge u v weight) held allowed =
      let ends = allowed_ends g u v (cond (has_arc g u v) (Some EdgeExists) None) allowed in
      record {
        apart = ends.0;
        source = vertex_there u held.1.1.0 ends.1;
        target = vertex_there v held.1.1.1.0 ends.2;
      }
  may_lay kind (SetEdge u v weight) held allowed =
      (allowed_ends g u v (cond (has_arc g u v) None (Some NoEdge)) allowed).0
  may_lay kind (DropEdge u v) held allowed =
      (allowed_ends g u v (cond (has_arc g u v) None (Some NoEdge)) allowed).0

  -- of one row or two at most so many are missing
  missing_one : (k : Key) → count_by (λ q. not (c.has_row q)) (k ∷ []) ≤ 1
  missing_one k = let one = one_or_none (not (c.has_row k)) in
      let all : count_by (λ q. not (c.has_row q)) (k ∷ []) ≡ 0 + cond (not (c.has_row k)) 1 0 =
      refl in omega (arith, one, all)

  missing_two : (j k : Key) → count_by (λ q. not (c.has_row q)) (j ∷ k ∷ []) ≤ 2
  missing_two j k =
      let one = one_or_none (not (c.has_row j)) in
      let other = one_or_none (not (c.has_row k)) in
      let all : count_by (λ q. not (c.has_row q)) (j ∷ k ∷ [])
      ≡ 0 + cond (not (c.has_row j)) 1 0 + cond (not (c.has_row k)) 1 0 = refl in
      omega (arith, one, other, all)

  here_one : (k : Key) → c.has_row k ≡ true → count_by (λ q. not (c.has_row q)) (k ∷ []) ≤ 0
  here_one k is = let one = none_missing (c.has_row k) is in
      let all : count_by (λ q. not (c.has_row q)) (k ∷ []) ≡ 0 + cond (not (c.has_row k)) 1 0 =
      refl in omega (arith, one, all)

  here_two : (j k : Key) → c.has_row j ≡ true → c.has_row k ≡ true
      → count_by (λ q. not (c.has_row q)) (j ∷ k ∷ []) ≤ 0
  here_two j k first second =
      let one = none_missing (c.has_row j) first in
      let other = none_missing (c.has_row k) second in
      let all : count_by (λ q. not (c.has_row q)) (j ∷ k ∷ [])
      ≡ 0 + cond (not (c.has_row j)) 1 0 + cond (not (c.has_row k)) 1 0 = refl in
      omega (arith, one, other, all)

  edge_there : (u v : ℕ) (arc : has_arc g u v ≡ true) (turned : weight_of g u v ≡ weight_of g v u)
      → c.holds (arc_key v u) ≡ true → c.holds (arc_key u v) ≡ true
      → count_by (λ q. not (c.has_row q)) (arc_key v u ∷ arc_key u v ∷ []) ≤ 0
  edge_there u v arc turned back row =
      here_two (arc_key v u) (arc_key u v) (arc_there v u back (ap is_some (sym turned) ∙ arc)) (arc_there u v row arc)

-- FEW: no write that is allowed brings more rows than it inserts
pub misses_few : (ts : List TakenCell) (stamps : TxnName → Option ℕ) (snapshot : Snapshot) (kind : Kind)
    (st : PassState)
    → ShowsHeld stamps snapshot (held_rows ts) (view_of kind st)
    → (w : Write) → AreHeld (held_rows ts) (all_keys (rows_of kind w)) → refused (view_of kind st) w ≡ None
    → MissesFew kind (held_rows ts) w
misses_few ts stamps snapshot kind st shows (AddVertex v) held allowed =
    missing_one ts stamps snapshot (view_of kind st) shows (vertex_key v)
misses_few ts stamps snapshot kind st shows (DropVertex v) held allowed =
    here_one ts stamps snapshot (view_of kind st) shows (vertex_key v)
    (vertex_there ts stamps snapshot (view_of kind st) shows v held.0
    (there (has_vertex (view_of kind st) v) (has_edges (view_of kind st) v) allowed))
  where
    there : (t e : Bool) → cond t (cond e (Some HasEdges) None) (Some (NoVertex v)) ≡ None → t ≡ true
    there true e is = refl
    there false e is = cc
misses_few ts stamps snapshot Directed st shows (AddEdge u v weight) held allowed =
    missing_one ts stamps snapshot (view_of Directed st) shows (arc_key u v)
misses_few ts stamps snapshot Undirected st shows (AddEdge u v weight) held allowed =
    missing_two ts stamps snapshot (view_of Undirected st) shows (arc_key v u) (arc_key u v)
misses_few ts stamps snapshot Directed st shows (SetEdge u v weight) held allowed =
    here_one ts stamps snapshot (view_of Directed st) shows (arc_key u v)
    (arc_there ts stamps snapshot (view_of Directed st) shows u v held.0 (old_edge (has_arc (view_of Directed st) u v)
    (allowed_ends (view_of Directed st) u v (cond (has_arc (view_of Directed st) u v) None (Some NoEdge)) allowed).3))
misses_few ts stamps snapshot Undirected st shows (SetEdge u v weight) held allowed =
    edge_there ts stamps snapshot (view_of Undirected st) shows u v
    (old_edge (has_arc (view_of Undirected st) u v)
    (allowed_ends (view_of Undirected st) u v
    (cond (has_arc (view_of Undirected st) u v) None (Some NoEdge)) allowed).3)
    (view_symmetric st.seen st.start st.own u v) held.0 held.1.0
misses_few ts stamps snapshot Directed st shows (DropEdge u v) held allowed =
    here_one ts stamps snapshot (view_of Directed st) shows (arc_key u v)
    (arc_there ts stamps snapshot (view_of Directed st) shows u v held.0 (old_edge (has_arc (view_of Directed st) u v)
    (allowed_ends (view_of Directed st) u v (cond (has_arc (view_of Directed st) u v) None (Some NoEdge)) allowed).3))
misses_few ts stamps snapshot Undirected st shows (DropEdge u v) held allowed =
    edge_there ts stamps snapshot (view_of Undirected st) shows u v
    (old_edge (has_arc (view_of Undirected st) u v)
    (allowed_ends (view_of Undirected st) u v
    (cond (has_arc (view_of Undirected st) u v) None (Some NoEdge)) allowed).3)
    (view_symmetric st.seen st.start st.own u v) held.0 held.1.0
