-- What a write leaves at a key: its own value at the keys that it writes, and what was there at all others.
use Rattle.std.proofs.Common.{◌≡◌, ℕ, ◌+◌, ◌-◌, List, [], ◌∷◌, ◌++◌, refl, sym, ◌∙◌, ap, cond, arith}
use Rattle.std.specs.Prelude.{Bool, true, false, ◌==◌, ◌&&◌, ◌||◌, Option, Some, None}
use Rattle.std.specs.List.{list_any}
use Rattle.std.proofs.lemmas.Bool.{or_parts}
use Rattle.std.proofs.lemmas.Bool.Decides.{nat_tests}
use Rattle.graph_model.specs.declared.write.Kind.{Kind}
use Rattle.graph_model.specs.declared.write.Kind.TheVariants.{Directed, Undirected}
use Rattle.graph_model.specs.declared.write.Write.{Write}
use Rattle.graph_model.specs.declared.write.Write.TheVariants.{AddVertex, DropVertex, AddEdge, SetEdge, DropEdge}
use Rattle.graph_model.specs.declared.row.Key.{Key}
use Rattle.graph_model.specs.Graph.{Graph, has_vertex, weight_of, apply, apply_all}
use Rattle.graph_model.specs.Items.{cuts_off}
use Rattle.graph_model.specs.Rows.{vertex_key, arc_key, value_at}
use Rattle.graph_model.specs.Effects.{same_key, arc_keys, value_left, writes_at, touches_at, any_writes, value_after}
use Rattle.graph_model.proofs.RowLemmas.{second_tie}
use Rattle.graph_model.proofs.GraphLemmas.{covers, is_about, leaves_vertex, is_about_arc, leaves_weight, has_vertex-apply, weight-apply}

-- ---- the keys of an edge are those of the arcs that it covers

and_cond : (a z b : Bool) → (a && cond z false b) ≡ cond z false (a && b)
and_cond true z b = refl
and_cond false true b = refl
and_cond false false b = refl

or_cond : (z a b : Bool) → (cond z false a || (cond z false b || false)) ≡ cond z false (a || b)
or_cond true a b = refl
or_cond false true b = refl
or_cond false false true = refl
or_cond false false false = refl

or_none : (s : Bool) → (s || false) ≡ s
or_none true = refl
or_none false = refl

arc_tie : (q : Key) (u v : ℕ) → same_key q (arc_key u v) ≡ cond (q.second == 0) false ((q.src == u) && (q.second - 1 == v))
arc_tie q u v = ap (λ b. (q.src == u) && b) (second_tie q.second v) ∙ and_cond (q.src == u) (q.second == 0) (q.second - 1 == v)

-- a key is one of an edge's rows exactly where it is an arc's that the edge covers
pub edge_tie : (kind : Kind) (u v : ℕ) (q : Key) → list_any (same_key q) (arc_keys kind u v) ≡ cond (q.second == 0) false (covers kind u v q.src (q.second - 1))
edge_tie Directed u v q = or_none _ ∙ arc_tie q u v
edge_tie Undirected u v q = (λ i. arc_tie q v u i || (arc_tie q u v i || false)) ∙ or_cond (q.second == 0) _ _

-- ---- a write, key by key

by_vertex : (z m left old : Bool) (y : Option ℕ) → cond z (cond (cond m left old) (Some 0) None) y ≡ cond ((m && z) || false) (cond left (Some 0) None) (cond z (cond old (Some 0) None) y)
by_vertex true true left old y = refl
by_vertex true false left old y = refl
by_vertex false true left old y = refl
by_vertex false false left old y = refl

by_arc : (z c : Bool) (x y left : Option ℕ) → cond z x (cond c left y) ≡ cond (cond z false c) left (cond z x y)
by_arc true c x y left = refl
by_arc false c x y left = refl

module _ (kind : Kind) (g : Graph) where
  vertex_changed : (w : Write) (v : ℕ) (q : Key) → is_about w q.src ≡ (q.src == v) → weight_of (apply kind g w) q.src (q.second - 1) ≡ weight_of g q.src (q.second - 1)
      → value_at (apply kind g w) q ≡ cond (((q.src == v) && (q.second == 0)) || false) (cond (leaves_vertex w) (Some 0) None) (value_at g q)
  vertex_changed w v q on same =
      (λ i. cond (q.second == 0) (cond ((has_vertex-apply kind g w q.src ∙ ap (λ t. cond t (leaves_vertex w) (has_vertex g q.src)) on) i) (Some 0) None) (same i))
      ∙ by_vertex (q.second == 0) (q.src == v) (leaves_vertex w) (has_vertex g q.src) (weight_of g q.src (q.second - 1))

  edge_changed : (w : Write) (u v : ℕ) (q : Key) → is_about w q.src ≡ false → is_about_arc kind w q.src (q.second - 1) ≡ covers kind u v q.src (q.second - 1)
      → value_at (apply kind g w) q ≡ cond (list_any (same_key q) (arc_keys kind u v)) (leaves_weight w) (value_at g q)
  edge_changed w u v q off on =
      (λ i. cond (q.second == 0) (cond ((has_vertex-apply kind g w q.src ∙ ap (λ t. cond t (leaves_vertex w) (has_vertex g q.src)) off) i) (Some 0) None)
      ((weight-apply kind g w q.src (q.second - 1) ∙ ap (λ t. cond t (leaves_weight w) (weight_of g q.src (q.second - 1))) on) i))
      ∙ by_arc (q.second == 0) (covers kind u v q.src (q.second - 1)) _ _ (leaves_weight w)
      ∙ ap (λ t. cond t (leaves_weight w) (value_at g q)) (sym (edge_tie kind u v q))

-- after a write a key has what the write leaves there, or what it had
pub value_at-apply : (kind : Kind) (g : Graph) (w : Write) (q : Key) → value_at (apply kind g w) q ≡ cond (writes_at kind w q) (value_left w) (value_at g q)
value_at-apply kind g (AddVertex v) q = vertex_changed kind g (AddVertex v) v q refl refl
value_at-apply kind g (DropVertex v) q = vertex_changed kind g (DropVertex v) v q refl refl
value_at-apply kind g (AddEdge u v weight) q = edge_changed kind g (AddEdge u v weight) u v q refl refl
value_at-apply kind g (SetEdge u v weight) q = edge_changed kind g (SetEdge u v weight) u v q refl refl
value_at-apply kind g (DropEdge u v) q = edge_changed kind g (DropEdge u v) u v q refl refl

-- ---- a list of writes, key by key

-- after a list of writes a key has what the list leaves there
pub value_at-apply_all : (kind : Kind) (g : Graph) (ws : List Write) (q : Key) → value_at (apply_all kind g ws) q ≡ value_after kind ws q (value_at g q)
value_at-apply_all kind g [] q = refl
value_at-apply_all kind g (w ∷ ws) q = value_at-apply_all kind (apply kind g w) ws q ∙ ap (value_after kind ws q) (value_at-apply kind g w q)

-- the later writes leave what they leave on what the earlier ones left
pub value_after-append : (kind : Kind) (xs ys : List Write) (q : Key) (value : Option ℕ) → value_after kind (xs ++ ys) q value ≡ value_after kind ys q (value_after kind xs q value)
value_after-append kind [] ys q value = refl
value_after-append kind (x ∷ xs) ys q value = value_after-append kind xs ys q _

-- writes of other keys leave what was there
pub value_after-none : (kind : Kind) (ws : List Write) (q : Key) (value : Option ℕ) → any_writes kind ws q ≡ false → value_after kind ws q value ≡ value
value_after-none kind [] q value none = refl
value_after-none kind (w ∷ ws) q value none =
    let p = or_parts _ _ none in
    value_after-none kind ws q _ p.1 ∙ ap (λ t. cond t (value_left w) value) p.0

-- ---- touched rows

and_true : (s : Bool) → (s && true) ≡ s
and_true true = refl
and_true false = refl

no_touch : (s t : Bool) → (s && false || t && false) ≡ false
no_touch true true = refl
no_touch true false = refl
no_touch false true = refl
no_touch false false = refl

-- a vertex is touched by the writes that its removal would cut off
pub touch_is_cut_off : (v : ℕ) (w : Write) → touches_at w (vertex_key v) ≡ cuts_off (DropVertex v) w
touch_is_cut_off v (AddVertex u) = refl
touch_is_cut_off v (DropVertex u) = refl
touch_is_cut_off v (AddEdge a b weight) = λ i. and_true (v == a) i || and_true (v == b) i
touch_is_cut_off v (SetEdge a b weight) = refl
touch_is_cut_off v (DropEdge a b) = refl

-- no arc is touched
pub touch_is_of_vertex : (u v : ℕ) (w : Write) → touches_at w (arc_key u v) ≡ false
touch_is_of_vertex u v (AddVertex a) = refl
touch_is_of_vertex u v (DropVertex a) = refl
touch_is_of_vertex u v (AddEdge a b weight) =
    let off : (v + 1 == 0) ≡ false = grind (arith, nat_tests) in
    (λ i. ((u == a) && off i) || ((u == b) && off i)) ∙ no_touch (u == a) (u == b)
touch_is_of_vertex u v (SetEdge a b weight) = refl
touch_is_of_vertex u v (DropEdge a b) = refl
