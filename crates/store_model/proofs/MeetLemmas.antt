-- Two writes clash exactly where the one does, at a row that the other looks at, what it looks for there.
use Rattle.std.proofs.Common.{◌≡◌, ℕ, ◌+◌, ◌-◌, List, [], ◌∷◌, refl, sym, ◌∙◌, ap, cond, arith, inl, inr}
use Rattle.std.specs.Prelude.{Bool, true, false, ◌==◌, ◌&&◌, ◌||◌, nat_lt, Option}
use Rattle.std.specs.List.{list_any}
use Rattle.std.proofs.Math.Bool.{and-true, or-false}
use Rattle.std.proofs.lemmas.Bool.{or_left, or_right, or_from, or_parts, false_from_ne_true, true≢false}
use Rattle.std.proofs.lemmas.Bool.Decides.{nat_tests}
use Rattle.graph_model.specs.declared.write.Kind.{Kind}
use Rattle.graph_model.specs.declared.write.Kind.TheVariants.{Directed, Undirected}
use Rattle.graph_model.specs.declared.write.Write.{Write}
use Rattle.graph_model.specs.declared.write.Write.TheVariants.{AddVertex, DropVertex, AddEdge, SetEdge, DropEdge}
use Rattle.graph_model.specs.declared.row.Key.{Key}
use Rattle.graph_model.specs.Items.{Item, edge, item, same_item, cuts_off, clash}
use Rattle.graph_model.specs.Items.Item.{Vertex, Edge}
use Rattle.graph_model.specs.Rows.{vertex_key, arc_key}
use Rattle.graph_model.specs.Effects.{same_key, arc_keys, value_left, writes_at, touches_at, any_writes, any_touches}
use Rattle.graph_model.specs.Legal.{have_clash}
use Rattle.graph_model.specs.Conflict.{meets}
use Rattle.graph_model.proofs.GraphLemmas.{covers}
use Rattle.graph_model.proofs.TestLemmas.{self_eq, eq_symm, either_of}
use Rattle.graph_model.proofs.EffectLemmas.{edge_tie, touch_is_cut_off}
use Rattle.graph_model.proofs.ClashLemmas.{any_same, any_or, key_item, same_row_clash}
use Rattle.store_model.specs.Layers.{row_key}
use Rattle.store_model.specs.Check.{no_value}

-- ---- items and the rows that stand for them

and_true_or : (s : Bool) → s ≡ ((s && true) || false)
and_true_or s = sym (or-false (s && true) ∙ and-true s)

vertex_no_edge : (kind : Kind) (q u v : ℕ) → same_item (Vertex q) (edge kind u v) ≡ false
vertex_no_edge Directed q u v = refl
vertex_no_edge Undirected q u v = elim (nat_lt v u) as (λ s. same_item (Vertex q) (cond s (Edge v u) (Edge u v)) ≡ false) [ true ↦ refl | false ↦ refl ]

edge_no_vertex : (kind : Kind) (u v q : ℕ) → same_item (edge kind u v) (Vertex q) ≡ false
edge_no_vertex Directed u v q = refl
edge_no_vertex Undirected u v q = elim (nat_lt v u) as (λ s. same_item (cond s (Edge v u) (Edge u v)) (Vertex q) ≡ false) [ true ↦ refl | false ↦ refl ]

-- no edge writes a vertex's row
no_edge_key : (kind : Kind) (u v q : ℕ) → list_any (same_key (vertex_key q)) (arc_keys kind u v) ≡ false
no_edge_key kind u v q = edge_tie kind u v (vertex_key q)

-- and no vertex an arc's
no_vertex_key : (u v q : ℕ) → (same_key (arc_key u v) (vertex_key q) || false) ≡ false
no_vertex_key u v q = or_from _ _ (off (u == q) (v + 1 == 0) (grind (arith, nat_tests))) refl
  where
    off : (s t : Bool) → t ≡ false → (s && t) ≡ false
    off true t e = e
    off false t e = refl

-- edges are one item where the one covers the other's arc
same_edge : (kind : Kind) (u v a b : ℕ) → same_item (edge kind u v) (edge kind a b) ≡ covers kind a b u v
same_edge Directed u v a b = refl
same_edge Undirected u v a b = by_order (nat_lt v u) (nat_lt b a) refl refl
  where
    by_order : (s t : Bool) → nat_lt v u ≡ s → nat_lt b a ≡ t → same_item (cond s (Edge v u) (Edge u v)) (cond t (Edge b a) (Edge a b)) ≡ (((u == b) && (v == a)) || ((u == a) && (v == b)))
    by_order true true e f = grind (arith, nat_tests)
    by_order true false e f = grind (arith, nat_tests)
    by_order false true e f = grind (arith, nat_tests)
    by_order false false e f = grind (arith, nat_tests)

edge_key : (kind : Kind) (u v a b : ℕ) → same_item (edge kind u v) (edge kind a b) ≡ list_any (same_key (arc_key u v)) (arc_keys kind a b)
edge_key kind u v a b =
    let up : (v + 1 == 0) ≡ false = grind (arith, nat_tests) in
    let down : v + 1 - 1 ≡ v = omega arith in
    same_edge kind u v a b ∙ sym (edge_tie kind a b (arc_key u v) ∙ (λ i. cond (up i) false (covers kind a b u (down i))))

-- a write writes the vertex v exactly where it writes its row
pub vertex_tie : (kind : Kind) (x : Write) (v : ℕ) → same_item (Vertex v) (item kind x) ≡ writes_at kind x (vertex_key v)
vertex_tie kind (AddVertex q) v = and_true_or (v == q)
vertex_tie kind (DropVertex q) v = and_true_or (v == q)
vertex_tie kind (AddEdge a b weight) v = vertex_no_edge kind v a b ∙ sym (no_edge_key kind a b v)
vertex_tie kind (SetEdge a b weight) v = vertex_no_edge kind v a b ∙ sym (no_edge_key kind a b v)
vertex_tie kind (DropEdge a b) v = vertex_no_edge kind v a b ∙ sym (no_edge_key kind a b v)

-- and an edge exactly where it writes the row of its arc
pub edge_row_tie : (kind : Kind) (x : Write) (u v : ℕ) → same_item (edge kind u v) (item kind x) ≡ writes_at kind x (arc_key u v)
edge_row_tie kind (AddVertex q) u v = edge_no_vertex kind u v q ∙ sym (no_vertex_key u v q)
edge_row_tie kind (DropVertex q) u v = edge_no_vertex kind u v q ∙ sym (no_vertex_key u v q)
edge_row_tie kind (AddEdge a b weight) u v = edge_key kind u v a b
edge_row_tie kind (SetEdge a b weight) u v = edge_key kind u v a b
edge_row_tie kind (DropEdge a b) u v = edge_key kind u v a b

-- so the row key stands for a write's item
row_tie : (kind : Kind) (w x : Write) → same_item (item kind w) (item kind x) ≡ writes_at kind x (row_key w)
row_tie kind (AddVertex v) x = vertex_tie kind x v
row_tie kind (DropVertex v) x = vertex_tie kind x v
row_tie kind (AddEdge u v weight) x = edge_row_tie kind x u v
row_tie kind (SetEdge u v weight) x = edge_row_tie kind x u v
row_tie kind (DropEdge u v) x = edge_row_tie kind x u v

same_item-self : (x : Item) → same_item x x ≡ true
same_item-self (Vertex v) = self_eq v
same_item-self (Edge a b) = λ i. self_eq a i && self_eq b i

-- a write writes its row key
pub row_key-written : (kind : Kind) (w : Write) → writes_at kind w (row_key w) ≡ true
row_key-written kind w = sym (row_tie kind w w) ∙ same_item-self (item kind w)

-- and whoever has written none of that row has written none of the write's rows
pub clear_row : (kind : Kind) (w : Write) (ws : List Write) (k : Key) → any_writes kind ws (row_key w) ≡ false → writes_at kind w k ≡ true → any_writes kind ws k ≡ false
clear_row kind w [] k none on = refl
clear_row kind w (x ∷ ws) k none on =
    let p = or_parts _ _ none in
    or_from _ _ (false_from_ne_true _ (λ on_x. true≢false (sym (sym (row_tie kind w x) ∙ ap (same_item (item kind w)) (key_item kind x k on_x ∙ sym (key_item kind w k on)) ∙ same_item-self (item kind w)) ∙ p.0)))
    (clear_row kind w ws k p.1 on)

-- ---- lists of writes that write one row clash

pub one_clash : (kind : Kind) (x : Write) (ys : List Write) (k : Key) → writes_at kind x k ≡ true → any_writes kind ys k ≡ true → meets kind x ys ≡ true
one_clash kind x [] k on has = cc
one_clash kind x (y ∷ ys) k on has = elim (either_of (writes_at kind y k) (any_writes kind ys k) has) as (λ _. meets kind x (y ∷ ys) ≡ true) [
  | inl p ↦ or_left _ _ (same_row_clash kind x y k on p)
  | inr p ↦ or_right _ _ (one_clash kind x ys k on p)
]

pub row_clash : (kind : Kind) (xs ys : List Write) (k : Key) → any_writes kind xs k ≡ true → any_writes kind ys k ≡ true → have_clash kind xs ys ≡ true
row_clash kind [] ys k has_x has_y = cc
row_clash kind (x ∷ xs) ys k has_x has_y = elim (either_of (writes_at kind x k) (any_writes kind xs k) has_x) as (λ _. have_clash kind (x ∷ xs) ys ≡ true) [
  | inl p ↦ or_left _ _ (one_clash kind x ys k p has_y)
  | inr p ↦ or_right _ _ (row_clash kind xs ys k p has_y)
]

-- ---- a clash, by rows

-- x does at a row what w looks for there
abbrev bars : Kind → Write → Write → Bool
bars kind (AddVertex v) x = writes_at kind x (vertex_key v)
bars kind (DropVertex v) x = writes_at kind x (vertex_key v) || touches_at x (vertex_key v)
bars kind (AddEdge u v weight) x =
    writes_at kind x (arc_key u v)
    || ((writes_at kind x (vertex_key u) && no_value (value_left x)) || (writes_at kind x (vertex_key v) && no_value (value_left x)))
bars kind (SetEdge u v weight) x = writes_at kind x (arc_key u v)
bars kind (DropEdge u v) x = writes_at kind x (arc_key u v)

-- a write that adds no edge is cut off by none
cuts_no_vertex : (x : Write) (v : ℕ) → cuts_off x (AddVertex v) ≡ false
cuts_no_vertex (DropVertex q) v = refl
cuts_no_vertex x v = refl

cuts_no_drop : (x : Write) (v : ℕ) → cuts_off x (DropVertex v) ≡ false
cuts_no_drop (DropVertex q) v = refl
cuts_no_drop x v = refl

cuts_no_set : (x : Write) (u v weight : ℕ) → cuts_off x (SetEdge u v weight) ≡ false
cuts_no_set (DropVertex q) u v weight = refl
cuts_no_set x u v weight = refl

cuts_no_drop_edge : (x : Write) (u v : ℕ) → cuts_off x (DropEdge u v) ≡ false
cuts_no_drop_edge (DropVertex q) u v = refl
cuts_no_drop_edge x u v = refl

-- an edge that is added is cut off where an end's row is left without value
cuts_drop : (kind : Kind) (u v weight : ℕ) (x : Write) → cuts_off x (AddEdge u v weight) ≡ ((writes_at kind x (vertex_key u) && no_value (value_left x)) || (writes_at kind x (vertex_key v) && no_value (value_left x)))
cuts_drop kind u v weight (AddVertex q) = λ i. nothing (writes_at kind (AddVertex q) (vertex_key u)) i || nothing (writes_at kind (AddVertex q) (vertex_key v)) i
  where
    nothing : (s : Bool) → false ≡ (s && false)
    nothing true = refl
    nothing false = refl
cuts_drop kind u v weight (DropVertex q) = λ i. dropped u i || dropped v i
  where
    dropped : (u : ℕ) → (q == u) ≡ ((((u == q) && true) || false) && true)
    dropped u = eq_symm q u ∙ and_true_or (u == q) ∙ sym (and-true (((u == q) && true) || false))
cuts_drop kind u v weight (AddEdge a b w) = sym (or_from _ _ (ap (λ t. t && false) (no_edge_key kind a b u)) (ap (λ t. t && false) (no_edge_key kind a b v)))
cuts_drop kind u v weight (SetEdge a b w) = sym (or_from _ _ (ap (λ t. t && false) (no_edge_key kind a b u)) (ap (λ t. t && false) (no_edge_key kind a b v)))
cuts_drop kind u v weight (DropEdge a b) = sym (or_from _ _ (ap (λ t. t && true) (no_edge_key kind a b u)) (ap (λ t. t && true) (no_edge_key kind a b v)))

pub clash_is_bars : (kind : Kind) (w x : Write) → clash kind w x ≡ bars kind w x
clash_is_bars kind (AddVertex v) x = (λ i. (vertex_tie kind x v i || false) || cuts_no_vertex x v i) ∙ or-false _ ∙ or-false _
clash_is_bars kind (DropVertex v) x = (λ i. (vertex_tie kind x v i || sym (touch_is_cut_off v x) i) || cuts_no_drop x v i) ∙ or-false _
clash_is_bars kind (AddEdge u v weight) x = (λ i. or-false (edge_row_tie kind x u v i) i || cuts_drop kind u v weight x i)
clash_is_bars kind (SetEdge u v weight) x = (λ i. (edge_row_tie kind x u v i || false) || cuts_no_set x u v weight i) ∙ or-false _ ∙ or-false _
clash_is_bars kind (DropEdge u v) x = (λ i. (edge_row_tie kind x u v i || false) || cuts_no_drop_edge x u v i) ∙ or-false _ ∙ or-false _

-- one of the writes writes the row and leaves there a value that passes a test
abbrev pub any_leaves : Kind → (Option ℕ → Bool) → List Write → Key → Bool
any_leaves kind f ws k = list_any (λ w. writes_at kind w k && f (value_left w)) ws

-- one of the writes does at a row what w looks for there
abbrev pub met : Kind → Write → List Write → Bool
met kind (AddVertex v) xs = any_writes kind xs (vertex_key v)
met kind (DropVertex v) xs = any_writes kind xs (vertex_key v) || any_touches xs (vertex_key v)
met kind (AddEdge u v weight) xs =
    any_writes kind xs (arc_key u v) || (any_leaves kind no_value xs (vertex_key u) || any_leaves kind no_value xs (vertex_key v))
met kind (SetEdge u v weight) xs = any_writes kind xs (arc_key u v)
met kind (DropEdge u v) xs = any_writes kind xs (arc_key u v)

-- A CLASH, BY ROWS: w clashes with one of the writes exactly where one of them is met
pub meets_is_met : (kind : Kind) (w : Write) (xs : List Write) → meets kind w xs ≡ met kind w xs
meets_is_met kind (AddVertex v) xs = any_same _ _ xs (clash_is_bars kind (AddVertex v))
meets_is_met kind (DropVertex v) xs = any_same _ _ xs (clash_is_bars kind (DropVertex v)) ∙ any_or _ _ xs
meets_is_met kind (AddEdge u v weight) xs = any_same _ _ xs (clash_is_bars kind (AddEdge u v weight)) ∙ any_or _ _ xs ∙ ap (λ t. any_writes kind xs (arc_key u v) || t) (any_or _ _ xs)
meets_is_met kind (SetEdge u v weight) xs = any_same _ _ xs (clash_is_bars kind (SetEdge u v weight))
meets_is_met kind (DropEdge u v) xs = any_same _ _ xs (clash_is_bars kind (DropEdge u v))

-- whoever writes the row key is met
pub met_first : (kind : Kind) (w : Write) (xs : List Write) → any_writes kind xs (row_key w) ≡ true → met kind w xs ≡ true
met_first kind (AddVertex v) xs h = h
met_first kind (DropVertex v) xs h = or_left _ _ h
met_first kind (AddEdge u v weight) xs h = or_left _ _ h
met_first kind (SetEdge u v weight) xs h = h
met_first kind (DropEdge u v) xs h = h
