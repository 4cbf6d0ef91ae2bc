-- Clashes have no direction, and writes of one row clash.
use Rattle.std.proofs.Common.{◌≡◌, ℕ, ◌-◌, List, [], ◌∷◌, ◌++◌, refl, sym, ◌∙◌, ap, cond, inl, inr}
use Rattle.std.specs.Prelude.{Bool, true, false, ◌==◌, ◌&&◌, ◌||◌, nat_lt}
use Rattle.std.specs.List.{list_any}
use Rattle.std.proofs.lemmas.Bool.{or_left, or_right, or_from, or_parts, false_from_ne_true, true≢false}
use Rattle.std.proofs.lemmas.List.Folds.{list_any-append}
use Rattle.graph_model.specs.declared.write.Kind.{Kind}
use Rattle.graph_model.specs.declared.write.Kind.TheVariants.{Directed, Undirected}
use Rattle.graph_model.specs.declared.write.Write.{Write}
use Rattle.graph_model.specs.declared.write.Write.TheVariants.{AddVertex, DropVertex, AddEdge, SetEdge, DropEdge}
use Rattle.graph_model.specs.declared.row.Key.{Key}
use Rattle.graph_model.specs.Items.{Item, edge, item, same_item, cuts_off, clash}
use Rattle.graph_model.specs.Items.Item.{Vertex, Edge}
use Rattle.graph_model.specs.Rows.{vertex_key, arc_key}
use Rattle.graph_model.specs.Effects.{same_key, arc_keys, writes_at, touches_at, any_writes}
use Rattle.graph_model.specs.Legal.{have_clash}
use Rattle.graph_model.specs.Conflict.{meets}
use Rattle.graph_model.specs.WriteLaws.{ClashesByRow}
use Rattle.graph_model.proofs.TestLemmas.{self_eq, eq_of, eq_symm, both_of, either_of, or_comm}
use Rattle.graph_model.proofs.GraphLemmas.{covers}
use Rattle.graph_model.proofs.WriteLemmas.{turned_edge, clash_of_item, clash_of_cut, clash_of_cut_by}
use Rattle.graph_model.proofs.EffectLemmas.{edge_tie, touch_is_cut_off}

-- ---- a clash has no direction

same_item-symm : (a b : Item) → same_item a b ≡ same_item b a
same_item-symm (Vertex v) (Vertex w) = eq_symm v w
same_item-symm (Vertex v) (Edge a b) = refl
same_item-symm (Edge u v) (Vertex w) = refl
same_item-symm (Edge u v) (Edge a b) = λ i. eq_symm u a i && eq_symm v b i

or_turn : (a b c d : Bool) → a ≡ b → ((a || c) || d) ≡ ((b || d) || c)
or_turn true true c d e = refl
or_turn true false c d e = cc
or_turn false true c d e = cc
or_turn false false c d e = or_comm c d

-- either of two writes may stand first
pub clash-symm : (kind : Kind) (x y : Write) → clash kind x y ≡ clash kind y x
clash-symm kind x y = or_turn _ _ (cuts_off x y) (cuts_off y x) (same_item-symm (item kind x) (item kind y))

-- one of two tests finds something where one of them does
pub any_or : {X : Type 0} (p q : X → Bool) (xs : List X) → list_any (λ x. p x || q x) xs ≡ (list_any p xs || list_any q xs)
any_or p q [] = refl
any_or p q (x ∷ xs) = ap (λ t. (p x || q x) || t) (any_or p q xs) ∙ shuffle (p x) (q x) (list_any p xs) (list_any q xs)
  where
    shuffle : (a b c d : Bool) → ((a || b) || (c || d)) ≡ ((a || c) || (b || d))
    shuffle true b c d = refl
    shuffle false true true d = refl
    shuffle false true false d = refl
    shuffle false false true d = refl
    shuffle false false false d = refl

any_none : {X : Type 0} (xs : List X) → list_any (λ x. false) xs ≡ false
any_none [] = refl
any_none (x ∷ xs) = any_none xs

-- tests that agree find the same
pub any_same : {X : Type 0} (p q : X → Bool) (xs : List X) → ((x : X) → p x ≡ q x) → list_any p xs ≡ list_any q xs
any_same p q [] same = refl
any_same p q (x ∷ xs) same = λ i. same x i || any_same p q xs same i

any_swap : {X Y : Type 0} (f : X → Y → Bool) (xs : List X) (ys : List Y) → list_any (λ x. list_any (f x) ys) xs ≡ list_any (λ y. list_any (λ x. f x y) xs) ys
any_swap f [] ys = sym (any_none ys)
any_swap f (x ∷ xs) ys = ap (λ t. list_any (f x) ys || t) (any_swap f xs ys) ∙ sym (any_or (f x) (λ y. list_any (λ x. f x y) xs) ys)

-- either of two lists of writes may stand first
pub have_clash-symm : (kind : Kind) (xs ys : List Write) → have_clash kind xs ys ≡ have_clash kind ys xs
have_clash-symm kind xs ys = any_swap (clash kind) xs ys ∙ any_same _ _ ys (λ y. any_same _ _ xs (λ x. clash-symm kind x y))

-- no write clashes with none
pub no_clash_none : (kind : Kind) (xs : List Write) → have_clash kind xs [] ≡ false
no_clash_none kind xs = any_none xs

-- one more write that clashes with none of them leaves two lists without a clash
pub no_clash_more : (kind : Kind) (xs ys : List Write) (w : Write) → have_clash kind xs ys ≡ false → meets kind w xs ≡ false → have_clash kind xs (ys ++ w ∷ []) ≡ false
no_clash_more kind xs ys w none away =
    have_clash-symm kind xs (ys ++ w ∷ []) ∙ list_any-append (λ y. list_any (clash kind y) xs) ys (w ∷ [])
    ∙ or_from _ _ (sym (have_clash-symm kind xs ys) ∙ none) (or_from _ false away refl)

-- ---- writes of one row

-- what has its row at a key: a vertex, or an edge
pub item_at : Kind → Key → Item
item_at kind q = cond (q.second == 0) (Vertex q.src) (edge kind q.src (q.second - 1))

unfold_item : (kind : Kind) (q : Key) (z : Bool) → (q.second == 0) ≡ z → item_at kind q ≡ cond z (Vertex q.src) (edge kind q.src (q.second - 1))
unfolding item_at
unfold_item kind q z e = ap (λ t. cond t (Vertex q.src) (edge kind q.src (q.second - 1))) e

drop_none : (s : Bool) → (s || false) ≡ true → s ≡ true
drop_none true e = refl
drop_none false e = cc

vertex_item : (kind : Kind) (v : ℕ) (q : Key) → (same_key q (vertex_key v) || false) ≡ true → Vertex v ≡ item_at kind q
vertex_item kind v q e = let p = both_of _ _ (drop_none _ e) in ap Vertex (sym (eq_of q.src v p.0)) ∙ sym (unfold_item kind q true p.1)

edge_item : (kind : Kind) (u v : ℕ) (q : Key) → list_any (same_key q) (arc_keys kind u v) ≡ true → edge kind u v ≡ item_at kind q
edge_item kind u v q e = by_second (q.second == 0) refl (sym (edge_tie kind u v q) ∙ e)
  where
    by_second : (z : Bool) → (q.second == 0) ≡ z → cond z false (covers kind u v q.src (q.second - 1)) ≡ true → edge kind u v ≡ item_at kind q
    by_second true at h = cc
    by_second false at h = turned_edge kind u v q.src (q.second - 1) h ∙ sym (unfold_item kind q false at)

-- a write of a row writes the item of that row
pub key_item : (kind : Kind) (w : Write) (q : Key) → writes_at kind w q ≡ true → item kind w ≡ item_at kind q
key_item kind (AddVertex v) q e = vertex_item kind v q e
key_item kind (DropVertex v) q e = vertex_item kind v q e
key_item kind (AddEdge u v weight) q e = edge_item kind u v q e
key_item kind (SetEdge u v weight) q e = edge_item kind u v q e
key_item kind (DropEdge u v) q e = edge_item kind u v q e

-- two writes of one row clash
pub same_row_clash : (kind : Kind) (x y : Write) (q : Key) → writes_at kind x q ≡ true → writes_at kind y q ≡ true → clash kind x y ≡ true
same_row_clash kind x y q on_x on_y = clash_of_item kind x y (key_item kind x q on_x ∙ sym (key_item kind y q on_y))

-- writes that don't clash with a write write none of its rows
pub apart_rows : (kind : Kind) (w : Write) (ws : List Write) (q : Key) → meets kind w ws ≡ false → writes_at kind w q ≡ true → any_writes kind ws q ≡ false
apart_rows kind w [] q away on = refl
apart_rows kind w (x ∷ ws) q away on =
    let p = or_parts _ _ away in
    or_from _ _ (false_from_ne_true _ (λ on_x. true≢false (sym (same_row_clash kind w x q on on_x) ∙ p.0))) (apart_rows kind w ws q p.1 on)

-- ---- a clash, by rows

-- a row of the item: of an edge that of the arc that names it
pub key_of_item : Item → Key
key_of_item (Vertex v) = vertex_key v
key_of_item (Edge u v) = arc_key u v

key_self : (q : Key) → same_key q q ≡ true
key_self q = λ i. self_eq q.src i && self_eq q.second i

edge_row : (kind : Kind) (u v : ℕ) → list_any (same_key (key_of_item (edge kind u v))) (arc_keys kind u v) ≡ true
unfolding key_of_item
edge_row Directed u v = or_left _ _ (key_self (arc_key u v))
edge_row Undirected u v = elim (nat_lt v u) as (λ t. list_any (same_key (key_of_item (cond t (Edge v u) (Edge u v)))) (arc_keys Undirected u v) ≡ true) [
  | true ↦ or_left _ _ (key_self (arc_key v u))
  | false ↦ or_right (same_key (arc_key u v) (arc_key v u)) _ (or_left _ _ (key_self (arc_key u v)))
]

-- a write writes a row of its item
pub writes_its_item : (kind : Kind) (w : Write) → writes_at kind w (key_of_item (item kind w)) ≡ true
unfolding key_of_item
writes_its_item kind (AddVertex v) = or_left _ _ (key_self (vertex_key v))
writes_its_item kind (DropVertex v) = or_left _ _ (key_self (vertex_key v))
writes_its_item kind (AddEdge u v weight) = edge_row kind u v
writes_its_item kind (SetEdge u v weight) = edge_row kind u v
writes_its_item kind (DropEdge u v) = edge_row kind u v

item_eq : (i j : Item) → same_item i j ≡ true → i ≡ j
item_eq (Vertex v) (Vertex w) e = ap Vertex (eq_of v w e)
item_eq (Vertex v) (Edge a b) e = cc
item_eq (Edge u v) (Vertex w) e = cc
item_eq (Edge u v) (Edge a b) e = let p = both_of _ _ e in λ i. Edge (eq_of u a p.0 i) (eq_of v b p.1 i)

-- two writes of one item write one row
pub same_item_row : (kind : Kind) (x y : Write) → same_item (item kind x) (item kind y) ≡ true → (q : Key) × (writes_at kind x q ≡ true) × (writes_at kind y q ≡ true)
same_item_row kind x y same =
    let one : item kind x ≡ item kind y = item_eq (item kind x) (item kind y) same in
    (key_of_item (item kind x), writes_its_item kind x, ap (λ i. writes_at kind y (key_of_item i)) one ∙ writes_its_item kind y)

-- the first write removes a vertex that the second touches
cut_off : (x y : Write) → cuts_off x y ≡ true → (v : ℕ) × (x ≡ DropVertex v) × (touches_at y (vertex_key v) ≡ true)
cut_off (DropVertex v) y cuts = (v, refl, touch_is_cut_off v y ∙ cuts)
cut_off (AddVertex v) y cuts = cc
cut_off (AddEdge u v weight) y cuts = cc
cut_off (SetEdge u v weight) y cuts = cc
cut_off (DropEdge u v) y cuts = cc

cut_by_touch : (x y : Write) (v : ℕ) → x ≡ DropVertex v → touches_at y (vertex_key v) ≡ true → cuts_off x y ≡ true
cut_by_touch x y v is touches = ap (λ w. cuts_off w y) is ∙ sym (touch_is_cut_off v y) ∙ touches

-- what a clash is, by rows
pub clash_parts : (kind : Kind) (x y : Write) → clash kind x y ≡ true → ClashesByRow kind x y
clash_parts kind x y clashes = elim (either_of (same_item (item kind x) (item kind y) || cuts_off x y) (cuts_off y x) clashes) as (λ _. ClashesByRow kind x y) [
  | inl first ↦ elim (either_of (same_item (item kind x) (item kind y)) (cuts_off x y) first) as (λ _. ClashesByRow kind x y) [
    | inl same ↦ inl (same_item_row kind x y same)
    | inr cuts ↦ inr (inl (cut_off x y cuts))
  ]
  | inr cuts ↦ inr (inr (cut_off y x cuts))
]

-- and each of these is a clash
pub clash_of_parts : (kind : Kind) (x y : Write) → ClashesByRow kind x y → clash kind x y ≡ true
clash_of_parts kind x y (inl h) = same_row_clash kind x y h.0 h.1 h.2
clash_of_parts kind x y (inr (inl h)) = clash_of_cut kind x y (cut_by_touch x y h.0 h.1 h.2)
clash_of_parts kind x y (inr (inr h)) = clash_of_cut_by kind x y (cut_by_touch y x h.0 h.1 h.2)
