-- What an allowed write keeps, and that two which don't clash commute.
use Rattle.std.proofs.Common.{◌≡◌, ℕ, refl, sym, ◌∙◌, ap, cond, arith, inl, inr}
use Rattle.std.specs.Prelude.{Bool, true, false, ◌==◌, ◌&&◌, ◌||◌, ◌⊎◌, nat_lt, Option, Some, None, is_some}
use Rattle.std.proofs.Math.Bool.{and_comm}
use Rattle.std.proofs.lemmas.Bool.{or_left, or_right, false_from_ne_true}
use Rattle.std.proofs.lemmas.Bool.Decides.{nat_tests}
use Rattle.graph_model.specs.declared.write.Kind.{Kind}
use Rattle.graph_model.specs.declared.write.Kind.TheVariants.{Directed, Undirected}
use Rattle.graph_model.specs.declared.write.Write.{Write}
use Rattle.graph_model.specs.declared.write.Write.TheVariants.{AddVertex, DropVertex, AddEdge, SetEdge, DropEdge}
use Rattle.graph_model.specs.declared.refusal.Refusal.{Refusal}
use Rattle.graph_model.specs.declared.refusal.Refusal.TheVariants.{SelfLoop, NoVertex, VertexExists, EdgeExists, NoEdge, HasEdges}
use Rattle.graph_model.specs.Items.{Item, edge, item, same_item, cuts_off, clash}
use Rattle.graph_model.specs.Items.Item.{Vertex, Edge}
use Rattle.graph_model.specs.Graph.{Graph, has_vertex, weight_of, has_arc, has_edges, apply, HasBothEnds, IsSymmetric}
use Rattle.graph_model.specs.Refused.{unless_ends, refused}
use Rattle.graph_model.proofs.TestLemmas.{self_eq, eq_of, both_of, either_of, never, or_comm}
use Rattle.graph_model.proofs.GraphLemmas.{same_graph, covers, is_about, leaves_vertex, is_about_arc, leaves_weight, has_vertex-apply, weight-apply, no_edges, has_no_edges}

-- an edge that is allowed has two ends, and passes the test behind them
pub allowed_ends : (g : Graph) (u v : ℕ) (answer : Option Refusal) → unless_ends g u v answer ≡ None → ((u == v) ≡ false) × (has_vertex g u ≡ true) × (has_vertex g v ≡ true) × (answer ≡ None)
allowed_ends g u v answer is = by_tests (u == v) (has_vertex g u) (has_vertex g v) is
  where
    by_tests : (s a b : Bool) → cond s (Some SelfLoop) (cond a (cond b answer (Some (NoVertex v))) (Some (NoVertex u))) ≡ None → (s ≡ false) × (a ≡ true) × (b ≡ true) × (answer ≡ None)
    by_tests true a b e = cc
    by_tests false false b e = cc
    by_tests false true false e = cc
    by_tests false true true e = (refl, refl, refl, e)

ends_allow : (g : Graph) (u v : ℕ) (answer : Option Refusal) → (u == v) ≡ false → has_vertex g u ≡ true → has_vertex g v ≡ true → answer ≡ None → unless_ends g u v answer ≡ None
ends_allow g u v answer apart a b is =
    (λ i. cond (apart i) (Some SelfLoop) (cond (a i) (cond (b i) answer (Some (NoVertex v))) (Some (NoVertex u)))) ∙ is

absent : (s : Bool) (r : Refusal) → cond s (Some r) None ≡ None → s ≡ false
absent true r e = cc
absent false r e = refl

present : (s : Bool) (r : Refusal) → cond s None (Some r) ≡ None → s ≡ true
present true r e = refl
present false r e = cc

droppable : (g : Graph) (v : ℕ) → refused g (DropVertex v) ≡ None → (has_vertex g v ≡ true) × (has_edges g v ≡ false)
droppable g v is = by_tests (has_vertex g v) (has_edges g v) is
  where
    by_tests : (a b : Bool) → cond a (cond b (Some HasEdges) None) (Some (NoVertex v)) ≡ None → (a ≡ true) × (b ≡ false)
    by_tests true true e = cc
    by_tests true false e = (refl, refl)
    by_tests false b e = cc

-- the arcs of an edge lead between its ends
pub covers_ends : (kind : Kind) (u v a b : ℕ) → covers kind u v a b ≡ true → ((a ≡ u) × (b ≡ v)) ⊎ ((a ≡ v) × (b ≡ u))
covers_ends Directed u v a b e = let p = both_of _ _ e in inl (eq_of a u p.0, eq_of b v p.1)
covers_ends Undirected u v a b e =
    elim (either_of ((a == v) && (b == u)) ((a == u) && (b == v)) e) as (λ _. ((a ≡ u) × (b ≡ v)) ⊎ ((a ≡ v) × (b ≡ u))) [
      | inl h ↦ let p = both_of _ _ h in inr (eq_of a v p.0, eq_of b u p.1)
      | inr h ↦ let p = both_of _ _ h in inl (eq_of a u p.0, eq_of b v p.1)
    ]

-- ---- an allowed write keeps both ends of each arc vertices

ends_of_edge : (kind : Kind) (g : Graph) (u v a b : ℕ) → HasBothEnds g → has_vertex g u ≡ true → has_vertex g v ≡ true → (new : Option ℕ) → is_some (cond (covers kind u v a b) new (weight_of g a b)) ≡ true → (has_vertex g a ≡ true) × (has_vertex g b ≡ true)
ends_of_edge kind g u v a b ends at_u at_v new arc =
    elim (covers kind u v a b) as (λ s. covers kind u v a b ≡ s → is_some (cond s new (weight_of g a b)) ≡ true → (has_vertex g a ≡ true) × (has_vertex g b ≡ true)) [
      | true ↦ λ s _. elim (covers_ends kind u v a b s) as (λ _. (has_vertex g a ≡ true) × (has_vertex g b ≡ true)) [
        | inl p ↦ (ap (has_vertex g) p.0 ∙ at_u, ap (has_vertex g) p.1 ∙ at_v)
        | inr p ↦ (ap (has_vertex g) p.0 ∙ at_v, ap (has_vertex g) p.1 ∙ at_u)
      ]
      | false ↦ λ _ old. ends a b old
    ] refl arc

kept_true : (s : Bool) (x : Bool) → x ≡ true → cond s true x ≡ true
kept_true true x e = refl
kept_true false x e = e

kept_other : (s : Bool) (x : Bool) → s ≡ false → x ≡ true → cond s false x ≡ true
kept_other true x off e = cc
kept_other false x off e = e

-- an allowed write keeps both ends of each arc
pub keeps_ends : (kind : Kind) (g : Graph) (w : Write) → refused g w ≡ None → HasBothEnds g → HasBothEnds (apply kind g w)
keeps_ends kind g (AddVertex v) is ends a b arc =
    let old = ends a b arc in
    (has_vertex-apply kind g (AddVertex v) a ∙ kept_true _ _ old.0, has_vertex-apply kind g (AddVertex v) b ∙ kept_true _ _ old.1)
keeps_ends kind g (DropVertex v) is ends a b arc =
    let old = ends a b arc in
    let bare = (droppable g v is).1 in
    let away : ((a == v) || (b == v)) ≡ false = false_from_ne_true _ (λ touches. never (is_some (weight_of g a b)) arc (ap is_some (no_edges g v bare a b touches))) in
    let not_a : (a == v) ≡ false = false_from_ne_true _ (λ e. never _ (or_left _ _ e) away) in
    let not_b : (b == v) ≡ false = false_from_ne_true _ (λ e. never _ (or_right (a == v) _ e) away) in
    (has_vertex-apply kind g (DropVertex v) a ∙ kept_other _ _ not_a old.0, has_vertex-apply kind g (DropVertex v) b ∙ kept_other _ _ not_b old.1)
keeps_ends kind g (AddEdge u v weight) is ends a b arc =
    let at = allowed_ends g u v _ is in
    let old = ends_of_edge kind g u v a b ends at.1 at.2 (Some weight) (ap is_some (sym (weight-apply kind g (AddEdge u v weight) a b)) ∙ arc) in
    (has_vertex-apply kind g (AddEdge u v weight) a ∙ old.0, has_vertex-apply kind g (AddEdge u v weight) b ∙ old.1)
keeps_ends kind g (SetEdge u v weight) is ends a b arc =
    let at = allowed_ends g u v _ is in
    let old = ends_of_edge kind g u v a b ends at.1 at.2 (Some weight) (ap is_some (sym (weight-apply kind g (SetEdge u v weight) a b)) ∙ arc) in
    (has_vertex-apply kind g (SetEdge u v weight) a ∙ old.0, has_vertex-apply kind g (SetEdge u v weight) b ∙ old.1)
keeps_ends kind g (DropEdge u v) is ends a b arc =
    let at = allowed_ends g u v _ is in
    let old = ends_of_edge kind g u v a b ends at.1 at.2 None (ap is_some (sym (weight-apply kind g (DropEdge u v) a b)) ∙ arc) in
    (has_vertex-apply kind g (DropEdge u v) a ∙ old.0, has_vertex-apply kind g (DropEdge u v) b ∙ old.1)

-- ---- a write keeps an undirected graph symmetric

edge_turned : (u v a b : ℕ) → covers Undirected u v a b ≡ covers Undirected u v b a
edge_turned u v a b = or_comm ((a == v) && (b == u)) ((a == u) && (b == v)) ∙ (λ i. and_comm (a == u) (b == v) i || and_comm (a == v) (b == u) i)

-- a write without direction is about an arc either way
pub covers_turned : (w : Write) (a b : ℕ) → is_about_arc Undirected w a b ≡ is_about_arc Undirected w b a
covers_turned (AddVertex v) a b = refl
covers_turned (DropVertex v) a b = refl
covers_turned (AddEdge u v weight) a b = edge_turned u v a b
covers_turned (SetEdge u v weight) a b = edge_turned u v a b
covers_turned (DropEdge u v) a b = edge_turned u v a b

-- a write without direction keeps a graph symmetric
pub keeps_symmetric : (g : Graph) (w : Write) → IsSymmetric g → IsSymmetric (apply Undirected g w)
keeps_symmetric g w same a b =
    weight-apply Undirected g w a b
    ∙ (λ i. cond (covers_turned w a b i) (leaves_weight w) (same a b i))
    ∙ sym (weight-apply Undirected g w b a)

-- ---- writes that don't clash

-- an edge without direction is the same item either way
pub two_ways : (u v : ℕ) → edge Undirected u v ≡ edge Undirected v u
two_ways u v = by_tests (nat_lt v u) (nat_lt u v) refl refl
  where
    by_tests : (s t : Bool) → nat_lt v u ≡ s → nat_lt u v ≡ t → cond s (Edge v u) (Edge u v) ≡ cond t (Edge u v) (Edge v u)
    by_tests true true e f = absurd (grind (arith, nat_tests))
    by_tests true false e f = refl
    by_tests false true e f = refl
    by_tests false false e f = let same : u ≡ v = grind (arith, nat_tests) in (λ i. Edge (same i) (sym same i))

-- each arc of an edge names the edge
pub turned_edge : (kind : Kind) (u v a b : ℕ) → covers kind u v a b ≡ true → edge kind u v ≡ edge kind a b
turned_edge Directed u v a b e = let p = both_of _ _ e in (λ i. Edge (sym (eq_of a u p.0) i) (sym (eq_of b v p.1) i))
turned_edge Undirected u v a b e =
    elim (either_of ((a == v) && (b == u)) ((a == u) && (b == v)) e) as (λ _. edge Undirected u v ≡ edge Undirected a b) [
      | inl h ↦ let p = both_of _ _ h in two_ways u v ∙ (λ i. edge Undirected (sym (eq_of a v p.0) i) (sym (eq_of b u p.1) i))
      | inr h ↦ let p = both_of _ _ h in (λ i. edge Undirected (sym (eq_of a u p.0) i) (sym (eq_of b v p.1) i))
    ]

-- a write that is about a vertex writes that item
pub about_item : (kind : Kind) (w : Write) (q : ℕ) → is_about w q ≡ true → item kind w ≡ Vertex q
about_item kind (AddVertex v) q e = ap Vertex (sym (eq_of q v e))
about_item kind (DropVertex v) q e = ap Vertex (sym (eq_of q v e))
about_item kind (AddEdge u v weight) q e = cc
about_item kind (SetEdge u v weight) q e = cc
about_item kind (DropEdge u v) q e = cc

-- a write that is about an arc writes the item of its edge
pub about_arc_item : (kind : Kind) (w : Write) (a b : ℕ) → is_about_arc kind w a b ≡ true → item kind w ≡ edge kind a b
about_arc_item kind (AddVertex v) a b e = cc
about_arc_item kind (DropVertex v) a b e = cc
about_arc_item kind (AddEdge u v weight) a b e = turned_edge kind u v a b e
about_arc_item kind (SetEdge u v weight) a b e = turned_edge kind u v a b e
about_arc_item kind (DropEdge u v) a b e = turned_edge kind u v a b e

same_item_self : (i : Item) → same_item i i ≡ true
same_item_self (Vertex v) = self_eq v
same_item_self (Edge u v) = (λ i. self_eq u i && self_eq v i)

-- writes of one item clash
pub clash_of_item : (kind : Kind) (x y : Write) → item kind x ≡ item kind y → clash kind x y ≡ true
clash_of_item kind x y same =
    let items : same_item (item kind x) (item kind y) ≡ true = ap (same_item (item kind x)) (sym same) ∙ same_item_self (item kind x) in
    (λ i. items i || cuts_off x y || cuts_off y x)

-- a removal clashes with what it cuts off
pub clash_of_cut : (kind : Kind) (x y : Write) → cuts_off x y ≡ true → clash kind x y ≡ true
clash_of_cut kind x y cuts = or_left _ _ (or_right (same_item (item kind x) (item kind y)) _ cuts)

-- and the other way round
pub clash_of_cut_by : (kind : Kind) (x y : Write) → cuts_off y x ≡ true → clash kind x y ≡ true
clash_of_cut_by kind x y cuts = or_right (same_item (item kind x) (item kind y) || cuts_off x y) _ cuts

swap_cond : {X : Type 0} (s t : Bool) (a b z : X) → (s ≡ true → t ≡ true → ⊥) → cond s a (cond t b z) ≡ cond t b (cond s a z)
swap_cond true true a b z apart = absurd (apart refl refl)
swap_cond true false a b z apart = refl
swap_cond false t a b z apart = refl

module _ (kind : Kind) (x y : Write) (apart : clash kind x y ≡ false) where
  not_both : (q : ℕ) → is_about x q ≡ true → is_about y q ≡ true → ⊥
  not_both q of_x of_y = never _ (clash_of_item kind x y (about_item kind x q of_x ∙ sym (about_item kind y q of_y))) apart

  not_both_arcs : (a b : ℕ) → is_about_arc kind x a b ≡ true → is_about_arc kind y a b ≡ true → ⊥
  not_both_arcs a b of_x of_y = never _ (clash_of_item kind x y (about_arc_item kind x a b of_x ∙ sym (about_arc_item kind y a b of_y))) apart

  -- writes that don't clash commute
  pub commute : (g : Graph) → apply kind (apply kind g x) y ≡ apply kind (apply kind g y) x
  commute g =
      same_graph _ _
      (λ q. has_vertex-apply kind (apply kind g x) y q ∙ ap (cond (is_about y q) (leaves_vertex y)) (has_vertex-apply kind g x q)
      ∙ swap_cond (is_about y q) (is_about x q) (leaves_vertex y) (leaves_vertex x) (has_vertex g q) (λ of_y of_x. not_both q of_x of_y)
      ∙ sym (has_vertex-apply kind (apply kind g y) x q ∙ ap (cond (is_about x q) (leaves_vertex x)) (has_vertex-apply kind g y q)))
      (λ a b. weight-apply kind (apply kind g x) y a b ∙ ap (cond (is_about_arc kind y a b) (leaves_weight y)) (weight-apply kind g x a b)
      ∙ swap_cond (is_about_arc kind y a b) (is_about_arc kind x a b) (leaves_weight y) (leaves_weight x) (weight_of g a b) (λ of_y of_x. not_both_arcs a b of_x of_y)
      ∙ sym (weight-apply kind (apply kind g y) x a b ∙ ap (cond (is_about_arc kind x a b) (leaves_weight x)) (weight-apply kind g y a b)))

-- ---- and neither changes whether the other is refused

kept : {X : Type 0} (s : Bool) (new old : X) → (s ≡ true → ⊥) → cond s new old ≡ old
kept true new old against = absurd (against refl)
kept false new old against = refl

ends_touch : (kind : Kind) (u v a b q : ℕ) → covers kind u v a b ≡ true → ((a == q) || (b == q)) ≡ true → ((q == u) || (q == v)) ≡ true
ends_touch kind u v a b q e touches =
    elim (covers_ends kind u v a b e) as (λ _. ((q == u) || (q == v)) ≡ true) [
      | inl p ↦ let f : a ≡ u = p.0 in let h : b ≡ v = p.1 in grind (arith, nat_tests)
      | inr p ↦ let f : a ≡ v = p.0 in let h : b ≡ u = p.1 in grind (arith, nat_tests)
    ]

touched : (g : Graph) (u v q : ℕ) → ((q == u) || (q == v)) ≡ true → has_edges g q ≡ false → has_arc g u v ≡ false
touched g u v q touches bare = ap is_some (no_edges g q bare u v (turn (q == u) (u == q) (q == v) (v == q) (grind (arith, nat_tests)) (grind (arith, nat_tests)) touches))
  where
    turn : (s s' t t' : Bool) → s ≡ s' → t ≡ t' → (s || t) ≡ true → (s' || t') ≡ true
    turn s s' t t' e f h = sym (λ i. e i || f i) ∙ h

module _ (kind : Kind) (g : Graph) (x : Write) (x_allowed : refused g x ≡ None) where
  -- a vertex without edges stays so, unless the write adds one
  still_bare : (v : ℕ) → has_edges g v ≡ false → cuts_off (DropVertex v) x ≡ false → (a b : ℕ) → ((a == v) || (b == v)) ≡ true → (w : Write) → w ≡ x → cond (is_about_arc kind w a b) (leaves_weight w) None ≡ None
  still_bare v bare spared a b touches (AddVertex p) same = refl
  still_bare v bare spared a b touches (DropVertex p) same = refl
  still_bare v bare spared a b touches (AddEdge p q weight) same =
      kept _ _ _ (λ e. never _ (ends_touch kind p q a b v e touches) (ap (cuts_off (DropVertex v)) same ∙ spared))
  still_bare v bare spared a b touches (SetEdge p q weight) same =
      kept _ _ _ (λ e.
      let there : has_arc g p q ≡ true = present (has_arc g p q) NoEdge (allowed_ends g p q _ (ap (refused g) same ∙ x_allowed)).3 in
      never _ there (touched g p q v (ends_touch kind p q a b v e touches) bare))
  still_bare v bare spared a b touches (DropEdge p q) same = elim (is_about_arc kind (DropEdge p q) a b) as (λ s. let none : Option ℕ = None in cond s none None ≡ None) [ true ↦ refl | false ↦ refl ]

  -- an end of an edge that is there or is added stays, unless the write cuts it off
  end_kept : (q : ℕ) → has_vertex g q ≡ true → (x ≡ DropVertex q → ⊥) → (w : Write) → w ≡ x → cond (is_about w q) (leaves_vertex w) true ≡ true
  end_kept q there spared (AddVertex p) same = elim (q == p) as (λ s. cond s true true ≡ true) [ true ↦ refl | false ↦ refl ]
  end_kept q there spared (DropVertex p) same = kept _ _ _ (λ e. spared (sym same ∙ ap DropVertex (sym (eq_of q p e))))
  end_kept q there spared (AddEdge u v weight) same = refl
  end_kept q there spared (SetEdge u v weight) same = refl
  end_kept q there spared (DropEdge u v) same = refl

  module _ (y : Write) (apart : clash kind x y ≡ false) where
    same_vertex : (q : ℕ) → item kind y ≡ Vertex q → has_vertex (apply kind g x) q ≡ has_vertex g q
    same_vertex q is = has_vertex-apply kind g x q ∙ kept _ _ _ (λ of_x. never _ (clash_of_item kind x y (about_item kind x q of_x ∙ sym is)) apart)

    same_arc : (u v : ℕ) → item kind y ≡ edge kind u v → has_arc (apply kind g x) u v ≡ has_arc g u v
    same_arc u v is = ap is_some (weight-apply kind g x u v ∙ kept _ _ _ (λ of_x. never _ (clash_of_item kind x y (about_arc_item kind x u v of_x ∙ sym is)) apart))

    still_vertex : (q : ℕ) → has_vertex g q ≡ true → (x ≡ DropVertex q → ⊥) → has_vertex (apply kind g x) q ≡ true
    still_vertex q there spared = has_vertex-apply kind g x q ∙ ap (cond (is_about x q) (leaves_vertex x)) there ∙ end_kept q there spared x refl

not_dropped : (g : Graph) (x : Write) (u v q : ℕ) → refused g x ≡ None → has_arc g u v ≡ true → ((q == u) || (q == v)) ≡ true → x ≡ DropVertex q → ⊥
not_dropped g x u v q x_allowed there touches is = never _ there (touched g u v q touches (droppable g q (ap (refused g) (sym is) ∙ x_allowed)).1)

-- and neither makes the other refused
pub still_allowed : (kind : Kind) (g : Graph) (x y : Write) → clash kind x y ≡ false → refused g x ≡ None → refused g y ≡ None → refused (apply kind g x) y ≡ None
still_allowed kind g x (AddVertex v) apart x_allowed y_allowed =
    ap (λ s. cond s (Some VertexExists) None) (same_vertex kind g x x_allowed (AddVertex v) apart v refl) ∙ y_allowed
still_allowed kind g x (DropVertex v) apart x_allowed y_allowed =
    let y_is = droppable g v y_allowed in
    let bare : has_edges (apply kind g x) v ≡ false = has_no_edges (apply kind g x) v (λ a b touches.
    weight-apply kind g x a b ∙ ap (cond (is_about_arc kind x a b) (leaves_weight x)) (no_edges g v y_is.1 a b touches)
    ∙ still_bare kind g x x_allowed v y_is.1 (false_from_ne_true _ (λ cuts. never _ (clash_of_cut_by kind x (DropVertex v) cuts) apart)) a b touches x refl) in
    (λ i. cond ((same_vertex kind g x x_allowed (DropVertex v) apart v refl ∙ y_is.0) i) (cond (bare i) (Some HasEdges) None) (Some (NoVertex v)))
still_allowed kind g x (AddEdge u v weight) apart x_allowed y_allowed =
    let at = allowed_ends g u v _ y_allowed in
    let spared : (q : ℕ) → ((q == u) || (q == v)) ≡ true → x ≡ DropVertex q → ⊥ = λ q touches is.
    never _ (clash_of_cut kind x (AddEdge u v weight) (ap (λ w. cuts_off w (AddEdge u v weight)) is ∙ touches)) apart in
    ends_allow (apply kind g x) u v _ at.0
    (still_vertex kind g x x_allowed (AddEdge u v weight) apart u at.1 (spared u (or_left _ _ (self_eq u))))
    (still_vertex kind g x x_allowed (AddEdge u v weight) apart v at.2 (spared v (or_right (v == u) _ (self_eq v))))
    (ap (λ s. cond s (Some EdgeExists) None) (same_arc kind g x x_allowed (AddEdge u v weight) apart u v refl) ∙ at.3)
still_allowed kind g x (SetEdge u v weight) apart x_allowed y_allowed =
    let at = allowed_ends g u v _ y_allowed in
    let there = present (has_arc g u v) NoEdge at.3 in
    ends_allow (apply kind g x) u v _ at.0
    (still_vertex kind g x x_allowed (SetEdge u v weight) apart u at.1 (not_dropped g x u v u x_allowed there (or_left _ _ (self_eq u))))
    (still_vertex kind g x x_allowed (SetEdge u v weight) apart v at.2 (not_dropped g x u v v x_allowed there (or_right (v == u) _ (self_eq v))))
    (ap (λ s. cond s None (Some NoEdge)) (same_arc kind g x x_allowed (SetEdge u v weight) apart u v refl) ∙ at.3)
still_allowed kind g x (DropEdge u v) apart x_allowed y_allowed =
    let at = allowed_ends g u v _ y_allowed in
    let there = present (has_arc g u v) NoEdge at.3 in
    ends_allow (apply kind g x) u v _ at.0
    (still_vertex kind g x x_allowed (DropEdge u v) apart u at.1 (not_dropped g x u v u x_allowed there (or_left _ _ (self_eq u))))
    (still_vertex kind g x x_allowed (DropEdge u v) apart v at.2 (not_dropped g x u v v x_allowed there (or_right (v == u) _ (self_eq v))))
    (ap (λ s. cond s None (Some NoEdge)) (same_arc kind g x x_allowed (DropEdge u v) apart u v refl) ∙ at.3)
