-- What a write changes of a graph, look-up by look-up; and that equal look-ups make equal graphs.
use Rattle.std.proofs.Common.{◌≡◌, ℕ, List, [], ◌∷◌, refl, sym, ◌∙◌, ap, cond}
use Rattle.std.specs.Prelude.{Bool, true, false, ◌==◌, ◌&&◌, ◌||◌, not, Option, Some, None, is_some}
use Rattle.std.specs.List.{list_any}
use Rattle.std.specs.Ordering.{nat_cmp, eq_by_cmp}
use Rattle.std.specs.Cmp.{nat_cmp_total, unsigned_tied, Equal-is, eq_by_cmp_equiv}
use Rattle.std.specs.FinMap as fin_map
use Rattle.std.specs.FinMap.{nat_cmp-IsAntisymmetric}
use Rattle.graph_model.specs.declared.write.Kind.{Kind}
use Rattle.graph_model.specs.declared.write.Kind.TheVariants.{Directed, Undirected}
use Rattle.graph_model.specs.declared.write.Write.{Write}
use Rattle.graph_model.specs.declared.write.Write.TheVariants.{AddVertex, DropVertex, AddEdge, SetEdge, DropEdge}
use Rattle.graph_model.specs.Graph.{Graph, arc_cmp, has_vertex, weight_of, has_edges, with_arc, without_arc, with_edge, without_edge, apply}
use Rattle.graph_model.proofs.OrderLemmas.{arcs_total, arcs_exact, arc_tie}

abbrev marked : Bool → Option (Unit {0})
marked b = cond b (Some tt) None

-- a mark is there or not
pub marks : (x : Option (Unit {0})) → x ≡ cond (is_some x) (Some tt) None
marks None = refl
marks (Some u) = refl

-- graphs that answer alike are equal
pub same_graph : (g h : Graph) → ((v : ℕ) → has_vertex g v ≡ has_vertex h v) → ((u v : ℕ) → weight_of g u v ≡ weight_of h u v) → g ≡ h
same_graph g h vertices weights =
    let same_vertices : g.vertices ≡ h.vertices = fin_map.same_map nat_cmp_total nat_cmp-IsAntisymmetric g.vertices h.vertices (λ q. marks _ ∙ ap marked (vertices q) ∙ sym (marks _)) in
    let same_arcs : g.arcs ≡ h.arcs = fin_map.same_map arcs_total arcs_exact g.arcs h.arcs (λ q. weights q.0 q.1) in
    λ i. record { vertices = same_vertices i; arcs = same_arcs i }

some_cond : (b : Bool) (x : Option (Unit {0})) → is_some (cond b (Some tt) x) ≡ (b || is_some x)
some_cond true x = refl
some_cond false x = refl

none_cond : (b : Bool) (x : Option (Unit {0})) → is_some (cond b None x) ≡ (not b && is_some x)
none_cond true x = refl
none_cond false x = refl

-- the vertices behind an added one
pub has_vertex-insert : (g : Graph) (v q : ℕ) → has_vertex (record g { vertices = fin_map.insert g.vertices v tt }) q ≡ ((q == v) || has_vertex g q)
has_vertex-insert g v q = ap is_some (fin_map.get-insert nat_cmp_total g.vertices v tt q) ∙ some_cond (eq_by_cmp nat_cmp q v) (fin_map.get g.vertices q) ∙ ap (λ b. b || has_vertex g q) (unsigned_tied q v)

-- behind a removed one
pub has_vertex-remove : (g : Graph) (v q : ℕ) → has_vertex (record g { vertices = fin_map.remove g.vertices v }) q ≡ (not (q == v) && has_vertex g q)
has_vertex-remove g v q = ap is_some (fin_map.get-remove nat_cmp_total g.vertices v q) ∙ none_cond (eq_by_cmp nat_cmp q v) (fin_map.get g.vertices q) ∙ ap (λ b. not b && has_vertex g q) (unsigned_tied q v)

-- the weights behind an added arc
pub weight-with_arc : (g : Graph) (u v weight a b : ℕ) → weight_of (with_arc g u v weight) a b ≡ cond ((a == u) && (b == v)) (Some weight) (weight_of g a b)
weight-with_arc g u v weight a b = fin_map.get-insert arcs_total g.arcs (u, v) weight (a, b) ∙ ap (λ t. cond t (Some weight) (weight_of g a b)) (arc_tie a b u v)

-- behind a removed one
pub weight-without_arc : (g : Graph) (u v a b : ℕ) → weight_of (without_arc g u v) a b ≡ cond ((a == u) && (b == v)) None (weight_of g a b)
weight-without_arc g u v a b = fin_map.get-remove arcs_total g.arcs (u, v) (a, b) ∙ ap (λ t. cond t None (weight_of g a b)) (arc_tie a b u v)

-- whether the edge of u and v has the arc from a to b
abbrev pub covers : Kind → ℕ → ℕ → ℕ → ℕ → Bool
covers Directed u v a b = (a == u) && (b == v)
covers Undirected u v a b = ((a == v) && (b == u)) || ((a == u) && (b == v))

cond_or : {X : Type 0} (s t : Bool) (x y : X) → cond s x (cond t x y) ≡ cond (s || t) x y
cond_or true t x y = refl
cond_or false t x y = refl

-- behind an edge that is added or set
pub weight-with_edge : (kind : Kind) (g : Graph) (u v weight a b : ℕ) → weight_of (with_edge kind g u v weight) a b ≡ cond (covers kind u v a b) (Some weight) (weight_of g a b)
weight-with_edge Directed g u v weight a b = weight-with_arc g u v weight a b
weight-with_edge Undirected g u v weight a b =
    weight-with_arc (with_arc g u v weight) v u weight a b
    ∙ ap (cond ((a == v) && (b == u)) (Some weight)) (weight-with_arc g u v weight a b)
    ∙ cond_or ((a == v) && (b == u)) ((a == u) && (b == v)) (Some weight) (weight_of g a b)

-- behind one that is dropped
pub weight-without_edge : (kind : Kind) (g : Graph) (u v a b : ℕ) → weight_of (without_edge kind g u v) a b ≡ cond (covers kind u v a b) None (weight_of g a b)
weight-without_edge Directed g u v a b = weight-without_arc g u v a b
weight-without_edge Undirected g u v a b =
    weight-without_arc (without_arc g u v) v u a b
    ∙ ap (cond ((a == v) && (b == u)) None) (weight-without_arc g u v a b)
    ∙ cond_or ((a == v) && (b == u)) ((a == u) && (b == v)) None (weight_of g a b)

-- The effect of a write, in one form for all: which vertices and arcs it is about, and what it leaves there.

-- the vertices that it adds or removes
abbrev pub is_about : Write → ℕ → Bool
is_about (AddVertex v) q = q == v
is_about (DropVertex v) q = q == v
is_about (AddEdge u v weight) q = false
is_about (SetEdge u v weight) q = false
is_about (DropEdge u v) q = false

-- whether it leaves them there
abbrev pub leaves_vertex : Write → Bool
leaves_vertex (AddVertex v) = true
leaves_vertex (DropVertex v) = false
leaves_vertex (AddEdge u v weight) = true
leaves_vertex (SetEdge u v weight) = true
leaves_vertex (DropEdge u v) = true

-- the arcs that it adds, sets or removes
abbrev pub is_about_arc : Kind → Write → ℕ → ℕ → Bool
is_about_arc kind (AddVertex v) a b = false
is_about_arc kind (DropVertex v) a b = false
is_about_arc kind (AddEdge u v weight) a b = covers kind u v a b
is_about_arc kind (SetEdge u v weight) a b = covers kind u v a b
is_about_arc kind (DropEdge u v) a b = covers kind u v a b

-- what weight it leaves them
abbrev pub leaves_weight : Write → Option ℕ
leaves_weight (AddVertex v) = None
leaves_weight (DropVertex v) = None
leaves_weight (AddEdge u v weight) = Some weight
leaves_weight (SetEdge u v weight) = Some weight
leaves_weight (DropEdge u v) = None

same_vertices_with : (kind : Kind) (g : Graph) (u v weight q : ℕ) → has_vertex (with_edge kind g u v weight) q ≡ has_vertex g q
same_vertices_with Directed g u v weight q = refl
same_vertices_with Undirected g u v weight q = refl

same_vertices_without : (kind : Kind) (g : Graph) (u v q : ℕ) → has_vertex (without_edge kind g u v) q ≡ has_vertex g q
same_vertices_without Directed g u v q = refl
same_vertices_without Undirected g u v q = refl

or_cond : (s t : Bool) → (s || t) ≡ cond s true t
or_cond true t = refl
or_cond false t = refl

not_cond : (s t : Bool) → (not s && t) ≡ cond s false t
not_cond true t = refl
not_cond false t = refl

-- the vertices after a write
pub has_vertex-apply : (kind : Kind) (g : Graph) (w : Write) (q : ℕ) → has_vertex (apply kind g w) q ≡ cond (is_about w q) (leaves_vertex w) (has_vertex g q)
has_vertex-apply kind g (AddVertex v) q = has_vertex-insert g v q ∙ or_cond (q == v) (has_vertex g q)
has_vertex-apply kind g (DropVertex v) q = has_vertex-remove g v q ∙ not_cond (q == v) (has_vertex g q)
has_vertex-apply kind g (AddEdge u v weight) q = same_vertices_with kind g u v weight q
has_vertex-apply kind g (SetEdge u v weight) q = same_vertices_with kind g u v weight q
has_vertex-apply kind g (DropEdge u v) q = same_vertices_without kind g u v q

-- the weights after a write
pub weight-apply : (kind : Kind) (g : Graph) (w : Write) (a b : ℕ) → weight_of (apply kind g w) a b ≡ cond (is_about_arc kind w a b) (leaves_weight w) (weight_of g a b)
weight-apply kind g (AddVertex v) a b = refl
weight-apply kind g (DropVertex v) a b = refl
weight-apply kind g (AddEdge u v weight) a b = weight-with_edge kind g u v weight a b
weight-apply kind g (SetEdge u v weight) a b = weight-with_edge kind g u v weight a b
weight-apply kind g (DropEdge u v) a b = weight-without_edge kind g u v a b

-- Whether a vertex has edges.

any_of : {X : Type 0} (p q : X → Bool) (xs : List X) → ((x : X) → q x ≡ true → p x ≡ true) → list_any p xs ≡ false → list_any q xs ≡ false
any_of p q [] each none = refl
any_of p q (x ∷ xs) each none =
    elim (q x) as (λ t. q x ≡ t → (t || list_any q xs) ≡ false) [
      | true ↦ λ t. let yes : p x ≡ true = each x t in let e : (true || list_any p xs) ≡ false = ap (λ s. s || list_any p xs) (sym yes) ∙ none in cc
      | false ↦ λ t. any_of p q xs each (elim (p x) as (λ s. (s || list_any p xs) ≡ false → list_any p xs ≡ false) [ true ↦ λ e. cc | false ↦ λ e. e ] none)
    ] refl

none_of : {X : Type 0} (same : X → X → Bool) (p : X → Bool) → ((x : X) → same x x ≡ true) → (xs : List X) → ((x : X) → list_any (same x) xs ≡ true → p x ≡ false) → list_any p xs ≡ false
none_of same p self [] each = refl
none_of same p self (x ∷ xs) each =
    λ i. each x (ap (λ s. s || list_any (same x) xs) (self x)) i || none_of same p self xs (λ y h. each y (ap (λ s. same y x || s) h ∙ or_true (same y x))) i
  where
    or_true : (s : Bool) → (s || true) ≡ true
    or_true true = refl
    or_true false = refl

is_none : (x : Option ℕ) → is_some x ≡ false → x ≡ None
is_none None e = refl
is_none (Some w) e = cc

-- a vertex with no edges has no arc out and none in
pub no_edges : (g : Graph) (v : ℕ) → has_edges g v ≡ false → (a b : ℕ) → ((a == v) || (b == v)) ≡ true → weight_of g a b ≡ None
no_edges g v none a b touches =
    is_none _ (fin_map.contains_key-keys g.arcs (a, b)
    ∙ any_of (λ arc. (arc.0 == v) || (arc.1 == v)) (eq_by_cmp arc_cmp (a, b)) (fin_map.keys g.arcs)
    (λ arc tie. let same : (a, b) ≡ arc = arcs_exact (a, b) arc ((Equal-is _).0 tie) in ap (λ (p : ℕ × ℕ). (p.0 == v) || (p.1 == v)) (sym same) ∙ touches)
    none)

-- and the other way round
pub has_no_edges : (g : Graph) (v : ℕ) → ((a b : ℕ) → ((a == v) || (b == v)) ≡ true → weight_of g a b ≡ None) → has_edges g v ≡ false
has_no_edges g v none =
    none_of (eq_by_cmp arc_cmp) (λ arc. (arc.0 == v) || (arc.1 == v)) (eq_by_cmp_equiv arcs_total).refl (fin_map.keys g.arcs)
    (λ arc there. elim ((arc.0 == v) || (arc.1 == v)) as (λ t. ((arc.0 == v) || (arc.1 == v)) ≡ t → t ≡ false) [
      | true ↦ λ touches. let e : true ≡ false = sym there ∙ sym (fin_map.contains_key-keys g.arcs arc) ∙ ap is_some (none arc.0 arc.1 touches) in cc
      | false ↦ λ _. refl
    ] refl)
