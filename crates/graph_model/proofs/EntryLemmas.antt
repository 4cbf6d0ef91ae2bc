-- Graphs by their entries: what a graph that is written out has, refuses and becomes is reckoned on two lists.
use Rattle.std.proofs.Common.{◌≡◌, ℕ, List, [], ◌∷◌, ◌++◌, length, refl, sym, ◌∙◌, ap, cond, arith}
use Rattle.std.specs.Prelude.{Bool, true, false, ◌==◌, ◌||◌, not, map as list_map, Option, Some, None, is_some, IsTrue}
use Rattle.std.specs.List.{filter, list_any}
use Rattle.std.specs.Ordering.{nat_cmp, eq_by_cmp}
use Rattle.std.specs.declared.cmp.Ordering.{Ordering}
use Rattle.std.specs.declared.cmp.Ordering.TheVariants.{Equal}
use Rattle.std.specs.Cmp.{IsTotalOrder, nat_cmp_total, eq_by_cmp_equiv}
use Rattle.std.specs.FinMap as map
use Rattle.std.specs.FinMap.{FinMap, nat_cmp-IsAntisymmetric}
use Rattle.std.specs.FinMap.Entries.{find, put, where_key, find-where_key, is_sorted-where_key, same_entries}
use Rattle.graph_model.specs.declared.write.Kind.{Kind}
use Rattle.graph_model.specs.declared.write.Kind.TheVariants.{Directed, Undirected}
use Rattle.graph_model.specs.declared.write.Write.{Write}
use Rattle.graph_model.specs.declared.write.Write.TheVariants.{AddVertex, DropVertex, AddEdge, SetEdge, DropEdge}
use Rattle.graph_model.specs.declared.row.Key.{Key}
use Rattle.graph_model.specs.declared.row.Row.{Row}
use Rattle.graph_model.specs.declared.refusal.Refusal.{Refusal}
use Rattle.graph_model.specs.declared.refusal.Refusal.TheVariants.{SelfLoop, NoVertex, VertexExists, EdgeExists, NoEdge, HasEdges}
use Rattle.graph_model.specs.Graph.{Graph, arc_cmp, empty_graph, has_vertex, vertices_of, weight_of, has_arc, has_edges, apply, apply_all}
use Rattle.graph_model.specs.Refused.{refused, AllAllowed}
use Rattle.graph_model.specs.Rows.{key_cmp, vertex_entry, arc_entry, row_of, is_between, rows}
use Rattle.graph_model.proofs.OrderLemmas.{arcs_total, arcs_exact, keys_total}

-- ---- maps by their entries

no_items : {A : Type 0} (xs : List A) → length xs ≡ 0 → xs ≡ []
no_items [] e = refl
no_items (x ∷ xs) e = absurd (omega arith)

-- the empty map has no entries
pub entries-empty : {K X : Type 0} (R : K → K → Ordering) → map.entries (map.empty {K = K} {X = X} {R = R}) ≡ []
entries-empty {K} {X} R = no_items _ (sym (map.len-entries (map.empty {K = K} {X = X} {R = R})) ∙ map.len-empty R X)

module _ {K X : Type 0} {R : K → K → Ordering} (total : IsTotalOrder R) (exact : (x y : K) → R x y ≡ Equal → x ≡ y) where
  -- the entries but for those of a key
  abbrev without : K → List (K × X) → List (K × X)
  without k es = where_key R (λ x. not (eq_by_cmp R k x)) es

  not_cond : (t : Bool) (x : Option X) → cond (not t) x None ≡ cond t None x
  not_cond true x = refl
  not_cond false x = refl

  -- a map without a key has all entries but those of the key
  pub entries-remove : (m : FinMap R X) (k : K) → map.entries (map.remove m k) ≡ without k (map.entries m)
  entries-remove m k =
      same_entries R total exact _ _ (map.entries_sorted (map.remove m k)) (is_sorted-where_key R (λ x. not (eq_by_cmp R k x)) (map.entries m) (map.entries_sorted m))
      (λ q. sym (map.get-entries (map.remove m k) q) ∙ map.get-remove total m k q
      ∙ ap (λ t. cond t None (map.get m q)) ((eq_by_cmp_equiv total).symm q k)
      ∙ ap (cond (eq_by_cmp R k q) None) (map.get-entries m q)
      ∙ sym (not_cond (eq_by_cmp R k q) (find R q (map.entries m)))
      ∙ sym (find-where_key R (λ x. not (eq_by_cmp R k x)) q (λ x tied. ap (λ y. not (eq_by_cmp R k y)) (sym (exact q x tied))) (map.entries m)))

-- ---- a graph that is written out

-- the entries of a set of vertices
abbrev pub Marks : Type 0
Marks = List (ℕ × Unit {0})

-- the entries of a map of arcs
abbrev pub Arcs : Type 0
Arcs = List ((ℕ × ℕ) × ℕ)

-- these are the graph's vertices and its arcs
pub record HasEntries (g : Graph) (vs : Marks) (es : Arcs) : Type 0 where
  pub vertices : map.entries g.vertices ≡ vs
  pub arcs : map.entries g.arcs ≡ es

-- the same questions, to the entries
abbrev pub vertex_in : Marks → ℕ → Bool
vertex_in vs v = is_some (find nat_cmp v vs)

abbrev pub weight_in : Arcs → ℕ → ℕ → Option ℕ
weight_in es u v = find arc_cmp (u, v) es

abbrev pub edges_in : Arcs → ℕ → Bool
edges_in es v = list_any (λ (arc : ℕ × ℕ). (arc.0 == v) || (arc.1 == v)) (list_map (λ (e : (ℕ × ℕ) × ℕ). e.0) es)

module _ (g : Graph) (vs : Marks) (es : Arcs) (has : HasEntries g vs es) where
  -- the graph and its entries give one answer
  pub vertex_at : (v : ℕ) → has_vertex g v ≡ vertex_in vs v
  vertex_at v = ap is_some (map.get-entries g.vertices v ∙ ap (find nat_cmp v) has.vertices)

  pub weight_at : (u v : ℕ) → weight_of g u v ≡ weight_in es u v
  weight_at u v = map.get-entries g.arcs (u, v) ∙ ap (find arc_cmp (u, v)) has.arcs

  pub arc_at : (u v : ℕ) → has_arc g u v ≡ is_some (weight_in es u v)
  arc_at u v = ap is_some (weight_at u v)

  pub edges_at : (v : ℕ) → has_edges g v ≡ edges_in es v
  edges_at v = ap (λ xs. edges_in xs v) has.arcs

  pub vertices_are : vertices_of g ≡ list_map (λ (e : ℕ × Unit {0}). e.0) vs
  vertices_are = ap (list_map (λ (e : ℕ × Unit {0}). e.0)) has.vertices

-- ---- what it refuses

abbrev pub unless_ends_in : Marks → ℕ → ℕ → Option Refusal → Option Refusal
unless_ends_in vs u v answer = cond (u == v) (Some SelfLoop) (cond (vertex_in vs u) (cond (vertex_in vs v) answer (Some (NoVertex v))) (Some (NoVertex u)))

abbrev pub refusal_in : Marks → Arcs → Write → Option Refusal
refusal_in vs es (AddVertex v) = cond (vertex_in vs v) (Some VertexExists) None
refusal_in vs es (DropVertex v) = cond (vertex_in vs v) (cond (edges_in es v) (Some HasEdges) None) (Some (NoVertex v))
refusal_in vs es (AddEdge u v weight) = unless_ends_in vs u v (cond (is_some (weight_in es u v)) (Some EdgeExists) None)
refusal_in vs es (SetEdge u v weight) = unless_ends_in vs u v (cond (is_some (weight_in es u v)) None (Some NoEdge))
refusal_in vs es (DropEdge u v) = unless_ends_in vs u v (cond (is_some (weight_in es u v)) None (Some NoEdge))

module _ (g : Graph) (vs : Marks) (es : Arcs) (has : HasEntries g vs es) where
  -- what it refuses, its entries refuse
  pub refused_at : (w : Write) → refused g w ≡ refusal_in vs es w
  refused_at (AddVertex v) = ap (λ s. cond s (Some VertexExists) None) (vertex_at g vs es has v)
  refused_at (DropVertex v) = λ i. cond (vertex_at g vs es has v i) (cond (edges_at g vs es has v i) (Some HasEdges) None) (Some (NoVertex v))
  refused_at (AddEdge u v weight) = λ i. cond (u == v) (Some SelfLoop) (cond (vertex_at g vs es has u i) (cond (vertex_at g vs es has v i) (cond (arc_at g vs es has u v i) (Some EdgeExists) None) (Some (NoVertex v))) (Some (NoVertex u)))
  refused_at (SetEdge u v weight) = λ i. cond (u == v) (Some SelfLoop) (cond (vertex_at g vs es has u i) (cond (vertex_at g vs es has v i) (cond (arc_at g vs es has u v i) None (Some NoEdge)) (Some (NoVertex v))) (Some (NoVertex u)))
  refused_at (DropEdge u v) = λ i. cond (u == v) (Some SelfLoop) (cond (vertex_at g vs es has u i) (cond (vertex_at g vs es has v i) (cond (arc_at g vs es has u v i) None (Some NoEdge)) (Some (NoVertex v))) (Some (NoVertex u)))

-- ---- what it becomes

-- the entries of the vertices after a write
abbrev pub marks_after : Write → Marks → Marks
marks_after (AddVertex v) vs = put nat_cmp v tt vs
marks_after (DropVertex v) vs = where_key nat_cmp (λ x. not (eq_by_cmp nat_cmp v x)) vs
marks_after (AddEdge u v weight) vs = vs
marks_after (SetEdge u v weight) vs = vs
marks_after (DropEdge u v) vs = vs

abbrev pub without_arc_in : ℕ → ℕ → Arcs → Arcs
without_arc_in u v es = where_key arc_cmp (λ x. not (eq_by_cmp arc_cmp (u, v) x)) es

abbrev pub with_edge_in : Kind → ℕ → ℕ → ℕ → Arcs → Arcs
with_edge_in Directed u v weight es = put arc_cmp (u, v) weight es
with_edge_in Undirected u v weight es = put arc_cmp (v, u) weight (put arc_cmp (u, v) weight es)

abbrev pub without_edge_in : Kind → ℕ → ℕ → Arcs → Arcs
without_edge_in Directed u v es = without_arc_in u v es
without_edge_in Undirected u v es = without_arc_in v u (without_arc_in u v es)

-- the entries of the arcs after a write
abbrev pub arcs_after : Kind → Write → Arcs → Arcs
arcs_after kind (AddVertex v) es = es
arcs_after kind (DropVertex v) es = es
arcs_after kind (AddEdge u v weight) es = with_edge_in kind u v weight es
arcs_after kind (SetEdge u v weight) es = with_edge_in kind u v weight es
arcs_after kind (DropEdge u v) es = without_edge_in kind u v es

with_edge_entries : (kind : Kind) (g : Graph) (vs : Marks) (es : Arcs) → HasEntries g vs es → (u v weight : ℕ) → HasEntries (apply kind g (SetEdge u v weight)) vs (with_edge_in kind u v weight es)
with_edge_entries Directed g vs es has u v weight = record {
  vertices = has.vertices;
  arcs = map.entries-insert arcs_total g.arcs (u, v) weight ∙ ap (put arc_cmp (u, v) weight) has.arcs;
}
with_edge_entries Undirected g vs es has u v weight = record {
  vertices = has.vertices;
  arcs =
      map.entries-insert arcs_total (map.insert g.arcs (u, v) weight) (v, u) weight
      ∙ ap (put arc_cmp (v, u) weight) (map.entries-insert arcs_total g.arcs (u, v) weight ∙ ap (put arc_cmp (u, v) weight) has.arcs);
}

without_edge_entries : (kind : Kind) (g : Graph) (vs : Marks) (es : Arcs) → HasEntries g vs es → (u v : ℕ) → HasEntries (apply kind g (DropEdge u v)) vs (without_edge_in kind u v es)
without_edge_entries Directed g vs es has u v = record {
  vertices = has.vertices;
  arcs = entries-remove arcs_total arcs_exact g.arcs (u, v) ∙ ap (without_arc_in u v) has.arcs;
}
without_edge_entries Undirected g vs es has u v = record {
  vertices = has.vertices;
  arcs =
      entries-remove arcs_total arcs_exact (map.remove g.arcs (u, v)) (v, u)
      ∙ ap (without_arc_in v u) (entries-remove arcs_total arcs_exact g.arcs (u, v) ∙ ap (without_arc_in u v) has.arcs);
}

-- a write does to a graph what it does to its entries
pub entries_after : (kind : Kind) (g : Graph) (vs : Marks) (es : Arcs) → HasEntries g vs es → (w : Write) → HasEntries (apply kind g w) (marks_after w vs) (arcs_after kind w es)
entries_after kind g vs es has (AddVertex v) = record { vertices = map.entries-insert nat_cmp_total g.vertices v tt ∙ ap (put nat_cmp v tt) has.vertices; arcs = has.arcs }
entries_after kind g vs es has (DropVertex v) = record { vertices = entries-remove nat_cmp_total nat_cmp-IsAntisymmetric g.vertices v ∙ ap (where_key nat_cmp (λ x. not (eq_by_cmp nat_cmp v x))) has.vertices; arcs = has.arcs }
entries_after kind g vs es has (AddEdge u v weight) = with_edge_entries kind g vs es has u v weight
entries_after kind g vs es has (SetEdge u v weight) = with_edge_entries kind g vs es has u v weight
entries_after kind g vs es has (DropEdge u v) = without_edge_entries kind g vs es has u v

abbrev pub marks_after_all : List Write → Marks → Marks
marks_after_all [] vs = vs
marks_after_all (w ∷ ws) vs = marks_after_all ws (marks_after w vs)

abbrev pub arcs_after_all : Kind → List Write → Arcs → Arcs
arcs_after_all kind [] es = es
arcs_after_all kind (w ∷ ws) es = arcs_after_all kind ws (arcs_after kind w es)

-- so does a list of writes
pub entries_after_all : (kind : Kind) (g : Graph) (vs : Marks) (es : Arcs) → HasEntries g vs es → (ws : List Write) → HasEntries (apply_all kind g ws) (marks_after_all ws vs) (arcs_after_all kind ws es)
entries_after_all kind g vs es has [] = has
entries_after_all kind g vs es has (w ∷ ws) = entries_after_all kind (apply kind g w) (marks_after w vs) (arcs_after kind w es) (entries_after kind g vs es has w) ws

-- the empty graph has no entries
pub empty_entries : HasEntries empty_graph [] []
empty_entries = record { vertices = entries-empty {X = Unit {0}} nat_cmp; arcs = entries-empty {X = ℕ} arc_cmp }

-- what writes make of the empty graph
pub entries_made : (kind : Kind) (ws : List Write) → HasEntries (apply_all kind empty_graph ws) (marks_after_all ws []) (arcs_after_all kind ws [])
entries_made kind ws = entries_after_all kind empty_graph [] [] empty_entries ws

-- its look-ups
pub made_weight : (kind : Kind) (ws : List Write) (u v : ℕ) → weight_of (apply_all kind empty_graph ws) u v ≡ weight_in (arcs_after_all kind ws []) u v
made_weight kind ws u v = weight_at (apply_all kind empty_graph ws) _ _ (entries_made kind ws) u v

pub made_vertex : (kind : Kind) (ws : List Write) (v : ℕ) → has_vertex (apply_all kind empty_graph ws) v ≡ vertex_in (marks_after_all ws []) v
made_vertex kind ws v = vertex_at (apply_all kind empty_graph ws) _ _ (entries_made kind ws) v

pub made_arc : (kind : Kind) (ws : List Write) (u v : ℕ) → is_some (weight_in (arcs_after_all kind ws []) u v) ≡ true → IsTrue (has_arc (apply_all kind empty_graph ws) u v)
made_arc kind ws u v there = ap is_some (made_weight kind ws u v) ∙ there

-- ---- its rows

-- each entry in its place
abbrev pub sorted_rows : List (Key × ℕ) → List (Key × ℕ)
sorted_rows [] = []
sorted_rows (e ∷ es) = put key_cmp e.0 e.1 (sorted_rows es)

entries-from_entries : (es : List (Key × ℕ)) → map.entries (map.from_entries {R = key_cmp} es) ≡ sorted_rows es
entries-from_entries [] = entries-empty {X = ℕ} key_cmp
entries-from_entries (e ∷ es) = map.entries-insert keys_total (map.from_entries {R = key_cmp} es) e.0 e.1 ∙ ap (put key_cmp e.0 e.1) (entries-from_entries es)

-- the rows of a range, from the entries
abbrev pub rows_in : Marks → Arcs → Key → Key → List Row
rows_in vs es from until = list_map row_of (filter (λ e. is_between from until e.0) (sorted_rows (list_map vertex_entry (list_map (λ (e : ℕ × Unit {0}). e.0) vs) ++ list_map arc_entry es)))

-- a graph's rows are those of its entries
pub rows_at : (g : Graph) (vs : Marks) (es : Arcs) → HasEntries g vs es → (from until : Key) → rows g from until ≡ rows_in vs es from until
rows_at g vs es has from until =
    ap (λ xs. list_map row_of (filter (λ (e : Key × ℕ). is_between from until e.0) xs))
    (entries-from_entries (list_map vertex_entry (vertices_of g) ++ list_map arc_entry (map.entries g.arcs))
    ∙ (λ i. sorted_rows (list_map vertex_entry (vertices_are g vs es has i) ++ list_map arc_entry (has.arcs i))))

-- ---- lists of writes that it allows

-- the first of two
abbrev pub first_refusal : Option Refusal → Option Refusal → Option Refusal
first_refusal (Some e) rest = Some e
first_refusal None rest = rest

-- the first refusal of a list of writes
abbrev pub refusal_of_all : Kind → Marks → Arcs → List Write → Option Refusal
refusal_of_all kind vs es [] = None
refusal_of_all kind vs es (w ∷ ws) = first_refusal (refusal_in vs es w) (refusal_of_all kind (marks_after w vs) (arcs_after kind w es) ws)

no_first : (a b : Option Refusal) → first_refusal a b ≡ None → (a ≡ None) × (b ≡ None)
no_first None b e = (refl, e)
no_first (Some r) b e = cc

-- writes that the entries allow, the graph allows
pub all_allowed : (kind : Kind) (g : Graph) (vs : Marks) (es : Arcs) → HasEntries g vs es → (ws : List Write) → refusal_of_all kind vs es ws ≡ None → AllAllowed kind g ws
all_allowed kind g vs es has [] none = tt
all_allowed kind g vs es has (w ∷ ws) none =
    let p = no_first (refusal_in vs es w) (refusal_of_all kind (marks_after w vs) (arcs_after kind w es) ws) none in
    (refused_at g vs es has w ∙ p.0, all_allowed kind (apply kind g w) (marks_after w vs) (arcs_after kind w es) (entries_after kind g vs es has w) ws p.1)

-- and the other way round
pub allowed_all : (kind : Kind) (g : Graph) (vs : Marks) (es : Arcs) → HasEntries g vs es → (ws : List Write) → AllAllowed kind g ws → refusal_of_all kind vs es ws ≡ None
allowed_all kind g vs es has [] all = refl
allowed_all kind g vs es has (w ∷ ws) all =
    ap (λ a. first_refusal a (refusal_of_all kind (marks_after w vs) (arcs_after kind w es) ws)) (sym (refused_at g vs es has w) ∙ all.0)
    ∙ allowed_all kind (apply kind g w) (marks_after w vs) (arcs_after kind w es) (entries_after kind g vs es has w) ws all.1
