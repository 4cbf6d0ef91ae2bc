-- Literal rows are the rows of a literal graph, by computation: what a test of a kernel owes.
use Rattle.std.proofs.Common.{◌≡◌, ℕ, ◌≤◌, ⊎_elim, List, [], ◌∷◌, ◌++◌, Bool, true, false, ◌&&◌, cond, map, Some, is_some, refl, sym, ap, ◌∙◌, subst}
use Rattle.std.specs.Prelude.{T, nat_le}
use Rattle.std.specs.List.{filter}
use Rattle.std.specs.declared.cmp.Ordering.{Ordering}
use Rattle.std.specs.declared.cmp.Ordering.TheVariants.{Less, Equal, Greater}
use Rattle.std.specs.Ordering.{nat_cmp, eq_by_cmp, is_eq}
use Rattle.std.specs.Cmp.{IsTotalOrder, nat_cmp_total}
use Rattle.std.specs.FinMap as fin_map
use Rattle.std.specs.FinMap.{nat_cmp-IsAntisymmetric}
use Rattle.std.specs.FinMap.Entries.{find, put, is_sorted, same_entries, is_sorted-put, find-put}
use Rattle.std.proofs.lemmas.Bool.{and_parts, leb-true, cases_Bool}
use Rattle.graph_model.specs.declared.limits.TheConstants.{MAX_ID}
use Rattle.graph_model.specs.declared.row.Row.{Row}
use Rattle.graph_model.specs.Graph.{Graph, has_vertex, arc_cmp}
use Rattle.graph_model.specs.Rows.{key_cmp, first_key, end_key, is_between, vertex_entry, arc_entry, row_of, all_rows, AreRowsOf}
use Rattle.graph_model.proofs.OrderLemmas.{arcs_total, arcs_exact, keys_total, keys_exact}

module _ {K X : Type 0} (R : K → K → Ordering) (total : IsTotalOrder R) (exact : (x y : K) → R x y ≡ Equal → x ≡ y) where
  -- the entries in order
  abbrev pub in_order : List (K × X) → List (K × X)
  in_order [] = []
  in_order (e ∷ es) = put R e.0 e.1 (in_order es)

  -- they are sorted
  order_sorted : (es : List (K × X)) → T (is_sorted R (in_order es))
  order_sorted [] = tt
  order_sorted (e ∷ es) = is_sorted-put R total e.0 e.1 (in_order es) (order_sorted es)

  -- and have the same values
  find-in_order : (q : K) (es : List (K × X)) → find R q (in_order es) ≡ find R q es
  find-in_order q [] = refl
  find-in_order q (e ∷ es) = find-put R total q e.0 e.1 (in_order es) ∙ ap (cond (eq_by_cmp R q e.0) (Some e.1)) (find-in_order q es)

  -- so they are the entries of the map
  pub entries-in_order : (es : List (K × X)) → fin_map.entries (fin_map.from_entries {R = R} es) ≡ in_order es
  entries-in_order es =
      let m = fin_map.from_entries {R = R} es in
      same_entries R total exact (fin_map.entries m) (in_order es) (fin_map.entries_sorted m) (order_sorted es)
      (λ q. sym (fin_map.get-entries m q) ∙ fin_map.get-from_entries total es q ∙ sym (find-in_order q es))

abbrev pub marked : List ℕ → List (ℕ × Unit {0})
marked = map (λ v. (v, tt))

-- the graph of these vertices and arcs
abbrev pub graph_of : List ℕ → List ((ℕ × ℕ) × ℕ) → Graph
graph_of vertices arcs = record { vertices = fin_map.from_entries (marked vertices); arcs = fin_map.from_entries arcs }

abbrev pub vertex_entries : List ℕ → List (ℕ × Unit {0})
vertex_entries vertices = in_order nat_cmp nat_cmp_total nat_cmp-IsAntisymmetric (marked vertices)

abbrev pub arc_entries : List ((ℕ × ℕ) × ℕ) → List ((ℕ × ℕ) × ℕ)
arc_entries arcs = in_order arc_cmp arcs_total arcs_exact arcs

-- its rows, computed
abbrev pub rows_from : List ℕ → List ((ℕ × ℕ) × ℕ) → List Row
rows_from vertices arcs = map row_of (filter (λ e. is_between first_key end_key e.0) (in_order key_cmp keys_total keys_exact (map vertex_entry (map (λ (e : ℕ × Unit {0}). e.0) (vertex_entries vertices)) ++ map arc_entry (arc_entries arcs))))

-- the rows that are computed are all rows of the graph
rows_computed : (vertices : List ℕ) (arcs : List ((ℕ × ℕ) × ℕ)) → rows_from vertices arcs ≡ all_rows (graph_of vertices arcs)
rows_computed vertices arcs =
    let vertices_are = entries-in_order nat_cmp nat_cmp_total nat_cmp-IsAntisymmetric (marked vertices) in
    let arcs_are = entries-in_order arc_cmp arcs_total arcs_exact arcs in
    let all = map vertex_entry (map (λ (e : ℕ × Unit {0}). e.0) (vertex_entries vertices)) ++ map arc_entry (arc_entries arcs) in
    sym (
    (λ i. map row_of (filter (λ e. is_between first_key end_key e.0) (fin_map.entries (fin_map.from_entries {R = key_cmp} (map vertex_entry (map (λ (e : ℕ × Unit {0}). e.0) (vertices_are i)) ++ map arc_entry (arcs_are i))))))
    ∙ ap (λ es. map row_of (filter (λ e. is_between first_key end_key e.0) es)) (entries-in_order key_cmp keys_total keys_exact all))

-- a vertex is listed
abbrev pub lists : List ℕ → ℕ → Bool
lists vertices v = is_some (find nat_cmp v (marked vertices))

-- the vertices of the graph are the listed ones
has-listed : (vertices : List ℕ) (arcs : List ((ℕ × ℕ) × ℕ)) (v : ℕ) → has_vertex (graph_of vertices arcs) v ≡ lists vertices v
has-listed vertices arcs v = ap is_some (fin_map.get-from_entries nat_cmp_total (marked vertices) v)

abbrev pub all_small : List ℕ → Bool
all_small [] = true
all_small (v ∷ vs) = nat_le v MAX_ID && all_small vs

-- the ends of each arc are listed
abbrev pub all_ended : List ℕ → List ((ℕ × ℕ) × ℕ) → Bool
all_ended vertices [] = true
all_ended vertices (e ∷ es) = lists vertices e.0.0 && lists vertices e.0.1 && all_ended vertices es

-- a tie is the ordering Equal
is_tie : (o : Ordering) → is_eq o ≡ true → o ≡ Equal
is_tie Less is = absurd (let t : false ≡ true = is in cc)
is_tie Equal is = refl
is_tie Greater is = absurd (let t : false ≡ true = is in cc)

-- a listed vertex is within the limit
small_listed : (vertices : List ℕ) (v : ℕ) → all_small vertices ≡ true → lists vertices v ≡ true → v ≤ MAX_ID
small_listed [] v small is = absurd (let t : false ≡ true = is in cc)
small_listed (x ∷ xs) v small is =
    let parts = and_parts (nat_le x MAX_ID) (all_small xs) small in
    ⊎_elim
    (λ tie. (let same : v ≡ x = nat_cmp-IsAntisymmetric v x (is_tie (nat_cmp v x) tie) in subst (λ n. n ≤ MAX_ID) (sym same) (leb-true x MAX_ID parts.0)))
    (λ other. small_listed xs v parts.1 (ap (λ b. is_some (cond b (Some tt) (find nat_cmp v (marked xs)))) (sym other) ∙ is))
    (cases_Bool (eq_by_cmp nat_cmp v x))

-- the ends of an arc are listed
ended_listed : (vertices : List ℕ) (arcs : List ((ℕ × ℕ) × ℕ)) (u v : ℕ) → all_ended vertices arcs ≡ true → is_some (find arc_cmp (u, v) arcs) ≡ true → (lists vertices u ≡ true) × (lists vertices v ≡ true)
ended_listed vertices [] u v ended is = absurd (let t : false ≡ true = is in cc)
ended_listed vertices (e ∷ es) u v ended is =
    let parts = and_parts (lists vertices e.0.0 && lists vertices e.0.1) (all_ended vertices es) ended in
    let ends = and_parts (lists vertices e.0.0) (lists vertices e.0.1) parts.0 in
    ⊎_elim
    (λ tie. (let same : ◌≡◌ {A = ℕ × ℕ} (u, v) e.0 = arcs_exact (u, v) e.0 (is_tie (arc_cmp (u, v) e.0) tie) in
    (ap (λ (p : ℕ × ℕ). lists vertices p.0) same ∙ ends.0, ap (λ (p : ℕ × ℕ). lists vertices p.1) same ∙ ends.1)))
    (λ other. ended_listed vertices es u v parts.1 (ap (λ b. is_some (cond b (Some e.1) (find arc_cmp (u, v) es))) (sym other) ∙ is))
    (cases_Bool (eq_by_cmp arc_cmp (u, v) e.0))

-- literal rows and the graph that they are the rows of: give `refl` for both tests
pub literal_rows : (vertices : List ℕ) (arcs : List ((ℕ × ℕ) × ℕ)) → all_small vertices ≡ true → all_ended vertices arcs ≡ true → (g : Graph) × AreRowsOf (rows_from vertices arcs) g
literal_rows vertices arcs small ended = (
  graph_of vertices arcs,
  record {
    listed = rows_computed vertices arcs;
    ends = λ u v arc. (
        let ends = ended_listed vertices arcs u v ended (ap is_some (sym (fin_map.get-from_entries arcs_total arcs (u, v))) ∙ arc) in
        (has-listed vertices arcs u ∙ ends.0, has-listed vertices arcs v ∙ ends.1));
    within = λ v is. small_listed vertices v small (sym (has-listed vertices arcs v) ∙ is);
  },
)

-- the same of rows that are equal to literal ones
pub literal_rows_at : (rows : List Row) (vertices : List ℕ) (arcs : List ((ℕ × ℕ) × ℕ)) → rows ≡ rows_from vertices arcs → all_small vertices ≡ true → all_ended vertices arcs ≡ true → (g : Graph) × AreRowsOf rows g
literal_rows_at rows vertices arcs same small ended = subst (λ rs. (g : Graph) × AreRowsOf rs g) (sym same) (literal_rows vertices arcs small ended)
