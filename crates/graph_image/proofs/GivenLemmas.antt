-- The rows of a graph may be pushed, and make an image: what callers of a builder owe.
use Rattle.std.proofs.Common.{◌≡◌, ℕ, zero, suc, ◌+◌, ◌-◌, ◌<◌, ◌≤◌, ◌^◌, ⊎_elim, List, [], ◌∷◌, Bool, true, cond, ◌&&◌, length, slice_get, Option, Some, None, is_some, refl, sym, ap, ◌∙◌, subst, arith}
use Rattle.std.specs.Prelude.{nat_le}
use Rattle.std.proofs.lemmas.Bool.{cases_eq, ne_eqb, leb-true, and_parts}
use Rattle.std.proofs.lemmas.Option.{same_Some, none-some}
use Rattle.graph_model.specs.declared.limits.TheConstants.{MAX_WEIGHT}
use Rattle.graph_model.specs.declared.row.Key.{Key}
use Rattle.graph_model.specs.declared.row.Row.{Row}
use Rattle.graph_model.specs.Graph.{Graph, has_vertex, weight_of, IsBounded, IsSymmetric}
use Rattle.graph_model.specs.Rows.{AreRowsOf, value_at, vertex_key, arc_key}
use Rattle.graph_model.proofs.RowLemmas.{has_source, rows_rise, row_is, row_at}
use Rattle.graph_image.specs.Building.{AreStorable, HasVertexRow, AreEnded}
use Rattle.graph_image.proofs.LiteralGraphs.{rows_from, all_small, all_ended, literal_rows_at}

-- the rows of a graph are storable where their weights are within the limit and there are few
pub rows_storable : (rows : List Row) (g : Graph) → AreRowsOf rows g → ((i : ℕ) (r : Row) → slice_get rows i ≡ Some r → r.weight ≤ MAX_WEIGHT) → length rows < 2 ^ 32 → AreStorable rows
rows_storable rows g are light few = record { rise = λ i j a b less at_i at_j. rows_rise are i j a b less at_i at_j; weights = light; count = few }

-- the entry of an arc's key is the weight of the arc
arc_entry_is : (g : Graph) (key : Key) → 0 < key.second → value_at g key ≡ weight_of g key.src (key.second - 1)
arc_entry_is g key arc = (λ i. cond (ne_eqb key.second 0 (λ same. absurd (omega arith)) i) (cond (has_vertex g key.src) (Some 0) None) (weight_of g key.src (key.second - 1)))

-- in a bounded graph they are
pub rows_light : (rows : List Row) (g : Graph) → AreRowsOf rows g → IsBounded g → (i : ℕ) (r : Row) → slice_get rows i ≡ Some r → r.weight ≤ MAX_WEIGHT
rows_light rows g are bounded i r at = ⊎_elim
    (λ vertex.
    let value : value_at g (vertex_key r.key.src) ≡ Some 0 = ap (λ b. cond b (Some 0) None) (has_source g r.key r.weight are.ends (row_is are i r at)) in
    let key : r.key ≡ vertex_key r.key.src = (λ j. record { src = r.key.src; second = vertex j }) in
    let zero_is : r.weight ≡ 0 = same_Some r.weight 0 (sym (row_is are i r at) ∙ ap (value_at g) key ∙ value) in
    omega arith)
    (λ other. bounded.weights r.key.src (r.key.second - 1) r.weight (sym (arc_entry_is g r.key (omega arith)) ∙ row_is are i r at))
    (cases_eq r.key.second 0)

-- a vertex has a row of its own
vertex_row : (rows : List Row) (g : Graph) → AreRowsOf rows g → (v : ℕ) → has_vertex g v ≡ true → HasVertexRow rows v
vertex_row rows g are v is =
    let row = row_at are (vertex_key v) 0 (ap (λ b. cond b (Some 0) None) is) in
    record { at = row.0; row = record { key = vertex_key v; weight = 0 }; is = row.1; key = refl }

-- the ends of each arc are vertices
pub rows_ended : (rows : List Row) (g : Graph) → AreRowsOf rows g → AreEnded rows
rows_ended rows g are = record {
  sources = λ i r at. vertex_row rows g are r.key.src (has_source g r.key r.weight are.ends (row_is are i r at));
  targets = λ i r at arc.
      let weight : weight_of g r.key.src (r.key.second - 1) ≡ Some r.weight = sym (arc_entry_is g r.key arc) ∙ row_is are i r at in
      vertex_row rows g are (r.key.second - 1) (are.ends r.key.src (r.key.second - 1) (ap is_some weight)).1;
}

-- ---- graphs with the same rows

-- an arc of the one is an arc of the other, with the same weight
weights_carried : (rows : List Row) (g h : Graph) → AreRowsOf rows g → AreRowsOf rows h → (u v w : ℕ) → weight_of g u v ≡ Some w → weight_of h u v ≡ Some w
weights_carried rows g h of_g of_h u v w is =
    let key : Key = arc_key u v in
    let behind : v + 1 - 1 ≡ v = omega arith in
    let arc : 0 < key.second = omega arith in
    let here : value_at g key ≡ Some w = arc_entry_is g key arc ∙ ap (weight_of g u) behind ∙ is in
    let row = row_at of_g key w here in
    sym (ap (weight_of h u) behind) ∙ sym (arc_entry_is h key arc) ∙ row_is of_h row.0 (record { key = key; weight = w }) row.1

same_if_carried : (x y : Option ℕ) → ((w : ℕ) → x ≡ Some w → y ≡ Some w) → ((w : ℕ) → y ≡ Some w → x ≡ Some w) → x ≡ y
same_if_carried (Some w) y to from = sym (to w refl)
same_if_carried None (Some w) to from = from w refl
same_if_carried None None to from = refl

same_weights : (rows : List Row) (g h : Graph) → AreRowsOf rows g → AreRowsOf rows h → (u v : ℕ) → weight_of g u v ≡ weight_of h u v
same_weights rows g h of_g of_h u v = same_if_carried (weight_of g u v) (weight_of h u v) (weights_carried rows g h of_g of_h u v) (weights_carried rows h g of_h of_g u v)

-- both are symmetric, or neither is
pub symmetric_too : (rows : List Row) (g h : Graph) → AreRowsOf rows g → AreRowsOf rows h → IsSymmetric g → IsSymmetric h
symmetric_too rows g h of_g of_h symmetric u v = same_weights rows h g of_h of_g u v ∙ symmetric u v ∙ same_weights rows g h of_g of_h v u

-- ---- literal rows

abbrev pub all_light : List Row → Bool
all_light [] = true
all_light (r ∷ rows) = nat_le r.weight MAX_WEIGHT && all_light rows

light_rows : (rows : List Row) → all_light rows ≡ true → (i : ℕ) (r : Row) → slice_get rows i ≡ Some r → r.weight ≤ MAX_WEIGHT
light_rows [] light i r at = absurd (none-some r at)
light_rows (s ∷ rows) light zero r at = subst (λ (x : Row). x.weight ≤ MAX_WEIGHT) (same_Some s r at) (leb-true s.weight MAX_WEIGHT (and_parts (nat_le s.weight MAX_WEIGHT) (all_light rows) light).0)
light_rows (s ∷ rows) light (suc i) r at = light_rows rows (and_parts (nat_le s.weight MAX_WEIGHT) (all_light rows) light).1 i r at

-- literal rows may be pushed, and make an image: give `refl` for the tests
pub literal_fits : (rows : List Row) (vertices : List ℕ) (arcs : List ((ℕ × ℕ) × ℕ)) → rows ≡ rows_from vertices arcs → all_small vertices ≡ true → all_ended vertices arcs ≡ true → all_light (rows_from vertices arcs) ≡ true
    → nat_le (suc (length (rows_from vertices arcs))) (2 ^ 32) ≡ true → AreStorable rows × AreEnded rows
literal_fits rows vertices arcs same small ended light few =
    let graph = literal_rows_at rows vertices arcs same small ended in
    let lights : all_light rows ≡ true = ap all_light same ∙ light in
    let count : length rows < 2 ^ 32 = subst (λ rs. length rs < 2 ^ 32) (sym same) (leb-true (suc (length (rows_from vertices arcs))) (2 ^ 32) few) in
    (rows_storable rows graph.0 graph.1 (light_rows rows lights) count, rows_ended rows graph.0 graph.1)
