-- What a graph has at the keys of its vertices and arcs.
use Rattle.std.proofs.Common.{◌≡◌, ℕ, ◌+◌, ◌-◌, arith, refl, ◌∙◌, ap, cond}
use Rattle.std.specs.Prelude.{Bool, true, false, ◌==◌, Some, None, is_some}
use Rattle.std.proofs.lemmas.Bool.Decides.{nat_tests}
use Rattle.graph_model.specs.Graph.{Graph, has_vertex, weight_of}
use Rattle.graph_model.specs.Rows.{vertex_key, arc_key, value_at}

not_zero : (v : ℕ) → (v + 1 == 0) ≡ false
not_zero v = grind (arith, nat_tests)

-- an arc's row has its weight
pub weight_is_value : (g : Graph) (u v : ℕ) → value_at g (arc_key u v) ≡ weight_of g u v
weight_is_value g u v =
    let back : v + 1 - 1 ≡ v = omega arith in
    ap (λ t. cond t (cond (has_vertex g u) (Some 0) None) (weight_of g u (v + 1 - 1))) (not_zero v) ∙ ap (weight_of g u) back

-- a vertex's row has a value exactly where the graph has the vertex
pub seen_is_vertex : (g : Graph) (v : ℕ) → is_some (value_at g (vertex_key v)) ≡ has_vertex g v
seen_is_vertex g v = there (has_vertex g v)
  where
    there : (t : Bool) → is_some {T = ℕ} (cond t (Some 0) None) ≡ t
    there true = refl
    there false = refl
