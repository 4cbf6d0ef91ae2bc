-- Walks that may take each arc either way, and the least vertex that they lead to.
use Rattle.std.proofs.Common.{◌≡◌, ℕ, ◌≤◌, List, [], ◌∷◌, ◌++◌, refl, sym, subst, arith}
use Rattle.std.specs.Prelude.{IsTrue}
use Rattle.std.proofs.lemmas.Bool.{or_left, or_right}
use Rattle.graph_model.specs.Graph.{Graph, has_vertex, has_arc, HasBothEnds}
use Rattle.graph_model.specs.Components.{IsTrail, IsComponent}

trail_from : (g : Graph) (a b : ℕ) (vs : List ℕ) → IsTrail g a vs b → IsTrue (has_vertex g a)
trail_from g a b [] t = t.0
trail_from g a b (v ∷ vs) t = t.0

trail_to : (g : Graph) (a b : ℕ) (vs : List ℕ) → IsTrail g a vs b → IsTrue (has_vertex g b)
trail_to g a b [] t = subst (λ v. IsTrue (has_vertex g v)) t.1 t.0
trail_to g a b (v ∷ vs) t = trail_to g v b vs t.2

-- one behind the other
trail_on : (g : Graph) (a b c : ℕ) (vs ws : List ℕ) → IsTrail g a vs b → IsTrail g b ws c → IsTrail g a (vs ++ ws) c
trail_on g a b c [] ws s t = subst (λ v. IsTrail g v ws c) (sym s.1) t
trail_on g a b c (v ∷ vs) ws s t = (s.0, s.1, trail_on g v b c vs ws s.2 t)

-- a vertex's component is not above it
pub component_below : (g : Graph) (v c : ℕ) → IsComponent g v c → c ≤ v
component_below g v c is = is.least v [] (trail_from g v c is.reached.0 is.reached.1, refl)

-- a vertex has one component
pub one_component : (g : Graph) (v c d : ℕ) → IsComponent g v c → IsComponent g v d → c ≡ d
one_component g v c d p q =
    let low : c ≤ d = p.least d q.reached.0 q.reached.1 in
    let high : d ≤ c = q.least c p.reached.0 p.reached.1 in
    omega arith

-- both ends of an arc have one component
pub component_of_arc : (g : Graph) (u v c d : ℕ) → HasBothEnds g → IsTrue (has_arc g u v) → IsComponent g u c → IsComponent g v d → c ≡ d
component_of_arc g u v c d ends arc p q =
    let at = ends u v arc in
    let low : c ≤ d = p.least d (v ∷ q.reached.0) (at.0, or_left (has_arc g u v) (has_arc g v u) arc, q.reached.1) in
    let high : d ≤ c = q.least c (u ∷ p.reached.0) (at.1, or_right (has_arc g v u) (has_arc g u v) arc, p.reached.1) in
    omega arith

-- the least vertex of a component has it too
pub component_of_least : (g : Graph) (v c : ℕ) → IsComponent g v c → IsComponent g c c
component_of_least g v c is = record {
  reached = ([], (trail_to g v c is.reached.0 is.reached.1, refl));
  least = λ b vs t. is.least b (is.reached.0 ++ vs) (trail_on g v c b is.reached.0 vs is.reached.1 t);
}
