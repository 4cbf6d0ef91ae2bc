-- Weakly connected components (LDBC Graphalytics, WCC).
use Rattle.std.specs.Prelude.{◌≡◌, ℕ, ◌≤◌, Bool, ◌||◌, List, [], ◌∷◌, IsTrue}
use Rattle.graph_model.specs.Graph.{Graph, has_vertex, has_arc}

-- an arc joins the two, one way or the other
abbrev pub are_joined : Graph → ℕ → ℕ → Bool
are_joined g u v = has_arc g u v || has_arc g v u

-- a walk from a over the listed vertices to b that may take each arc either way
abbrev pub IsTrail : Graph → ℕ → List ℕ → ℕ → Type 0
IsTrail g a [] b = IsTrue (has_vertex g a) × (a ≡ b)
IsTrail g a (v ∷ vs) b = IsTrue (has_vertex g a) × IsTrue (are_joined g a v) × IsTrail g v vs b

-- c is the least vertex that such a walk from v leads to
pub record IsComponent (g : Graph) (v c : ℕ) : Type 0 where
  pub reached : (vs : List ℕ) × IsTrail g v vs c
  pub least : (b : ℕ) (vs : List ℕ) → IsTrail g v vs b → c ≤ b
