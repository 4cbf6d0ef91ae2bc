-- Walks, and least walks (LDBC Graphalytics, BFS and SSSP; SSSP with whole weights).
use Rattle.std.specs.Prelude.{◌≡◌, ℕ, zero, suc, ◌+◌, ◌≤◌, ◌⊎◌, List, [], ◌∷◌, length, Some, unwrap_or, IsTrue}
use Rattle.graph_model.specs.declared.limits.TheConstants.{NO_WALK}
use Rattle.graph_model.specs.Graph.{Graph, has_vertex, has_arc, weight_of}

-- A walk is a list of at least one vertex in which each consecutive pair is an arc: here a and then
-- the listed ones, the last of which is b. It has as many arcs as vertices are listed behind a.
abbrev pub IsWalk : Graph → ℕ → List ℕ → ℕ → Type 0
IsWalk g a [] b = IsTrue (has_vertex g a) × (a ≡ b)
IsWalk g a (v ∷ vs) b = IsTrue (has_vertex g a) × IsTrue (has_arc g a v) × IsWalk g v vs b

-- the sum of the weights of its arcs
abbrev pub walk_weight : Graph → ℕ → List ℕ → ℕ
walk_weight g a [] = 0
walk_weight g a (v ∷ vs) = unwrap_or (weight_of g a v) 0 + walk_weight g v vs

-- no walk leads from a to b
abbrev pub IsUnreached : Graph → ℕ → ℕ → Type 0
IsUnreached g a b = (vs : List ℕ) → IsWalk g a vs b → ⊥

-- a walk from a to b has n arcs, and none has fewer
pub record IsLeastLength (g : Graph) (a b n : ℕ) : Type 0 where
  pub attained : (vs : List ℕ) × IsWalk g a vs b × (length vs ≡ n)
  pub least : (vs : List ℕ) → IsWalk g a vs b → n ≤ length vs

-- a walk from a to b has this weight, and none has less
pub record IsLeastWeight (g : Graph) (a b weight : ℕ) : Type 0 where
  pub attained : (vs : List ℕ) × IsWalk g a vs b × (walk_weight g a vs ≡ weight)
  pub least : (vs : List ℕ) → IsWalk g a vs b → weight ≤ walk_weight g a vs

-- what BFS gives a vertex: the least length of a walk from the root, or 9223372036854775807
abbrev pub IsDistance : Graph → ℕ → ℕ → ℕ → Type 0
IsDistance g root v n = IsLeastLength g root v n ⊎ (IsUnreached g root v × (n ≡ NO_WALK))

-- The forms that proofs use: one more arc at the far end, and at most n arcs.

-- a walk of n arcs leads from a to b
abbrev pub Reaches : Graph → ℕ → ℕ → ℕ → Type 0
Reaches g a zero b = IsTrue (has_vertex g a) × (a ≡ b)
Reaches g a (suc n) b = (c : ℕ) × Reaches g a n c × IsTrue (has_arc g c b) × IsTrue (has_vertex g b)

-- a walk of n arcs and of this weight leads from a to b
abbrev pub ReachesBy : Graph → ℕ → ℕ → ℕ → ℕ → Type 0
ReachesBy g a zero b weight = IsTrue (has_vertex g a) × (a ≡ b) × (weight ≡ 0)
ReachesBy g a (suc n) b weight = (c before step : ℕ) × ReachesBy g a n c before
    × (weight_of g c b ≡ Some step) × IsTrue (has_vertex g b) × (weight ≡ before + step)

-- a walk of at most n arcs leads from a to b
abbrev pub ReachesWithin : Graph → ℕ → ℕ → ℕ → Type 0
ReachesWithin g a n b = (m : ℕ) × (m ≤ n) × Reaches g a m b
