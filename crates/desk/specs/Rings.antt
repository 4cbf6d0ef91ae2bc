-- Rings of money.
use Rattle.std.specs.Prelude.{◌≡◌, ℕ, ◌+◌, List, length, slice_get, Some, IsTrue}
use Rattle.graph_model.specs.Account.{Account}
use Rattle.graph_model.specs.Graph.{Graph, has_arc}
use Rattle.graph_model.specs.History.{graph_at}
use Rattle.graph_image.specs.declared.edge.Arc.{Arc}

-- Each account was paid by the next one, and the last one by the first.
pub record IsRing (g : Graph) (accounts : List ℕ) : Type 0 where
  pub paid : (i a b : ℕ) → slice_get accounts i ≡ Some a → slice_get accounts (i + 1) ≡ Some b
      → IsTrue (has_arc g b a)
  pub closed : (i a b : ℕ) → i + 1 ≡ length accounts → slice_get accounts 0 ≡ Some a → slice_get accounts i ≡ Some b
      → IsTrue (has_arc g a b)

-- one of the arcs has its other end at this place
pub record IsEndOf (arcs : List Arc) (place : ℕ) : Type 0 where
  pub at : ℕ
  pub arc : Arc
  pub there : slice_get arcs at ≡ Some arc
  pub is : arc.other ≡ place

-- the graph after so many commits of the journal that a session has seen
abbrev pub graph_after : Account → ℕ → Graph
graph_after account commits = graph_at account.kind account.seen commits
