-- A tournament of leaves that wait. Only the crate itself speaks of it.
use Rattle.std.specs.Prelude.{◌≡◌, ℕ, ◌+◌, ◌*◌, ◌<◌, ◌≤◌, ◌^◌, List, Option, Some, None, length, drop, get_or, slice_get}
use Rattle.leaf_queue.specs.declared.waiting.Waiting.{Waiting}
use Rattle.leaf_queue.specs.Queue.{first_of}

-- who waits at a node
abbrev pub node_at : List (Option Waiting) → ℕ → Option Waiting
node_at nodes at = get_or nodes at None

-- a node has the first of its two children
abbrev pub IsWon : List (Option Waiting) → ℕ → Type 0
IsWon nodes at = node_at nodes at ≡ first_of (node_at nodes (2 * at)) (node_at nodes (2 * at + 1))

-- The places of the leaves stand behind as many inner nodes, of which the first has no children and is not used, and
-- each other one has the first of its two children.
pub record IsTree (leaves : ℕ) (nodes : List (Option Waiting)) : Type 0 where
  pub some : 1 ≤ leaves
  pub few : leaves < 2 ^ 32
  pub count : length nodes ≡ 2 * leaves
  pub won : (at : ℕ) → 1 ≤ at → at < leaves → IsWon nodes at
  -- who waits at a leaf's place has its number
  pub numbered : (leaf : ℕ) (waiting : Waiting) → slice_get (drop leaves nodes) leaf ≡ Some (Some waiting)
      → waiting.leaf ≡ leaf
