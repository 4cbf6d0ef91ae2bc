-- Cells of a leaf that were pruned one after the other.
use Rattle.std.specs.Prelude.{◌≡◌, ℕ, ◌+◌, ◌*◌, ◌&&◌, ◌||◌, Bool}
use Rattle.pass_sweeps.specs.declared.leaf.LeafSwept.{LeafSwept}

abbrev pub leaf_of : LeafSwept → ℕ
leaf_of swept = swept.leaf

abbrev pub took_of : LeafSwept → Bool
took_of swept = swept.took

-- no record was left in any of them
abbrev pub settled_of : LeafSwept → Bool
settled_of swept = swept.settled

-- the number of the next one
abbrev pub next_cell : LeafSwept → ℕ
next_cell swept = 8 * swept.leaf + swept.cells

-- one more was pruned
abbrev pub with_cell : LeafSwept → Bool → Bool → LeafSwept
with_cell swept went settled = record swept {
  cells = swept.cells + 1;
  took = went || swept.took;
  settled = settled && swept.settled;
}

-- all cells of this leaf were
pub record IsWhole (leaf : ℕ) (swept : LeafSwept) : Type 0 where
  pub number : swept.leaf ≡ leaf
  pub count : swept.cells ≡ 8
