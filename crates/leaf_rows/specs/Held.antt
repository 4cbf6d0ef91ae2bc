-- An owner of a store holds all of its cells.
use Rattle.std.specs.Prelude.{◌≡◌}
use Rattle.graph_model.specs.Rows.{is_below, end_key}
use Rattle.leaf_store.specs.Leaves.{Leaves, versions_of, has_row, shares, room_at, spare_at, weight}
use Rattle.row_writes.specs.Held.{HeldRows}

-- the rows of the store, as those of the cells that a writer holds
abbrev pub rows_in : Leaves → HeldRows
rows_in s = record {
  holds = λ k. is_below k end_key;
  versions = versions_of s;
  has_row = has_row s;
  shares = shares s;
  room = room_at s;
  spare = spare_at s;
  weight = weight s;
}

-- no leaf is more or less, and none is retired or freed
pub record KeepsLeaves (old new : Leaves) : Type 0 where
  pub limit : new.limit ≡ old.limit
  pub retired : new.retired ≡ old.retired
