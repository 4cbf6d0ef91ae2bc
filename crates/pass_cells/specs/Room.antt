-- Places that are missing in the cells in hand.
use Rattle.std.specs.Prelude.{◌≡◌, ℕ, ◌<◌, ◌≤◌, ◌&&◌, true, false, not, cond, List, Option, Some, None}
use Rattle.graph_model.specs.declared.row.Key.{Key}
use Rattle.row_writes.specs.VersionSegment.Rows.{VersionedRows, has_row}
use Rattle.row_writes.specs.Held.{HeldRows, wanted}
use Rattle.store_rule.specs.CellsModel.Indexed.{covers}
use Rattle.store_rule.specs.StoreRelation.Keys.{has_key}
use Rattle.pass_cells.specs.declared.room.RoomNeed.{RoomNeed}

-- what is short of places: the key, and how many its cell would have to have
abbrev pub key_of : RoomNeed → Key
key_of short = short.key

abbrev pub need_of : RoomNeed → ℕ
need_of short = short.need

-- The key is one of these and has no row, and its cell has fewer places than there are of these keys in it without a
-- row.
pub record IsShort (c : HeldRows) (keys : List Key) (key : Key) (need : ℕ) : Type 0 where
  pub among : has_key keys key ≡ true
  pub held : c.holds key ≡ true
  pub missing : c.has_row key ≡ false
  pub need_is : need ≡ wanted c key keys
  pub short : c.room key < need

-- a missing key finds a place, with those of these keys that share its cell
abbrev pub HasRoomFor : HeldRows → List Key → Key → Type 0
HasRoomFor c keys key = c.has_row key ≡ false → wanted c key keys ≤ c.room key

-- one more, if the cell covers the other key and that has no row
abbrev pub also_missing : VersionedRows → Option Key → ℕ
also_missing c None = 0
also_missing c (Some k) = cond (not (has_row c k) && covers c k) 1 0
