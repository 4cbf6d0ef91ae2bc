-- Rows that move from one table to its neighbour.
use Rattle.std.specs.Prelude.{◌≡◌, ◌⊎◌, ℕ, ◌+◌, ◌-◌, ◌<◌, ◌≤◌, List, length, take, drop, slice_get, min, Some}
use Rattle.graph_model.specs.declared.row.Key.{Key}
use Rattle.graph_model.specs.declared.row.Row.{Row}
use Rattle.gap_segment.specs.Fenced.{AreSorted}
use Rattle.head_map.specs.UndoChain.Chains.{ChainMap}
use Rattle.row_table.specs.Rows.{all_records, SharesRows}
use Rattle.head_map.specs.Heads.{PlaceTable, HeadedRows, heads_at, heads_placed, settled_heads, keyed_table}
use Rattle.row_table.specs.Lists.{AreLists, HasRest}
use Rattle.row_table.specs.Parts.{versioned, view_of, AreParts, HandsRow, HandsRows}

-- the rows at these places
abbrev pub rows_from : List Row → ℕ → ℕ → List Row
rows_from rows place until = take (until - place) (drop place rows)

-- the records of the rows at these places can move: each list is a row's own, and there is room for all
pub record CanHand (rows : List Row) (place until : ℕ) (from_heads : PlaceTable) (from : ChainMap)
    (to_heads : PlaceTable) (to : ChainMap) : Type 0 where
  pub sorted : AreSorted rows
  pub order : place ≤ until
  pub within : until ≤ length rows
  pub byte : until ≤ 256
  pub from_lists : AreLists from (heads_at (keyed_table rows from_heads).entries)
  pub to_lists : AreLists to (heads_at (keyed_table rows to_heads).entries)
  pub rest : (q : Key) → HasRest (heads_at (keyed_table rows from_heads).entries q)
  pub room : all_records (versioned from (keyed_table rows from_heads).entries (rows_from rows place until)) ≤ to.spare
  pub entry : all_records (versioned from (keyed_table rows from_heads).entries (rows_from rows place until))
      ≤ to_heads.spare

-- the heads of other places are as they were, and those at these places are gone
pub record LeavesPlaces (place until : ℕ) (from_heads from_heads' to_heads to_heads' : PlaceTable) : Type 0 where
  pub gone : (p : ℕ) → place ≤ p → p < until → heads_placed from_heads'.entries p ≡ settled_heads
  pub from_else : (p : ℕ) → (p < place) ⊎ (until ≤ p)
      → heads_placed from_heads'.entries p ≡ heads_placed from_heads.entries p
  pub to_else : (p : ℕ) → (p < place) ⊎ (until ≤ p)
      → heads_placed to_heads'.entries p ≡ heads_placed to_heads.entries p

-- the records of the row at the place have moved
pub record HandsPlace (rows : List Row) (place : ℕ) (from_heads from_heads' : PlaceTable) (from from' : ChainMap)
    (to_heads to_heads' : PlaceTable) (to to' : ChainMap) : Type 0 where
  pub row : (r : Row) → slice_get rows place ≡ Some r
      → HandsRow r.key (keyed_table rows from_heads) (keyed_table rows from_heads') from from'
      (keyed_table rows to_heads) (keyed_table rows to_heads') to to'
  pub places : LeavesPlaces place (place + 1) from_heads from_heads' to_heads to_heads'

-- the records of the rows at these places have moved
pub record HandsPlaces (rows : List Row) (place until : ℕ) (from_heads from_heads' : PlaceTable) (from from' : ChainMap)
    (to_heads to_heads' : PlaceTable) (to to' : ChainMap) : Type 0 where
  pub rows_handed : HandsRows (rows_from rows place until) (keyed_table rows from_heads) (keyed_table rows from_heads')
      from from' (keyed_table rows to_heads) (keyed_table rows to_heads') to to'
  pub places : LeavesPlaces place until from_heads from_heads' to_heads to_heads'

-- two neighbours have divided their rows anew, with all their versions, so that the left one has the first so many
pub record SharesTables (left left' : HeadedRows) (c c' : ChainMap) (right right' : HeadedRows) (d d' : ChainMap)
    (count : ℕ) : Type 0 where
  pub left_parts : AreParts left'.fenced left'.heads.entries c'
  pub right_parts : AreParts right'.fenced right'.heads.entries d'
  pub rows : SharesRows (view_of left.fenced left.heads c) (view_of right.fenced right.heads d)
      (view_of left'.fenced left'.heads c') (view_of right'.fenced right'.heads d') count

-- the room that so many records leave in one of them, and take in the other
pub record MovesRoom (from from' : HeadedRows) (c c' : ChainMap) (to to' : HeadedRows) (d d' : ChainMap)
    (records : ℕ) : Type 0 where
  pub left : min c.spare from.heads.spare ≤ min c'.spare from'.heads.spare
  pub used : min d.spare to.heads.spare ≤ min d'.spare to'.heads.spare + records
