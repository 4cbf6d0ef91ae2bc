-- Leaves, and what their calls do to them.
use Rattle.std.specs.Prelude.{◌≡◌, ℕ, ◌+◌, ◌-◌, ◌/◌, ◌≤◌, List, [], ◌∷◌, ◌++◌, length, take, drop, slice_get, IsSomeAnd}
use Rattle.std.specs.List.{AllByRecursion}
use Rattle.graph_model.specs.declared.row.Key.{Key}
use Rattle.version_segment.specs.Rows.{VersionedRows}
use Rattle.density_tree.specs.declared.window.Window.{Window}
use Rattle.density_tree.specs.Division.{evenly}
use Rattle.leaf_array.specs.Segments.{rows_of, counts_of, lows_of, low_or, high_or, AreChained, BeginsAtRow, HaveRoom, IsDivided}

-- eight segments, each of which ends where the next one begins
pub record IsLeaf (ss : List VersionedRows) : Type 0 where
  pub segments : length ss ≡ 8
  pub chained : AreChained ss

-- no rows between these fence keys
pub record IsEmpty (low high : Key) (s : VersionedRows) : Type 0 where
  pub begins : s.low ≡ low
  pub ends : s.high ≡ high
  pub rows : s.rows ≡ []

-- four segments without rows, of which the first has the whole range
abbrev pub AreFourEmpty : Key → Key → List VersionedRows → Type 0
AreFourEmpty low high (a ∷ b ∷ c ∷ d ∷ []) =
    IsEmpty low high a × IsEmpty high high b × IsEmpty high high c × IsEmpty high high d
AreFourEmpty low high ss = ⊥

-- no rows, and the first segment has the whole range
pub record IsEmptyFrom (low high : Key) (ss : List VersionedRows) : Type 0 where
  pub leaf : IsLeaf ss
  pub rows : rows_of ss ≡ []
  pub lows : lows_of ss ≡ low ∷ high ∷ high ∷ high ∷ high ∷ high ∷ high ∷ high ∷ []
  pub ends : high_or ss low ≡ high

-- a window has segments, and all are the leaf's
pub record IsWindow (window : Window) : Type 0 where
  pub some : 1 ≤ window.len
  pub within : window.first + window.len ≤ 8

abbrev pub window_of : Window → List VersionedRows → List VersionedRows
window_of window ss = take window.len (drop window.first ss)

-- The rows of a window are divided evenly among its segments, and nothing else has changed.
pub record SpreadsWindow (window : Window) (old new : List VersionedRows) : Type 0 where
  pub leaf : IsLeaf new
  pub before : take window.first new ≡ take window.first old
  pub within : IsDivided (window_of window old) (window_of window new)
      (evenly (length (rows_of (window_of window old))) window.len)
  pub behind : drop (window.first + window.len) new ≡ drop (window.first + window.len) old

-- ---- two leaves

-- segments without rows are empty at a key now, with their room for records
abbrev pub IsPlaced : Key → List VersionedRows → List VersionedRows → Type 0
IsPlaced at [] [] = Unit {0}
IsPlaced at (s ∷ ss) (t ∷ ts) = (t ≡ record s { low = at; high = at }) × IsPlaced at ss ts
IsPlaced at [] (t ∷ ts) = ⊥
IsPlaced at (s ∷ ss) [] = ⊥

-- room for records that both had is still in both
abbrev pub KeepRoom : (left right left' right' : List VersionedRows) → Type 0
KeepRoom left right left' right' =
    (records : ℕ) → HaveRoom records left → HaveRoom records right → HaveRoom records left' × HaveRoom records right'

-- The right one has the rows of the left one's last four segments, from the key on.
pub record GivesHalf (old left right : List VersionedRows) (key : Key) : Type 0 where
  pub left_leaf : IsLeaf left
  pub right_leaf : IsLeaf right
  pub left_rows : rows_of left ≡ rows_of (take 4 old)
  pub right_rows : rows_of right ≡ rows_of (drop 4 old)
  pub low : (other : Key) → low_or left other ≡ low_or old other
  pub left_high : (other : Key) → high_or left other ≡ key
  pub right_low : (other : Key) → low_or right other ≡ key
  pub high : (other : Key) → high_or right other ≡ high_or old other
  pub begin : (other : Key) → low_or (drop 4 old) other ≡ key

-- the key of the first row that goes to the right leaf where a leaf is split
abbrev pub IsSplitKey : List VersionedRows → Key → Type 0
IsSplitKey ss key =
    IsSomeAnd (slice_get (rows_of ss) (length (rows_of ss) - length (rows_of ss) / 2)) (λ row. key ≡ row.0)

-- The rows of a leaf are divided between two, and each half evenly; the right leaf begins at the key.
pub record Splits (old left right : List VersionedRows) (key : Key) : Type 0 where
  pub left_leaf : IsLeaf left
  pub right_leaf : IsLeaf right
  pub rows : rows_of left ++ rows_of right ≡ rows_of old
  pub left_shares : counts_of left ≡ evenly (length (rows_of old) - length (rows_of old) / 2) 8
  pub right_shares : counts_of right ≡ evenly (length (rows_of old) / 2) 8
  pub low : (other : Key) → low_or left other ≡ low_or old other
  pub left_high : (other : Key) → high_or left other ≡ key
  pub right_low : (other : Key) → low_or right other ≡ key
  pub high : (other : Key) → high_or right other ≡ high_or old other
  pub key_is : IsSplitKey old key
  pub left_begins : AllByRecursion BeginsAtRow (drop 1 left)
  pub right_begins : AllByRecursion BeginsAtRow (drop 1 right)

-- The last four segments have no rows, and all but the first begin with their first row.
pub record IsPacked (ss : List VersionedRows) : Type 0 where
  pub leaf : IsLeaf ss
  pub empty : rows_of (drop 4 ss) ≡ []
  pub begins : AllByRecursion BeginsAtRow (drop 1 ss)

-- The left one of two neighbours has all rows and the whole range now; the right one is empty at the end.
pub record TakesAll (left right left' right' : List VersionedRows) : Type 0 where
  pub left_leaf : IsLeaf left'
  pub right_leaf : IsLeaf right'
  pub rows : rows_of left' ≡ rows_of left ++ rows_of right
  pub low : (other : Key) → low_or left' other ≡ low_or left other
  pub high : (other : Key) → high_or left' other ≡ high_or right other
  pub empty : (other : Key) → AllByRecursion (IsEmpty (high_or right other) (high_or right other)) right'

-- All rows have come to the left one of two neighbours, and they are divided evenly there.
pub record Merges (left right left' right' : List VersionedRows) : Type 0 where
  pub takes : TakesAll left right left' right'
  pub shares : counts_of left' ≡ evenly (length (rows_of left) + length (rows_of right)) 8
  pub begins : AllByRecursion BeginsAtRow (drop 1 left')
