-- The words of a cell's block: its version word, the number of its rows, its fence keys, and
-- three words a row.
use Rattle.std.specs.Prelude.{◌≡◌, ℕ, ◌+◌, ◌*◌, ◌≤◌, List, [], ◌∷◌, length, slice_index, slice_get, Option, Some, IfSome}
use Rattle.std.specs.List.{AllByRecursion}
use Rattle.graph_model.specs.declared.row.Key.{Key}
use Rattle.graph_model.specs.declared.row.Row.{Row}
use Rattle.graph_model.specs.declared.limits.TheConstants.{MAX_WEIGHT}
use Rattle.store_model.specs.Stamped.{StampedVersions}
use Rattle.leaf_store.specs.VersionSegment.Resting.{word_rows}
use Rattle.leaf_store.specs.VersionSegment.Rows.{VersionedRows, IsSegment}

-- ---- the words of a block

-- the words of rows, one row after the other
abbrev pub flat : List Row → List ℕ
flat [] = []
flat (row ∷ rows) = row.key.src ∷ row.key.second ∷ row.weight ∷ flat rows

-- what stands in a block from its second word on
abbrev pub spelled : Key → Key → List Row → List ℕ
spelled low high rows = length rows ∷ low.src ∷ low.second ∷ high.src ∷ high.second ∷ flat rows

-- a version word, five words, and three for each of 32 rows
abbrev pub block_words : ℕ
block_words = 102

-- a value that is a weight may be stored
abbrev pub IsSmall : Option ℕ → Type 0
IsSmall value = IfSome value (λ weight. weight ≤ MAX_WEIGHT)

-- each value that a row has had, which an undo may bring back
abbrev pub HasSmallValues : StampedVersions → Type 0
HasSmallValues vs = AllByRecursion (λ p. IsSmall p.value) vs.pairs × IsSmall vs.oldest

-- so is the newest value of each row, and its word tells it
abbrev pub HasSmallWeights : VersionedRows → Type 0
HasSmallWeights s = AllByRecursion (λ row. HasSmallValues row.1) s.rows

-- the block spells these contents; what stands after its last row is not read
pub record Spells (block : List ℕ) (s : VersionedRows) : Type 0 where
  pub wide : length block ≡ block_words
  pub words : (i n : ℕ) → slice_get (spelled s.low s.high (word_rows s)) i ≡ Some n
      → slice_index block (i + 1) ≡ n
  pub sound : IsSegment s
  pub small : HasSmallWeights s

-- ---- what words tell

-- the three words of the row at this place are those of the row
pub record IsRowAt (block : List ℕ) (place : ℕ) (row : Row) : Type 0 where
  pub src : slice_index block (6 + 3 * place) ≡ row.key.src
  pub second : slice_index block (7 + 3 * place) ≡ row.key.second
  pub value : slice_index block (8 + 3 * place) ≡ row.weight

-- the first words of the block tell the number of rows and the fence keys
pub record IsHeadOf (block : List ℕ) (s : VersionedRows) : Type 0 where
  pub count : slice_index block 1 ≡ length s.rows
  pub low_src : slice_index block 2 ≡ s.low.src
  pub low_second : slice_index block 3 ≡ s.low.second
  pub high_src : slice_index block 4 ≡ s.high.src
  pub high_second : slice_index block 5 ≡ s.high.second
