-- What steps of a holder and loads of a reader keep. Each law is a clause of a function of the
-- crate.
use Rattle.std.specs.Prelude.{◌≡◌, ◌⊎◌, ◌≢◌, ℕ, ◌<◌, ◌≤◌, true, false, List, [], ◌∷◌, slice_get, Some, None}
use Rattle.graph_model.specs.declared.row.Key.{Key}
use Rattle.graph_model.specs.declared.row.Row.{Row}
use Rattle.seat_views.specs.Keeping.{revised}
use Rattle.leaf_store.specs.VersionSegment.Keyed.{IsPlaceBy}
use Rattle.leaf_store.specs.VersionSegment.Rows.{VersionedRows, versions_at, is_empty, nothing}
use Rattle.leaf_store.specs.VersionSegment.Resting.{newest_value, value_in_word, is_marked, word_rows}
use Rattle.cells_model.specs.Words.{Spells, IsRowAt, IsHeadOf, block_words}
use Rattle.cells_model.specs.Cells.{CellState, AreBlocks, ChangesContents, StoresBlockWord, version_word, raised_word, lowered_word, unpacked, stored, packed}
use Rattle.cells_model.specs.Reads.{Reading, IsReading, IsValidated, first_loaded, word_loaded, second_loaded}

-- ---- what the words of a block tell

abbrev pub HeadIsTold : Type 0
HeadIsTold = (block : List ℕ) (s : VersionedRows) → Spells block s → IsHeadOf block s

abbrev pub RowIsTold : Type 0
RowIsTold =
    (block : List ℕ) (s : VersionedRows) → Spells block s
    → (p : ℕ) (row : Row) → slice_get (word_rows s) p ≡ Some row → IsRowAt block p row

abbrev pub row_key : Row → Key
row_key row = row.key

-- what the word of a key's row tells: an unmarked one that the row has no other value, a marked
-- one that it may have
pub record TellsVersions (s : VersionedRows) (key : Key) (word : ℕ) : Type 0 where
  pub settled : is_marked word ≡ false
      → (is_empty (versions_at s key).pairs ≡ true)
      × (value_in_word word ≡ newest_value (versions_at s key))
  pub chained : is_marked word ≡ true
      → (is_empty (versions_at s key).pairs ≡ false) ⊎ (newest_value (versions_at s key) ≡ None)

-- the place of a key among the rows is that of its row, or the key has none
abbrev pub ValueIsTold : Type 0
ValueIsTold =
    (block : List ℕ) (s : VersionedRows) → Spells block s
    → (key : Key) (p : ℕ) → IsPlaceBy row_key (word_rows s) key p
    → (row : Row) → slice_get (word_rows s) p ≡ Some row → row.key ≡ key
    → TellsVersions s key row.weight

abbrev pub NoRowIsTold : Type 0
NoRowIsTold =
    (block : List ℕ) (s : VersionedRows) → Spells block s
    → (key : Key) (p : ℕ) → IsPlaceBy row_key (word_rows s) key p
    → ((row : Row) → slice_get (word_rows s) p ≡ Some row → row.key ≢ key)
    → versions_at s key ≡ nothing

-- ---- steps of a holder

-- the words of all blocks say what they said, and each read under way goes on
pub record KeepsBlocks (count : ℕ) (block : ℕ → ℕ → ℕ) (old new : ℕ → CellState) : Type 0 where
  pub blocks : AreBlocks count block new
  pub reads : (r : Reading) → IsReading count old r → IsReading count new r

abbrev pub UnpacksCell : Type 0
UnpacksCell =
    (count : ℕ) (old new : ℕ → ℕ → ℕ) (cell : ℕ → CellState) → AreBlocks count old cell
    → (k : ℕ) → k < count → (cell k).unpacked ≡ false
    → StoresBlockWord old new k 0 (raised_word (version_word (cell k)))
    → KeepsBlocks count new cell (revised cell ((k, unpacked (cell k)) ∷ []))

abbrev pub StoresWord : Type 0
StoresWord =
    (count : ℕ) (old new : ℕ → ℕ → ℕ) (cell : ℕ → CellState) → AreBlocks count old cell
    → (k i n : ℕ) → k < count → 1 ≤ i → i < block_words → (cell k).unpacked ≡ true
    → StoresBlockWord old new k i n
    → KeepsBlocks count new cell (revised cell ((k, stored (cell k) i n) ∷ []))

abbrev pub PacksCell : Type 0
PacksCell =
    (count : ℕ) (old new : ℕ → ℕ → ℕ) (cell : ℕ → CellState) → AreBlocks count old cell
    → (k : ℕ) → k < count → (cell k).unpacked ≡ true → Spells (cell k).block (cell k).segment
    → StoresBlockWord old new k 0 (lowered_word (cell k).changed (version_word (cell k)))
    → KeepsBlocks count new cell (revised cell ((k, packed (cell k)) ∷ []))

-- what a holder has in hand of unpacked cells changes, and no word does
abbrev pub ChangesCells : Type 0
ChangesCells =
    (count : ℕ) (block : ℕ → ℕ → ℕ) (old new : ℕ → CellState) → AreBlocks count block old
    → ((k : ℕ) → ChangesContents (old k) (new k)) → KeepsBlocks count block old new

-- ---- loads of a read

abbrev pub FirstLoadBegins : Type 0
FirstLoadBegins =
    (count : ℕ) (block : ℕ → ℕ → ℕ) (cell : ℕ → CellState) → AreBlocks count block cell
    → (k : ℕ) (r : Reading) → k < count → first_loaded k (block k 0) ≡ Some r
    → IsReading count cell r

abbrev pub WordLoadGoesOn : Type 0
WordLoadGoesOn =
    (count : ℕ) (block : ℕ → ℕ → ℕ) (cell : ℕ → CellState) → AreBlocks count block cell
    → (r : Reading) (i : ℕ) → IsReading count cell r → 1 ≤ i → i < block_words
    → IsReading count cell (word_loaded r i (block r.cell i))

abbrev pub SecondLoadGoesOn : Type 0
SecondLoadGoesOn =
    (count : ℕ) (cell : ℕ → CellState) (r : Reading) (n : ℕ) → IsReading count cell r
    → IsReading count cell (second_loaded r n)

-- where the version word is found again, what was loaded is of a block that spells the contents
-- of this moment
abbrev pub SecondLoadValidates : Type 0
SecondLoadValidates =
    (count : ℕ) (block : ℕ → ℕ → ℕ) (cell : ℕ → CellState) → AreBlocks count block cell
    → (r : Reading) → IsReading count cell r → block r.cell 0 ≡ r.first
    → IsValidated (λ s. s ≡ (cell r.cell).segment) r
