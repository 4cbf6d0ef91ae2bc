-- Reads of a cell without its latch: the version word, some words of the block, and the version
-- word again.
use Rattle.std.specs.Prelude.{◌≡◌, ◌⊎◌, ℕ, ◌+◌, ◌%◌, ◌<◌, ◌≤◌, ◌==◌, Bool, false, cond, List, [], ◌∷◌, slice_index, Option, Some, None}
use Rattle.std.specs.List.{AllByRecursion}
use Rattle.leaf_store.specs.VersionSegment.Rows.{VersionedRows}
use Rattle.cells_model.specs.Words.{Spells}
use Rattle.cells_model.specs.Cells.{CellState, version_word}

-- A read under way: the even version word that was found first, the words of the block that were
-- loaded since, each with its place, and whether the version word was found again.
pub record Reading : Type 0 where
  pub cell : ℕ
  pub first : ℕ
  pub loaded : List (ℕ × ℕ)
  pub valid : Bool

-- ---- the loads of a read

-- the first: an even word begins a read
abbrev pub first_loaded : ℕ → ℕ → Option Reading
first_loaded k n = cond (n % 2 == 0)
    (Some (record { cell = k; first = n; loaded = []; valid = false })) None

-- a word of the block
abbrev pub word_loaded : Reading → ℕ → ℕ → Reading
word_loaded r i n = record r { loaded = (i, n) ∷ r.loaded; valid = false }

-- the version word again
abbrev pub second_loaded : Reading → ℕ → Reading
second_loaded r n = record r { valid = n == r.first }

-- ---- what holds of a read under way

-- no word of the block has been stored since the version word was that one
abbrev pub IsUnchangedSince : ℕ → CellState → Type 0
IsUnchangedSince first c = (version_word c ≡ first)
    ⊎ ((version_word c ≡ first + 1) × (c.changed ≡ false))

-- each word that was loaded is that of the block
abbrev pub AreLoadedFrom : List ℕ → List (ℕ × ℕ) → Type 0
AreLoadedFrom block loaded = AllByRecursion (λ e. slice_index block e.0 ≡ e.1) loaded

pub record IsReading (count : ℕ) (cell : ℕ → CellState) (r : Reading) : Type 0 where
  pub inside : r.cell < count
  pub places : AllByRecursion (λ e. 1 ≤ e.0) r.loaded
  pub even : r.first % 2 ≡ 0
  -- the version word never falls below what a read has found
  pub low : r.first ≤ version_word (cell r.cell)
  pub unchanged : IsUnchangedSince r.first (cell r.cell)
      → AreLoadedFrom (cell r.cell).block r.loaded

-- What was loaded is of one block that spells contents of which this holds. Contents and not the
-- cell's, since these may be others by now.
pub record IsValidated (holds : VersionedRows → Type 0) (r : Reading) : Type 0 where
  pub block : List ℕ
  pub segment : VersionedRows
  pub loaded : AreLoadedFrom block r.loaded
  pub spells : Spells block segment
  pub fact : holds segment
