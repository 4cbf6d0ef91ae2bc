-- What a cell's holder knows of it, and what the words of all blocks say.
use Rattle.std.specs.Prelude.{◌≡◌, ◌⊎◌, ℕ, ◌+◌, ◌-◌, ◌%◌, ◌<◌, ◌==◌, Bool, true, false, cond, List, length, slice_index, slice_set}
use Rattle.leaf_store.specs.VersionSegment.Rows.{VersionedRows}
use Rattle.cells_model.specs.Words.{Spells, block_words}

-- A cell's contents and the words of its block; whether a holder has unpacked it, and has stored
-- a word since. Only an unpacked cell's contents change, and its words follow when it is packed.
pub record CellState : Type 0 where
  pub segment : VersionedRows
  pub block : List ℕ
  pub unpacked : Bool
  pub changed : Bool

-- ---- version words

-- The first word of a block. It is odd while the cell is unpacked, and rises by two where a word
-- was stored meanwhile.
abbrev pub version_word : CellState → ℕ
version_word c = slice_index c.block 0

-- where two more would not fit in a word it stays odd for good
abbrev pub last_word : ℕ
last_word = 18446744073709551615

-- the version word of a cell that is unpacked
abbrev pub raised_word : ℕ → ℕ
raised_word n = cond (n == last_word) last_word (n + 1)

-- and that of one that is packed again, by whether a word was stored
abbrev pub lowered_word : Bool → ℕ → ℕ
lowered_word false n = n - 1
lowered_word true n = cond (n == last_word) last_word (n + 1)

-- ---- steps of a holder

-- it unpacks the cell
abbrev pub unpacked : CellState → CellState
unpacked c = record c {
  block = slice_set c.block 0 (raised_word (version_word c));
  unpacked = true;
  changed = version_word c == last_word;
}

-- it stores a word
abbrev pub stored : CellState → ℕ → ℕ → CellState
stored c i n = record c { block = slice_set c.block i n; changed = true }

-- it packs the cell
abbrev pub packed : CellState → CellState
packed c = record c {
  block = slice_set c.block 0 (lowered_word c.changed (version_word c));
  unpacked = false;
  changed = version_word c == last_word;
}

-- it has other contents in hand, of a cell that it has unpacked
pub record ChangesContents (old new : CellState) : Type 0 where
  pub block : new.block ≡ old.block
  pub unpacked : new.unpacked ≡ old.unpacked
  pub changed : new.changed ≡ old.changed
  pub segment : old.unpacked ≡ false → new.segment ≡ old.segment

-- ---- what the words of all blocks say

-- an unpacked cell's version word is odd, and any other's is even, or stands at the last one for
-- good
abbrev pub IsVersioned : CellState → Bool → Type 0
IsVersioned c true = version_word c % 2 ≡ 1
IsVersioned c false = (version_word c % 2 ≡ 0)
    ⊎ ((version_word c ≡ last_word) × (c.changed ≡ true))

-- of each cell: its words, and what they say of its contents
pub record AreBlocks (count : ℕ) (block : ℕ → ℕ → ℕ) (cell : ℕ → CellState) : Type 0 where
  pub wide : (k : ℕ) → k < count → length (cell k).block ≡ block_words
  -- the words in memory are those that the holder knows
  pub mirror : (k i : ℕ) → k < count → i < block_words → block k i ≡ slice_index (cell k).block i
  -- the block of a cell that isn't unpacked spells its contents
  pub spells : (k : ℕ) → k < count → (cell k).unpacked ≡ false
      → Spells (cell k).block (cell k).segment
  pub versions : (k : ℕ) → k < count → IsVersioned (cell k) (cell k).unpacked

-- of these words one has become that, and no other has changed
pub record StoresBlockWord (old new : ℕ → ℕ → ℕ) (k i n : ℕ) : Type 0 where
  pub here : new k i ≡ n
  pub others : (l j : ℕ) → j < block_words → ((l ≡ k) × (j ≡ i) → ⊥) → new l j ≡ old l j
