-- The words of a table that begins with cells, and what is known of these.
use Rattle.std.specs.Prelude.{◌≡◌, ℕ, zero, suc, ◌+◌, ◌-◌, ◌*◌, ◌<◌, ◌≤◌, false, List, [], ◌∷◌, ◌++◌, length, map, slice_set}
use Rattle.std.specs.List.{AllByRecursion}
use Rattle.std.specs.declared.alloc.Global.{Global}
use Rattle.atomic_table.specs.Table.{opening}
use Rattle.graph_model.specs.declared.limits.TheConstants.{MAX_WEIGHT}
use Rattle.graph_model.specs.declared.row.Key.{Key}
use Rattle.graph_model.specs.declared.row.Row.{Row}
use Rattle.graph_model.specs.declared.write.Write.{Write}
use Rattle.graph_model.specs.Graph.{apply_all, empty_graph}
use Rattle.graph_model.specs.Inserted.{inserted}
use Rattle.graph_model.specs.Refused.{AllAllowed, IsWithinLimits}
use Rattle.graph_model.specs.Rows.{value_at}
use Rattle.txn_manager.specs.Config.{too_large}
use Rattle.txn_manager.specs.declared.config.Config.{Config}
use Rattle.rule_model.specs.VersionSegment.Resting.{RestingRow, RestingRows, resting_of, word_rows}
use Rattle.rule_model.specs.VersionSegment.Rows.{VersionedRows}
use Rattle.leaf_index.specs.Index.{Index}
use Rattle.rule_model.specs.LeafStore.Changes.{AreRising, settled_at}
use Rattle.rule_model.specs.StoreRelation.Ends.{only_value}
use Rattle.rule_model.specs.StoreRelation.Words.{commit_word}
use Rattle.rule_model.specs.CellsModel.Cells.{CellState}
use Rattle.rule_model.specs.CellsModel.Words.{spelled}
use Rattle.rule_model.specs.EndSteps.{loaded_known, sight_of, zeros}
use Rattle.rule_model.specs.Places.{lines}
use Rattle.rule_model.specs.Rule.{IsStoreRule}
use Rattle.rule_model.specs.Sight.{Sight}
use Rattle.loaded_cells.specs.Laid.{AreLaid}
use Rattle.loaded_cells.specs.Ranges.{idle_segment, loaded_segments}
use Rattle.loaded_cells.specs.declared.fill.LoadedRange.{LoadedRange}

-- ---- words

-- the words of a block that nobody has unpacked, with these fence keys and rows
abbrev pub first_block : Key → Key → List Row → List ℕ
first_block low high rows = 0 ∷ (spelled low high rows ++ zeros (96 - 3 * length rows))

abbrev pub block_of : VersionedRows → List ℕ
block_of s = first_block s.low s.high (word_rows s)

-- the blocks of these segments, one after the other
abbrev pub blocks_of : List VersionedRows → List ℕ
blocks_of [] = []
blocks_of (s ∷ ss) = block_of s ++ blocks_of ss

-- the words before all blocks: one commit is published, which is of pass 0
abbrev pub loaded_head : ℕ → List ℕ
loaded_head passes = slice_set (slice_set (zeros (16 + 16 * passes)) 8 1) 16 (commit_word 0)

abbrev pub loaded_words : Config → List VersionedRows → List ℕ
loaded_words z ss = loaded_head z.passes ++ blocks_of ss

-- ---- what is known of a cell at first

abbrev pub first_state : VersionedRows → CellState
first_state s = record { segment = s; block = block_of s; unpacked = false; changed = false }

-- the cell with this number
abbrev pub cell_of : List VersionedRows → ℕ → CellState
cell_of [] k = first_state idle_segment
cell_of (s ∷ ss) zero = first_state s
cell_of (s ∷ ss) (suc k) = cell_of ss k

-- what one seat knows then
abbrev pub loaded_sight : Config → List Write → ℕ → Index → List VersionedRows → Sight
loaded_sight z load room index ss = sight_of z (loaded_known load room index (cell_of ss))

-- ---- what rests

abbrev pub rest_rows : VersionedRows → List RestingRow
rest_rows s = (resting_of s).rows

abbrev pub resting_rows : List RestingRows → List (List RestingRow)
resting_rows resting = map (λ (r : RestingRows). r.rows) resting

-- how many rows each of these segments has
abbrev pub row_count : VersionedRows → ℕ
row_count s = length s.rows

abbrev pub row_counts : List VersionedRows → List ℕ
row_counts ss = map row_count ss

-- so much is kept of these segments beside the words
abbrev pub AreRestOf : List VersionedRows → List RestingRows → Type 0
AreRestOf ss resting = resting_rows resting ≡ map rest_rows ss

-- ---- the law

-- the rows of a load, as the empty graph allows its writes
pub record AreRowsOf (z : Config) (load : List Write) (rows : List Row) : Type 0 where
  pub some : 0 < length load
  pub allowed : AllAllowed z.kind empty_graph load
  pub within : AllByRecursion IsWithinLimits load
  pub rising : AreRising rows
  pub small : AllByRecursion (λ r. r.weight ≤ MAX_WEIGHT) rows
  pub settled : (q : Key) → settled_at rows q ≡ only_value (value_at (apply_all z.kind empty_graph load) q)
  pub few : length rows ≤ inserted z.kind load

-- BEGIN: the words of the cells of such leaves, and a seat that knows these cells, keep the rule
abbrev pub LoadBegins : Type 0
LoadBegins =
    (z : Config) (heap : Global) (load : List Write) (rows : List Row) (room : ℕ) (index : Index)
    (ranges : List LoadedRange) → too_large z ≡ false → AreRowsOf z load rows
    → AreLaid z.leaves rows index ranges
    → IsStoreRule z (lines z.passes) heap
    (opening (loaded_words z (loaded_segments ranges)) [] (loaded_sight z load room index (loaded_segments ranges)))
