-- A new table, and what one shows who has all of a store at its end.
use Rattle.std.specs.Prelude.{◌≡◌, ℕ, zero, suc, ◌+◌, ◌*◌, ◌<◌, ◌≤◌, false, List, [], ◌∷◌, ◌++◌, length, slice_index, None}
use Rattle.std.specs.List.{AllByRecursion}
use Rattle.std.specs.declared.alloc.Global.{Global}
use mathlib.Core.Option.{some}
use lib.ListN.{get_elem?}
use Rattle.atomic_table.specs.Table.{State, opening}
use Rattle.graph_model.specs.declared.row.Key.{Key}
use Rattle.graph_model.specs.declared.write.Write.{Write}
use Rattle.graph_model.specs.Graph.{apply_all, empty_graph}
use Rattle.graph_model.specs.Inserted.{inserted}
use Rattle.graph_model.specs.Refused.{AllAllowed, IsWithinLimits}
use Rattle.graph_model.specs.Rows.{value_at}
use Rattle.txn_manager.specs.declared.config.Config.{Config}
use Rattle.store_model.specs.Stamped.{StampedVersions}
use Rattle.store_relation.specs.VersionSegment.Rows.{versions_at}
use Rattle.leaf_index.specs.Calls.{new_index}
use Rattle.leaf_index.specs.Index.{Index}
use Rattle.cells_model.specs.LeafStore.Leaves.{versions_of, weight}
use Rattle.store_relation.specs.declared.stage.Stage.TheVariants.{Idle}
use Rattle.store_relation.specs.Ends.{IsClosed, only_value}
use Rattle.store_relation.specs.Loads.{loaded_journal, loaded_pass, loaded_word}
use Rattle.store_relation.specs.Passes.{PassState, fresh_pass}
use Rattle.store_relation.specs.Shared.{JournalState, no_journal}
use Rattle.cells_model.specs.Cells.{CellState, version_word}
use Rattle.cells_model.specs.InPlace.{segment_of}
use Rattle.cells_model.specs.Indexed.{IsIndexed, new_cell, store_of}
use Rattle.cells_model.specs.Words.{Spells, block_words}
use Rattle.rule_model.specs.NoteSteps.{HasRow}
use Rattle.rule_model.specs.Places.{Layout, KeepsApart, lines}
use Rattle.rule_model.specs.Sight.{Known, Sight, HasJournal, HasPass, cells_of, fresh_pin, no_reads}
use Rattle.rule_model.specs.Rule.{IsStored, IsStoreRule, words_of}

-- ---- a new store

-- so many zeros
abbrev pub zeros : ℕ → List ℕ
zeros zero = []
zeros (suc n) = 0 ∷ zeros n

-- the words of a cell without rows: version, number of rows, fence keys, and places for rows
abbrev pub new_block : ℕ → List ℕ
new_block k = 0 ∷ 0 ∷ (new_cell k).low.src ∷ (new_cell k).low.second ∷ (new_cell k).high.src
    ∷ (new_cell k).high.second ∷ zeros 96

abbrev pub new_state : ℕ → CellState
new_state k = record {
  segment = new_cell k;
  block = new_block k;
  unpacked = false;
  changed = false;
}

abbrev pub new_known : Config → Known
new_known z = record {
  pass = λ _. fresh_pass;
  pin = λ _. fresh_pin;
  cell = new_state;
  index = λ _. record { index = new_index z.leaves; sweeper = None };
  journal = λ _. no_journal;
}

-- what is known of the first so many numbers
abbrev pub numbered : {A : Type 0} → (ℕ → A) → ℕ → List (ℕ × A)
numbered f zero = []
numbered f (suc n) = (n, f n) ∷ numbered f n

-- the one view of a table that begins with this keeps everything
abbrev pub sight_of : Config → Known → Sight
sight_of z k = record {
  passes = numbered k.pass z.passes;
  pins = numbered k.pin z.passes;
  cells = numbered k.cell (cells_of z);
  indexes = numbered k.index 1;
  journals = numbered k.journal 1;
  told = [];
  readers = [];
  reads = no_reads;
}

-- that of a new table
abbrev pub first_sight : Config → Sight
first_sight z = sight_of z (new_known z)

-- the clock and all words of passes are 0, and blocks are those of cells without rows; pins may
-- be anything
pub record AreNewWords (z : Config) (at : Layout) (words : List ℕ) : Type 0 where
  pub apart : KeepsApart at z.passes (cells_of z) (length words)
  pub clock : slice_index words at.clock ≡ 0
  pub passes : (p : ℕ) → p < z.passes → slice_index words (at.pass p) ≡ 0
  pub blocks : (k i : ℕ) → k < cells_of z → i < block_words
      → slice_index words (at.cell k + i) ≡ slice_index (new_block k) i

-- the blocks of so many cells
abbrev pub new_blocks : ℕ → ℕ → List ℕ
new_blocks k zero = []
new_blocks k (suc n) = new_block k ++ new_blocks (k + 1) n

-- words in lines that are such
abbrev pub new_words : Config → List ℕ
new_words z = zeros (16 + 16 * z.passes) ++ new_blocks 0 (cells_of z)

abbrev pub LinesAreNew : Type 0
LinesAreNew = (z : Config) → AreNewWords z (lines z.passes) (new_words z)

-- NEW
abbrev pub NewTable : Type 0
NewTable =
    (z : Config) (at : Layout) (heap : Global) (words : List ℕ) → 1 ≤ z.leaves
    → AreNewWords z at words → IsStoreRule z at heap (opening words [] (first_sight z))

-- ---- a store that begins with rows

-- BEGIN: words and contents that are stored so, with no reader out
abbrev pub TableBegins : Type 0
TableBegins =
    (z : Config) (at : Layout) (heap : Global) (words : List ℕ) (k : Known)
    → KeepsApart at z.passes (cells_of z) (length words) → IsStored z heap (words_of z at words) k
    → ((p : ℕ) → (k.pass p).readers_out ≡ 0)
    → IsStoreRule z at heap (opening words [] (sight_of z k))

-- as if pass 0 had begun on a new store, made the writes of a load and committed them, and all rows
-- had been pruned then
abbrev pub loaded_known : List Write → ℕ → Index → (ℕ → CellState) → Known
loaded_known load room index cell = record {
  pass = loaded_pass load;
  pin = λ _. fresh_pin;
  cell = cell;
  index = λ _. record { index = index; sweeper = None };
  journal = λ _. loaded_journal load room;
}

-- the words of such a store: one commit is published, the word of pass 0 says so, and the blocks are
-- those of the cells
pub record AreLoadedWords (z : Config) (at : Layout) (cell : ℕ → CellState) (words : List ℕ)
    : Type 0 where
  pub apart : KeepsApart at z.passes (cells_of z) (length words)
  pub clock : slice_index words at.clock ≡ 1
  pub passes : (p : ℕ) → p < z.passes → slice_index words (at.pass p) ≡ loaded_word p
  pub blocks : (k i : ℕ) → k < cells_of z → i < block_words
      → slice_index words (at.cell k + i) ≡ slice_index (cell k).block i

-- the block of a packed cell that nobody has unpacked spells its contents
pub record IsFirstState (c : CellState) : Type 0 where
  pub version : version_word c ≡ 0
  pub packed : c.unpacked ≡ false
  pub spells : Spells c.block c.segment

-- LOAD: the cells under the index have the rows of a load that the empty graph allows, each its value
-- alone, and are no fuller than these writes make them
pub record IsLoaded (z : Config) (heap : Global) (load : List Write) (index : Index)
    (cell : ℕ → CellState) : Type 0 where
  pub some : 0 < length load
  pub allowed : AllAllowed z.kind empty_graph load
  pub within : AllByRecursion IsWithinLimits load
  pub indexed : IsIndexed heap index (segment_of cell)
  pub leaves : index.leaves ≡ z.leaves
  pub settled : (q : Key) → versions_of (store_of heap index (segment_of cell)) q
      ≡ only_value (value_at (apply_all z.kind empty_graph load) q)
  pub weighed : weight (store_of heap index (segment_of cell)) ≤ inserted z.kind load
  pub first : (k : ℕ) → k < cells_of z → IsFirstState (cell k)

abbrev pub LoadedTable : Type 0
LoadedTable =
    (z : Config) (at : Layout) (heap : Global) (words : List ℕ) (load : List Write) (room : ℕ)
    (index : Index) (cell : ℕ → CellState) → 1 ≤ z.passes → 1 ≤ z.txns_per_pass
    → AreLoadedWords z at cell words → IsLoaded z heap load index cell
    → IsStoreRule z at heap (opening words [] (sight_of z (loaded_known load room index cell)))

-- ---- the end

-- the view has the journal and all passes, and each has ended its last transaction and stamped
-- its rows
pub record HasAll (z : Config) (v : Sight) (j : JournalState) : Type 0 where
  pub journal : HasJournal v j
  pub passes : (p : ℕ) → p < z.passes
      → (st : PassState) × HasPass v p st × (st.stage ≡ Idle) × (st.unstamped ≡ [])

-- the passes of the view and the rows of its cells are those of a closed store
pub record IsLast (z : Config) (v : Sight) (j : JournalState) : Type 0 where
  pub pass : ℕ → PassState
  pub passes : (p : ℕ) → p < z.passes → HasPass v p (pass p)
  pub rows : Key → StampedVersions
  pub closed : IsClosed z pass j.commits rows
  pub shown : (k : ℕ) (c : CellState) (q : Key) → HasRow z v k c q
      → versions_at c.segment q ≡ rows q

-- CLOSE
abbrev pub TableCloses : Type 0
TableCloses =
    (z : Config) (at : Layout) (heap : Global) (s : State (Unit {0}) Sight)
    → IsStoreRule z at heap s
    → (id : ℕ) (v : Sight) → get_elem? s.views id ≡ some v → (j : JournalState) → HasAll z v j
    → IsLast z v j
