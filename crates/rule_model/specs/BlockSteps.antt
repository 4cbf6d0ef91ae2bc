-- Steps on the words of a cell's block: by the pass that holds the cell, and by a read without
-- its latch.
use Rattle.std.specs.Prelude.{◌≡◌, ℕ, ◌<◌, ◌≤◌, true, false, List, [], ◌∷◌, slice_index, Some}
use Rattle.std.specs.declared.alloc.Global.{Global}
use Rattle.atomic_table.specs.Table.{Me}
use Rattle.graph_model.specs.declared.journal.Commit.{Commit}
use Rattle.graph_model.specs.declared.journal.TxnName.{TxnName}
use Rattle.graph_model.specs.declared.row.Key.{Key}
use Rattle.graph_model.specs.declared.write.Write.{Write}
use Rattle.graph_model.specs.Transactions.{stamp_in}
use Rattle.txn_manager.specs.declared.config.Config.{Config}
use Rattle.store_relation.specs.VersionSegment.Rows.{VersionedRows, versions_at}
use Rattle.store_relation.specs.declared.stage.Stage.TheVariants.{Open}
use Rattle.store_relation.specs.Passes.{PassState, name_at}
use Rattle.store_relation.specs.ReadLaws.{SeesValue}
use Rattle.store_relation.specs.Readers.{ReaderState}
use Rattle.cells_model.specs.Cells.{CellState, lowered_word, packed, raised_word, stored, unpacked, version_word}
use Rattle.cells_model.specs.Indexed.{covers}
use Rattle.cells_model.specs.Reads.{Reading, IsValidated, first_loaded, second_loaded, word_loaded}
use Rattle.cells_model.specs.Words.{Spells, block_words}
use Rattle.rule_model.specs.Places.{Layout, block_place}
use Rattle.rule_model.specs.Sight.{Sight, HasCell, HasPass, cells_of, with_cell, with_found, with_reading}
use Rattle.rule_model.specs.Steps.{AllowsLoad, AllowsStore, AllowsStoreTelling, Nothing}

-- in contents a snapshot sees its view, by what was seen
abbrev pub GiveView : Config → List Commit → ℕ → List Write → TxnName → VersionedRows → Type 0
GiveView z seen start own by rows =
    (q : Key) → covers rows q ≡ true → SeesValue z seen start own by (stamp_in seen) q
    (versions_at rows q)

module _ (z : Config) (at : Layout) (heap : Global) (slots id : ℕ)
    (me : Me (Unit {0}) Sight) where
  -- ---- by the holder

  -- LOAD: the word that is found is the one that the holder knows
  abbrev pub HolderLoads : Type 0
  HolderLoads = (k i : ℕ) (c : CellState) → HasCell me.0 k c → k < cells_of z → i < block_words
      → AllowsLoad z at heap slots id me (block_place at k i) (λ _. me.0)
      (λ n. n ≡ slice_index c.block i)

  -- UNPACK: the version word becomes odd; and the block spells the contents
  abbrev pub CellIsUnpacked : Type 0
  CellIsUnpacked = (k : ℕ) (c : CellState) → HasCell me.0 k c → k < cells_of z
      → c.unpacked ≡ false
      → AllowsStoreTelling z at heap slots id me (block_place at k 0)
      (raised_word (version_word c))
      (with_cell me.0 k (unpacked c)) (Spells c.block c.segment)

  -- WORD: of an unpacked cell any word but the version word is stored
  abbrev pub WordIsStored : Type 0
  WordIsStored = (k i n : ℕ) (c : CellState) → HasCell me.0 k c → k < cells_of z
      → 1 ≤ i → i < block_words → c.unpacked ≡ true
      → AllowsStore z at heap slots id me (block_place at k i) n (with_cell me.0 k (stored c i n))

  -- PACK: the version word is even again, where the block spells the contents
  abbrev pub CellIsPacked : Type 0
  CellIsPacked = (k : ℕ) (c : CellState) → HasCell me.0 k c → k < cells_of z → c.unpacked ≡ true
      → Spells c.block c.segment
      → AllowsStore z at heap slots id me (block_place at k 0)
      (lowered_word c.changed (version_word c))
      (with_cell me.0 k (packed c))

  -- ---- by a read

  -- FIRST: the version word begins a read, if it is even
  abbrev pub ReadBegins : Type 0
  ReadBegins = (k : ℕ) → k < cells_of z
      → AllowsLoad z at heap slots id me (block_place at k 0)
      (λ n. with_found me.0 (first_loaded k n) k n) Nothing

  -- WORD: a word of the block
  abbrev pub WordIsRead : Type 0
  WordIsRead = (q : Reading) (i : ℕ) → me.0.reads.reading ≡ Some q → 1 ≤ i → i < block_words
      → AllowsLoad z at heap slots id me (block_place at q.cell i)
      (λ n. with_reading me.0 (Some (word_loaded q i n))) Nothing

  -- SECOND: where the version word is found again, what was loaded is of contents that give the
  -- view
  abbrev pub ReadEnds : Type 0
  ReadEnds = (p : ℕ) (st : PassState) (q : Reading) → HasPass me.0 p st → st.stage ≡ Open
      → me.0.reads.reading ≡ Some q
      → AllowsLoad z at heap slots id me (block_place at q.cell 0)
      (λ n. with_found me.0 (Some (second_loaded q n)) q.cell n)
      (λ n. n ≡ q.first → IsValidated (GiveView z st.seen st.start st.own (name_at p st)) q)

  -- SECOND, of a reader
  abbrev pub ReaderReadEnds : Type 0
  ReaderReadEnds = (x : ReaderState) (q : Reading) → me.0.readers ≡ x ∷ []
      → me.0.reads.reading ≡ Some q
      → AllowsLoad z at heap slots id me (block_place at q.cell 0)
      (λ n. with_found me.0 (Some (second_loaded q n)) q.cell n)
      (λ n. n ≡ q.first → IsValidated (GiveView z x.seen x.start x.own x.by) q)
