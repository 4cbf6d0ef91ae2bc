-- Cells in hand whose rows are pruned.
use Rattle.std.specs.Prelude.{◌≡◌, ℕ, true, List, [], ◌∷◌, Option}
use Rattle.graph_model.specs.declared.journal.TxnName.{TxnName}
use Rattle.graph_model.specs.declared.row.Key.{Key}
use Rattle.store_model.specs.Stamped.{prune_stamped}
use Rattle.pass_cells.specs.VersionSegment.Rows.{IsSegment, PrunesRows}
use Rattle.pass_cells.specs.StoreRuleDeclared.store.Pass.{Pass}
use Rattle.pass_cells.specs.declared.taken.TakenCell.{TakenCell}
use Rattle.pass_cells.specs.Taken.{held_rows}

-- a cell is pruned, and its value and its words are said to be changed
pub record IsPrunedCell (stamps : TxnName → Option ℕ) (horizon : ℕ) (old new : TakenCell) : Type 0 where
  pub cell : new.held.cell ≡ old.held.cell
  pub rows : new.rows ≡ old.rows
  pub marked : new.held.changed ≡ true
  pub changed : new.words_changed ≡ true
  pub pruned : PrunesRows stamps horizon old.held.value new.held.value
  pub sound : IsSegment new.held.value

abbrev pub ArePruned : (TxnName → Option ℕ) → ℕ → List TakenCell → List TakenCell → Type 0
ArePruned stamps horizon [] [] = Unit {0}
ArePruned stamps horizon (t ∷ ts) (u ∷ us) = IsPrunedCell stamps horizon t u × ArePruned stamps horizon ts us
ArePruned stamps horizon [] (u ∷ us) = ⊥
ArePruned stamps horizon (t ∷ ts) [] = ⊥

-- each row in hand is what a prune makes of it
abbrev pub PrunesVersions : (TxnName → Option ℕ) → ℕ → List TakenCell → List TakenCell → Type 0
PrunesVersions stamps horizon ts us =
    (q : Key) → (held_rows us).versions q ≡ prune_stamped stamps horizon ((held_rows ts).versions q)

-- the view has the same cells, index and journal, and so has the pass its latches and buffers
pub record KeepsHand (old new : Pass) : Type 0 where
  pub latch : new.latch ≡ old.latch
  pub buffers : new.buffers ≡ old.buffers
  pub table : new.account.table_id ≡ old.account.table_id
  pub cells : new.account.me.0.cells ≡ old.account.me.0.cells
  pub indexes : new.account.me.0.indexes ≡ old.account.me.0.indexes
  pub journals : new.account.me.0.journals ≡ old.account.me.0.journals
