-- A packed cell in hand, and the rows that an open transaction sees in it.
use Rattle.std.specs.Prelude.{◌≡◌, ℕ, ◌<◌, true, false, List}
use Rattle.graph_model.specs.declared.row.Key.{Key}
use Rattle.graph_model.specs.declared.row.Row.{Row}
use Rattle.graph_model.specs.Graph.{Graph}
use Rattle.graph_model.specs.History.{view}
use Rattle.graph_model.specs.Rows.{is_below, is_between, rows}
use Rattle.txn_manager.specs.declared.config.Config.{Config}
use Rattle.undo_chain.specs.declared.states.Snapshot.{Snapshot}
use Rattle.pass_cells.specs.RuleModel.NoteSteps.{LearnsRows}
use Rattle.pass_sweeps.specs.CellsModel.Cells.{CellState}
use Rattle.pass_sweeps.specs.CellsModel.Indexed.{covers}
use Rattle.pass_sweeps.specs.CellsModel.Words.{HasSmallWeights}
use Rattle.pass_sweeps.specs.PassSteps.Asking.{IsSnapshotOf}
use Rattle.pass_sweeps.specs.PassSteps.Passes.{IsPassOf, reader_of_pass}
use Rattle.pass_sweeps.specs.Pruning.{HasCellOnly}
use Rattle.pass_sweeps.specs.RuleModel.Sight.{HasCell, PinState, Sight, cells_of}
use Rattle.pass_sweeps.specs.StoreRelation.Passes.{PassState}
use Rattle.pass_sweeps.specs.StoreRule.Slots.{RestsAs}
use Rattle.pass_sweeps.specs.StoreRuleDeclared.store.Pass.{Pass}
use Rattle.pass_sweeps.specs.StoreRuleDeclared.store.Store.{Store}
use Rattle.pass_sweeps.specs.VersionSegment.Resting.{RestingRows, word_rows}
use Rattle.pass_sweeps.specs.VersionSegment.Rows.{IsSegment}

-- what an open transaction sees
abbrev pub view_seen : Config → PassState → Graph
view_seen z st = view z.kind st.seen st.start st.own

-- the pass holds one cell, which is packed, and nothing else
pub record HasPacked (store : Store) (pass : Pass) (st : PassState) (x : PinState) (k : ℕ) (c : CellState)
    : Type 0 where
  pub only : HasCellOnly store pass st x k c 0
  pub packed : c.unpacked ≡ false

-- the pass has learnt at this clock of the rows that it reads as this snapshot sees them
pub record ReadsAt (store : Store) (pass : Pass) (clock : ℕ) (snapshot : Snapshot) : Type 0 where
  pub of : IsPassOf store pass
  pub learnt : LearnsRows store.accounts.config pass.account.me.0 (reader_of_pass pass) clock
  pub sees : IsSnapshotOf pass snapshot

-- The view has a cell of which this is kept, and these are its rows with their words. It covers each key of the range.
pub record MayRead (z : Config) (v : Sight) (k : ℕ) (resting : RestingRows) (words : List Row) (from end : Key)
    (c : CellState) : Type 0 where
  pub has : HasCell v k c
  pub inside : k < cells_of z
  pub sound : IsSegment c.segment
  pub small : HasSmallWeights c.segment
  pub rests : RestsAs c.segment resting
  pub words_are : words ≡ word_rows c.segment
  pub covered : (q : Key) → is_between from end q ≡ true → covers c.segment q ≡ true

-- the rows of the graph from one key on and before the end, which is behind that key and not behind the last one
pub record IsRunTo (end : Key) (g : Graph) (from until : Key) (run : List Row) : Type 0 where
  pub ahead : is_below from end ≡ true
  pub inside : is_below until end ≡ false
  pub run_is : run ≡ rows g from end
