-- A reader with cells in hand, and with none.
use Rattle.std.specs.Prelude.{◌≡◌, ℕ, List, []}
use Rattle.undo_chain.specs.declared.states.Snapshot.{Snapshot}
use Rattle.pass_steps.specs.RuleModel.NoteSteps.{LearnsRows}
use Rattle.pass_steps.specs.StoreRuleDeclared.store.Pass.{Pass}
use Rattle.pass_steps.specs.StoreRuleDeclared.store.Store.{Store}
use Rattle.pass_steps.specs.Passes.{HoldsNone, pin_of, state_of}
use Rattle.pass_cells.specs.Holding.{Holds}
use Rattle.pass_cells.specs.declared.taken.TakenCell.{TakenCell}
use Rattle.pass_readers.specs.Readers.{IsReaderOf, IsSnapshotOf, read_by}

-- a reader of the store that has these cells in hand, and nothing else
pub record HasReadInHand (store : Store) (reader : Pass) (ts : List TakenCell) : Type 0 where
  pub of : IsReaderOf store (read_by reader) reader
  pub holds : Holds store reader ts
  pub journals : reader.account.me.0.journals ≡ []

-- one that has nothing in hand
pub record HasNothing (store : Store) (reader : Pass) (ts : List TakenCell) : Type 0 where
  pub of : IsReaderOf store (read_by reader) reader
  pub none : HoldsNone reader
  pub cells : ts ≡ []

-- it reads by the same account, and its own pass is as it was
pub record KeepsReader (old new : Pass) : Type 0 where
  pub number : new.number ≡ old.number
  pub reads : read_by new ≡ read_by old
  pub state : state_of new ≡ state_of old
  pub pin : pin_of new ≡ pin_of old

-- it has learnt at this clock of the rows in these cells in hand, which it reads as this snapshot sees them
pub record ReadsInHand (store : Store) (reader : Pass) (ts : List TakenCell) (clock : ℕ) (snapshot : Snapshot) : Type 0 where
  pub hand : HasReadInHand store reader ts
  pub learnt : LearnsRows store.accounts.config reader.account.me.0 (read_by reader) clock
  pub sees : IsSnapshotOf (read_by reader) snapshot
