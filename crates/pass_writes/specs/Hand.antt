-- A pass with cells in hand, and with none.
use Rattle.std.specs.Prelude.{◌≡◌, ℕ, List, []}
use Rattle.undo_chain.specs.declared.states.Snapshot.{Snapshot}
use Rattle.pass_prunes.specs.RuleModel.NoteSteps.{LearnsRows}
use Rattle.pass_prunes.specs.StoreRuleDeclared.store.Pass.{Pass}
use Rattle.pass_prunes.specs.StoreRuleDeclared.store.Store.{Store}
use Rattle.pass_prunes.specs.PassCellsDeclared.taken.TakenCell.{TakenCell}
use Rattle.pass_prunes.specs.PassCells.Holding.{Holds}
use Rattle.pass_prunes.specs.PassSteps.Asking.{IsSnapshotOf}
use Rattle.pass_prunes.specs.PassSteps.Passes.{HoldsNone, IsPassOf, IsSamePass, pin_of, reader_of_pass, state_of}

-- a pass of the store that has these cells in hand, and nothing else
pub record HasInHand (store : Store) (pass : Pass) (ts : List TakenCell) : Type 0 where
  pub of : IsPassOf store pass
  pub holds : Holds store pass ts
  pub journals : pass.account.me.0.journals ≡ []

-- one that has nothing in hand
pub record HasNothing (store : Store) (pass : Pass) (ts : List TakenCell) : Type 0 where
  pub of : IsPassOf store pass
  pub none : HoldsNone pass
  pub cells : ts ≡ []

-- it knows of itself what it knew
pub record KeepsState (old new : Pass) : Type 0 where
  pub same : IsSamePass old new
  pub state : state_of new ≡ state_of old
  pub pin : pin_of new ≡ pin_of old

-- it has these cells in hand still, and its pin is as it was
pub record KeepsInHand (store : Store) (old new : Pass) (ts : List TakenCell) : Type 0 where
  pub hand : HasInHand store new ts
  pub pin : pin_of new ≡ pin_of old
  pub same : IsSamePass old new

-- it has nothing in hand again, and its pin is as it was
pub record HasAllBack (store : Store) (old new : Pass) (ts : List TakenCell) : Type 0 where
  pub none : HasNothing store new ts
  pub pin : pin_of new ≡ pin_of old
  pub same : IsSamePass old new

-- it has learnt at this clock of the rows in these cells in hand, which it reads as this snapshot sees them
pub record ReadsInHand (store : Store) (pass : Pass) (ts : List TakenCell) (clock : ℕ) (snapshot : Snapshot) : Type 0 where
  pub hand : HasInHand store pass ts
  pub learnt : LearnsRows store.accounts.config pass.account.me.0 (reader_of_pass pass) clock
  pub sees : IsSnapshotOf pass snapshot
