-- How a pass comes from a new store and goes back into it, and what a step on its account leaves.
use Rattle.std.specs.Prelude.{◌≡◌, ◌≢◌, ℕ, ◌<◌, List, Some}
use Rattle.std.specs.List.{AllByRecursion}
use Rattle.graph_model.specs.declared.journal.TxnName.{TxnName}
use Rattle.graph_model.specs.declared.refusal.Cause.TheVariants.{Holder, Later}
use Rattle.graph_model.specs.declared.write.Write.{Write}
use Rattle.graph_model.specs.Legal.{IsLegal}
use Rattle.store_model.specs.Stamped.{Stamped}
use Rattle.undo_chain.specs.declared.states.Snapshot.{Snapshot}
use Rattle.undo_chain.specs.States.{Knowledge}
use Rattle.store_rule.specs.VersionSegment.Checks.{IsChecked}
use Rattle.store_rule.specs.StoreRelation.Passes.{PassState}
use Rattle.store_rule.specs.CellsModel.Cells.{CellState}
use Rattle.store_rule.specs.RuleModel.Sight.{with_rows}
use Rattle.store_rule.specs.RuleModel.NoteSteps.{LearnsRows, LooksAtRecord}
use Rattle.store_rule.specs.Closing.{IsBackPass}
use Rattle.store_rule.specs.Making.{IsNewPass}
use Rattle.store_rule.specs.Passes.{OnlyAccount}
use Rattle.store_rule.specs.declared.store.Pass.{Pass}
use Rattle.store_rule.specs.declared.store.Store.{Store}
use Rattle.pass_steps.specs.Asking.{IsSnapshotOf, KnowsLooks, knowledge_at}
use Rattle.pass_steps.specs.Notes.{MeetsHolder, MeetsLater}
use Rattle.pass_steps.specs.Passes.{IsIdlePass, IsPassOf, pin_of, reader_of_pass, state_of}

-- NEW: a pass that is dealt has no transaction
abbrev pub NewPassIsIdle : Type 0
NewPassIsIdle = (store : Store) (p : ℕ) (pass : Pass) → p < store.accounts.config.passes
    → IsNewPass store.latches.table.shared.key store.latches.table.shared.table_id
    store.accounts.table.shared.table_id p pass
    → IsIdlePass store pass

-- BACK: one that has no transaction is back
abbrev pub IdlePassIsBack : Type 0
IdlePassIsBack = (store : Store) (pass : Pass) → IsIdlePass store pass
    → IsBackPass store.latches.table.shared.key store.latches.table.shared.table_id
    store.accounts.table.shared.table_id pass.number pass

-- what is left where only the account seat has stepped, and the state of the pass is this
pub record IsSteppedTo (store : Store) (old new : Pass) (st : PassState) : Type 0 where
  pub of : IsPassOf store new
  pub state : state_of new ≡ st
  pub pin : pin_of new ≡ pin_of old

-- STEP: the seat knows another state of the pass, and other contents of cells
abbrev pub PassIsStepped : Type 0
PassIsStepped = (store : Store) (old new : Pass) (st : PassState) (cells : List (ℕ × CellState))
    → IsPassOf store old → IsLegal store.accounts.config.kind st.seen
    → OnlyAccount old new (with_rows old.account.me.0 old.number st cells)
    → IsSteppedTo store old new st

-- LOOK: it has kept more words
abbrev pub PassHasLooked : Type 0
PassHasLooked = (store : Store) (old new : Pass) → IsPassOf store old
    → KnowsLooks old.account.me.0 old new
    → IsSteppedTo store old new (record (state_of old) { looks = (state_of new).looks })

-- ---- what is answered of a conflict

-- what a check of these records asks: the write looks at each of them, the pass has learnt of the rows that
-- it holds, and has found words since
pub record IsAsked (store : Store) (old new : Pass) (clock : ℕ) (w : Write) (snapshot : Snapshot)
    (records : List Stamped) : Type 0 where
  pub snapshot_is : IsSnapshotOf old snapshot
  pub looks : AllByRecursion (LooksAtRecord store.accounts.config old.account.me.0 w) records
  pub learnt : LearnsRows store.accounts.config old.account.me.0 (reader_of_pass old) clock
  pub looked : KnowsLooks old.account.me.0 old new

abbrev pub knowledge_of : Store → Pass → ℕ → Knowledge
knowledge_of store pass clock =
    knowledge_at store.accounts.config pass.number clock pass.account.me.0

-- LATER: a commit that is named may be noted as one that was met, and is behind the start
abbrev pub LaterIsMet : Type 0
LaterIsMet = (store : Store) (old new : Pass) (clock : ℕ) (w : Write) (snapshot : Snapshot)
    (records : List Stamped) (stamp : ℕ) → IsAsked store old new clock w snapshot records
    → IsChecked (knowledge_of store old clock) (knowledge_of store new clock) snapshot records
    (Some (Later stamp))
    → ((state_of old).start < stamp)
    × MeetsLater store.accounts.config new.account.me.0 (state_of new) w stamp

-- HOLDER: so may an open transaction, which is of another pass
abbrev pub HolderIsMet : Type 0
HolderIsMet = (store : Store) (old new : Pass) (clock : ℕ) (w : Write) (snapshot : Snapshot)
    (records : List Stamped) (by : TxnName) → IsAsked store old new clock w snapshot records
    → IsChecked (knowledge_of store old clock) (knowledge_of store new clock) snapshot records
    (Some (Holder by))
    → (by.job ≢ old.number)
    × MeetsHolder store.accounts.config new.account.me.0 (state_of new) w by
