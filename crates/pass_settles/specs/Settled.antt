-- A pass that stamps a cell in hand with the rows of its last commit, or settles it.
use Rattle.std.specs.Prelude.{◌≡◌, ℕ, true, false, not, List}
use Rattle.std.specs.List.{filter}
use Rattle.graph_model.specs.declared.journal.TxnName.{TxnName}
use Rattle.graph_model.specs.declared.journal.Commit.{Commit}
use Rattle.graph_model.specs.declared.row.Key.{Key}
use Rattle.txn_manager.specs.declared.config.Config.{Config}
use Rattle.graph_model.specs.Rows.{is_between}
use Rattle.epoch_reclaim.specs.declared.sweep.Sweep.{Sweep}
use Rattle.pass_sweeps.specs.VersionSegment.Resting.{RestingRows}
use Rattle.pass_sweeps.specs.VersionSegment.Rows.{VersionedRows}
use Rattle.pass_sweeps.specs.StoreRelation.Keys.{has_key}
use Rattle.pass_sweeps.specs.StoreRelation.Passes.{PassState}
use Rattle.pass_sweeps.specs.StoreRelation.Steps.{with_unstamped}
use Rattle.pass_sweeps.specs.StoreRelationDeclared.stage.Stage.TheVariants.{Idle}
use Rattle.pass_sweeps.specs.CellsModel.Cells.{CellState}
use Rattle.pass_sweeps.specs.RuleModel.Sight.{PinState, Sight}
use Rattle.pass_sweeps.specs.StoreWords.Spelling.{Stays}
use Rattle.pass_sweeps.specs.StoreRule.Slots.{RestsAs}
use Rattle.pass_sweeps.specs.StoreRuleDeclared.store.Pass.{Pass}
use Rattle.pass_sweeps.specs.StoreRuleDeclared.store.Store.{Store}
use Rattle.pass_sweeps.specs.PassSteps.Passes.{HoldsNone, IsPassOf, IsSamePass, name_of_pass, pin_of, state_in, state_of}
use Rattle.pass_sweeps.specs.PassSteps.Txns.{HasCommitted}
use Rattle.pass_sweeps.specs.Pruning.{HasCellOnly, cell_in, news_of}
use Rattle.pass_sweeps.specs.Sweeping.{HasSwept}
use Rattle.pass_sweeps.specs.RuleModel.RowSteps.{CanStamp}
use Rattle.pass_settles.specs.declared.fences.Fences.{Fences}
use Rattle.pass_settles.specs.Marks.{IsClearing}
use Rattle.pass_sweeps.specs.VersionSegment.Settling.{stamped_segment}

-- ---- nothing in hand

-- a pass of the store with nothing in hand
pub record HasNoneInHand (store : Store) (pass : Pass) : Type 0 where
  pub of : IsPassOf store pass
  pub none : HoldsNone pass

-- it has nothing in hand again, and its pin is as it was
pub record GivesBack (store : Store) (old new : Pass) : Type 0 where
  pub of : IsPassOf store new
  pub none : HoldsNone new
  pub pin : pin_of new ≡ pin_of old
  pub same : IsSamePass old new

-- ---- who may stamp and settle

-- the last commit of the pass has this name and this stamp
pub record IsStamping (pass : Pass) (by : TxnName) (stamp : ℕ) : Type 0 where
  pub stage : (state_of pass).stage ≡ Idle
  pub committed : HasCommitted pass.number (state_of pass) stamp
  pub name : by ≡ name_of_pass pass

-- and the pass has swept over all pins
pub record IsSettling (store : Store) (pass : Pass) (sweep : Sweep) (by : TxnName) (stamp : ℕ) : Type 0 where
  pub stamping : IsStamping pass by stamp
  pub swept : HasSwept store pass sweep

-- ---- rows that are stamped

-- those of these keys that are not between the fence keys
abbrev pub keys_outside : Key → Key → List Key → List Key
keys_outside low high keys = filter (λ q. not (is_between low high q)) keys

-- all rows between the fence keys are stamped
abbrev pub stamped_between : Key → Key → PassState → PassState
stamped_between low high st = with_unstamped st (keys_outside low high st.unstamped)

-- those of a cell in hand
abbrev pub stamped_in : Sight → ℕ → ℕ → PassState
stamped_in v p k = stamped_between (cell_in v k).segment.low (cell_in v k).segment.high (state_in v p)

-- of rows that were to be stamped those of these keys are, and maybe others
pub record StampsKeys (keys : List Key) (old new : PassState) : Type 0 where
  pub is : new ≡ with_unstamped old new.unstamped
  pub left : (q : Key) → has_key new.unstamped q ≡ true → has_key old.unstamped q ≡ true
  pub gone : (q : Key) → has_key keys q ≡ true → has_key new.unstamped q ≡ false

-- the view may know that those of a cell in hand are stamped
abbrev pub MayStampCell : Config → Sight → ℕ → ℕ → TxnName → ℕ → Type 0
MayStampCell z v p k by stamp = (i : ℕ) × (c : Commit) × CanStamp z v p (state_in v p) (stamped_in v p k).unstamped i c
    (news_of v k (stamped_segment by stamp (cell_in v k).segment))

-- ---- a cell in hand

-- these are its fence keys
pub record AreFencesOf (s : VersionedRows) (fences : Fences) : Type 0 where
  pub low_is : fences.low ≡ s.low
  pub high_is : fences.high ≡ s.high

-- it is packed, and this is kept of it; the key is one of its own
pub record IsPackedWith (store : Store) (pass : Pass) (st : PassState) (x : PinState) (k : ℕ) (resting : RestingRows)
    (c : CellState) : Type 0 where
  pub only : HasCellOnly store pass st x k c 0
  pub packed : c.unpacked ≡ false
  pub rests : RestsAs c.segment resting

-- only the account seat has stepped, and cleared the marks of a cell
pub record ClearsMarks (k : ℕ) (s : VersionedRows) (c : CellState) (old new : Pass) : Type 0 where
  pub number : new.number ≡ old.number
  pub latch : new.latch ≡ old.latch
  pub buffers : new.buffers ≡ old.buffers
  pub account : Stays old.account new.account
  pub clearing : IsClearing k s 0 old.account.me.0 c new.account.me.0
