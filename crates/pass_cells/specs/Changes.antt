-- Steps that make the view know what was changed in the cells in hand.
use Rattle.std.specs.Prelude.{◌≡◌, ℕ, ◌-◌, ◌≤◌, ◌++◌, not, cond, true, List, [], ◌∷◌, length, map, take, slice_get, unwrap_or, Option, Some, None}
use Rattle.std.specs.List.{filter}
use Rattle.graph_model.specs.declared.journal.Commit.{Commit}
use Rattle.graph_model.specs.declared.row.Key.{Key}
use Rattle.graph_model.specs.declared.write.Kind.{Kind}
use Rattle.graph_model.specs.declared.write.Kind.TheVariants.{Directed, Undirected}
use Rattle.graph_model.specs.declared.write.Write.{Write}
use Rattle.graph_model.specs.Graph.{Graph, IsSymmetric}
use Rattle.graph_model.specs.History.{view}
use Rattle.graph_model.specs.Inserted.{inserted_by}
use Rattle.graph_model.specs.Refused.{refused, IsWithinLimits}
use Rattle.graph_model.specs.Transactions.{stamp_in}
use Rattle.txn_manager.specs.declared.config.Config.{Config}
use Rattle.seat_views.specs.Keeping.{kept_at}
use Rattle.store_model.specs.Check.{MayWrite}
use Rattle.store_model.specs.Stamped.{forget_row, stamp}
use Rattle.store_model.specs.Versions.{sees}
use Rattle.row_writes.specs.VersionSegment.Rows.{versions_at}
use Rattle.undo_chain.specs.declared.states.Snapshot.{Snapshot}
use Rattle.row_writes.specs.Checks.{ShowsHeld}
use Rattle.row_writes.specs.Held.{AreHeld, HeldRows}
use Rattle.row_writes.specs.Laying.{MayLay, rows_missing}
use Rattle.row_writes.specs.Written.{all_keys, rows_of}
use Rattle.store_rule.specs.StoreRelationDeclared.stage.Stage.TheVariants.{Idle, Open, Aborting}
use Rattle.store_rule.specs.StoreRelation.Keys.{has_key}
use Rattle.store_rule.specs.StoreRelation.Passes.{PassState, fresh_pass, name_at}
use Rattle.store_rule.specs.StoreRelation.Rows.{row_after, row_before}
use Rattle.store_rule.specs.StoreRelation.Steps.{taken_back, with_unstamped, written_by}
use Rattle.store_rule.specs.CellsModel.Cells.{CellState}
use Rattle.store_rule.specs.RuleModel.EndSteps.{new_state}
use Rattle.store_rule.specs.RuleModel.NoteSteps.{HasRow}
use Rattle.store_rule.specs.RuleModel.RowSteps.{looks_in}
use Rattle.store_rule.specs.RuleModel.Sight.{HasPass, Sight, with_rows}
use Rattle.store_rule.specs.declared.store.Pass.{Pass}
use Rattle.store_rule.specs.Passes.{OnlyAccount}
use Rattle.graph_model.specs.declared.journal.TxnName.{TxnName}
use Rattle.pass_cells.specs.declared.taken.TakenCell.{TakenCell}
use Rattle.pass_cells.specs.Taken.{held_rows}

-- ---- news of cells in hand

-- what the view has of a cell and of a pass
abbrev pub state_of : Sight → ℕ → CellState
state_of v k = unwrap_or (kept_at v.cells k) (new_state k)

abbrev pub pass_of : Sight → ℕ → PassState
pass_of v p = unwrap_or (kept_at v.passes p) fresh_pass

-- what a pass knows of itself, and its name
abbrev pub state_of_pass : Pass → PassState
state_of_pass pass = pass_of pass.account.me.0 pass.number

abbrev pub name_of : Pass → TxnName
name_of pass = name_at pass.number (state_of_pass pass)

-- each cell has the contents that are in hand
abbrev pub news_of : Sight → List TakenCell → List (ℕ × CellState)
news_of v ts = map {A = TakenCell} (λ t. (t.held.cell, record (state_of v t.held.cell) { segment = t.held.value })) ts

-- ---- a write

-- The pass has an open transaction that may make this write: its view allows it, and in each row in hand at which the
-- write looks whoever stands there is seen.
pub record MayMake (z : Config) (v : Sight) (p : ℕ) (w : Write) : Type 0 where
  pub state : PassState
  pub has : HasPass v p state
  pub stage : state.stage ≡ Open
  pub alone : state.readers_out ≡ 0
  pub allowed : refused (view z.kind state.seen state.start state.own) w ≡ None
  pub within : IsWithinLimits w
  pub may : (k : ℕ) (c : CellState) (q : Key) → HasRow z v k c q → looks_in w q ≡ true
      → MayWrite z.kind (sees (stamp_in state.seen) state.start (name_at p state)) w q
      (forget_row (versions_at c.segment q))

-- no row is missing but those that the write inserts
abbrev pub MissesFew : Kind → HeldRows → Write → Type 0
MissesFew kind c w = rows_missing c (rows_of kind w) ≤ inserted_by kind w

-- an undirected graph goes both ways
abbrev pub FitsKind : Kind → Graph → Type 0
FitsKind Directed g = Unit {0}
FitsKind Undirected g = IsSymmetric g

-- A write that a view allows, which is read in the rows in hand, has its ends there, and misses few rows.
abbrev pub WritesHaveRows : Type 0
WritesHaveRows = (kind : Kind) (ts : List TakenCell) (stamps : TxnName → Option ℕ) (snapshot : Snapshot) (g : Graph)
    (w : Write)
    → ShowsHeld stamps snapshot (held_rows ts) g → FitsKind kind g → AreHeld (held_rows ts) (all_keys (rows_of kind w))
    → refused g w ≡ None → MayLay (held_rows ts) w × MissesFew kind (held_rows ts) w

-- each row in hand has what it has after the write, and the view knows it
pub record IsWritten (z : Config) (w : Write) (old new : Pass) (ts us : List TakenCell) : Type 0 where
  pub rows : (q : Key) → (held_rows us).versions q
      ≡ row_after z.kind (name_of old) w q ((held_rows ts).versions q)
  pub known : OnlyAccount old new
      (with_rows old.account.me.0 old.number (written_by (state_of_pass old) w) (news_of old.account.me.0 us))

-- ---- its undo

-- all writes but the newest
abbrev pub but_newest : List Write → List Write
but_newest ws = take (length ws - 1) ws

-- this is the newest write that still stands of a transaction that is being aborted
pub record MayUndo (v : Sight) (p : ℕ) (w : Write) : Type 0 where
  pub state : PassState
  pub has : HasPass v p state
  pub stage : state.stage ≡ Aborting
  pub laid : state.laid ≡ but_newest state.laid ++ w ∷ []
  pub within : IsWithinLimits w

-- each row in hand has what it had before the write, and the view knows it
pub record IsUndone (z : Config) (w : Write) (old new : Pass) (ts us : List TakenCell) : Type 0 where
  pub rows : (q : Key) → (held_rows us).versions q
      ≡ row_before z.kind (name_of old) w q ((held_rows ts).versions q)
  pub known : OnlyAccount old new (with_rows old.account.me.0 old.number
      (taken_back (state_of_pass old) (but_newest (state_of_pass old).laid)) (news_of old.account.me.0 us))

-- ---- the rows of a commit

-- those of these keys that are not among others
abbrev pub keys_beside : List Key → List Key → List Key
keys_beside others keys = filter (λ k. not (has_key others k)) keys

-- the pass has the commit of its last transaction, with this stamp
pub record MayStamp (v : Sight) (p : ℕ) (number : ℕ) : Type 0 where
  pub state : PassState
  pub has : HasPass v p state
  pub stage : state.stage ≡ Idle
  pub place : ℕ
  pub commit : Commit
  pub there : slice_get state.seen place ≡ Some commit
  pub by : commit.by ≡ name_at p state
  pub stamp_is : commit.stamp ≡ number

-- the rows of these keys are stamped, and the view knows it
abbrev pub StampsRows : TxnName → ℕ → List Key → List TakenCell → List TakenCell → Type 0
StampsRows by number keys ts us = (q : Key) → (held_rows us).versions q
    ≡ cond (has_key keys q) (stamp by number ((held_rows ts).versions q)) ((held_rows ts).versions q)

pub record AreStamped (number : ℕ) (keys : List Key) (old new : Pass) (ts us : List TakenCell) : Type 0 where
  pub rows : StampsRows (name_of old) number keys ts us
  pub known : OnlyAccount old new (with_rows old.account.me.0 old.number
      (with_unstamped (state_of_pass old) (keys_beside keys (state_of_pass old).unstamped))
      (news_of old.account.me.0 us))
