-- A pass of a shared store: its transactions, and what it knows of the journal and of other
-- writers.
use Rattle.std.specs.Prelude.{◌≡◌, ℕ, zero, suc, ◌<◌, Bool, true, false, ◌&&◌, ◌||◌, not, cond, List, [], ◌∷◌, ◌++◌, map, length, drop, slice_get, Option, Some, None, unwrap_or}
use Rattle.std.specs.List.{filter_map}
use mathlib.Core.List.{IsPrefix}
use Rattle.graph_model.specs.declared.write.Write.{Write}
use Rattle.graph_model.specs.declared.row.Key.{Key}
use Rattle.graph_model.specs.declared.journal.Commit.{Commit}
use Rattle.graph_model.specs.declared.journal.TxnName.{TxnName}
use Rattle.graph_model.specs.Account.{Sighting, Account}
use Rattle.graph_model.specs.Effects.{any_touches}
use Rattle.graph_model.specs.Passes.{of_latest}
use Rattle.graph_model.specs.Transactions.{Running, stamp_in}
use Rattle.txn_manager.specs.declared.config.Config.{Config}
use Rattle.store_model.specs.Versions.{sees}
use Rattle.store_relation.specs.declared.stage.Stage.{Stage}
use Rattle.store_relation.specs.declared.stage.Stage.TheVariants.{Idle, Open, Aborting, Committing}
use Rattle.store_relation.specs.Keys.{has_key}
use Rattle.store_relation.specs.Words.{Look}

-- ---- what a pass has and knows

-- the entry at this place of the journal holds a write that clashes with this one
pub record Meeting : Type 0 where
  pub write : Write
  pub place : ℕ

-- a transaction that has ended: its writes, and the stamp of its commit, if it has one
pub record EndedTxn : Type 0 where
  pub writes : List Write
  pub stamp : Option ℕ

pub record PassState : Type 0 where
  pub stage : Stage
  -- the start of the latest transaction, its writes, and those of them that stand in rows
  pub start : ℕ
  pub own : List Write
  pub laid : List Write
  -- the rows in which records of the last commit still have no stamp
  pub unstamped : List Key
  -- the transactions that have ended, oldest first
  pub past : List EndedTxn
  -- the journal as far as it was seen
  pub seen : List Commit
  -- what was found of other writers: commits that clash, open transactions that clash, and words
  pub met : List Meeting
  pub holders : List Sighting
  pub looks : List Look
  -- what was answered of other writers: the open transactions that were named as causes
  pub sighted : List Sighting
  -- some write was answered `Full`
  pub filled : Bool
  -- how many readers have been split off and not joined
  pub readers_out : ℕ

-- a pass that has begun nothing
abbrev pub fresh_pass : PassState
fresh_pass = record {
  stage = Idle;
  start = 0;
  own = [];
  laid = [];
  unstamped = [];
  past = [];
  seen = [];
  met = [];
  holders = [];
  looks = [];
  sighted = [];
  filled = false;
  readers_out = 0;
}

-- ---- stages

-- the latest transaction has begun and not ended
abbrev pub is_active : Stage → Bool
is_active Idle = false
is_active Open = true
is_active Aborting = true
is_active Committing = true

-- it may still commit
abbrev pub may_commit : Stage → Bool
may_commit Idle = false
may_commit Open = true
may_commit Aborting = false
may_commit Committing = true

-- room is kept in the journal for its entry
abbrev pub needs_room : Stage → Bool
needs_room Idle = false
needs_room Open = true
needs_room Aborting = false
needs_room Committing = false

-- which of its writes stand in rows: all, or where it aborts the first ones
abbrev pub IsLaid : Stage → List Write → List Write → Type 0
IsLaid Idle laid own = (laid ≡ []) × (own ≡ [])
IsLaid Open laid own = laid ≡ own
IsLaid Aborting laid own = IsPrefix laid own
IsLaid Committing laid own = (laid ≡ own) × (0 < length own)

-- ---- the transactions of a pass, by number

-- the writes of those that have ended
abbrev pub ended_writes : PassState → List (List Write)
ended_writes st = map (λ t. t.writes) st.past

-- the writes of each, the latest one's last
abbrev pub made_of : PassState → List (List Write)
made_of st = cond (is_active st.stage) (ended_writes st ++ st.own ∷ []) (ended_writes st)

-- how many it has begun, which is the number of the latest
abbrev pub number_of : PassState → ℕ
number_of st = length (made_of st)

-- the writes of the one with this number; numbers count from 1
abbrev pub made_at : List (List Write) → ℕ → List Write
made_at made zero = []
made_at made (suc place) = unwrap_or (slice_get made place) []

abbrev pub writes_by : PassState → ℕ → List Write
writes_by st number = made_at (made_of st) number

abbrev pub stamp_of_ended : Option EndedTxn → Option ℕ
stamp_of_ended None = None
stamp_of_ended (Some t) = t.stamp

-- the stamp of the one with this number, if it has ended with a commit
abbrev pub kept_stamp : List EndedTxn → ℕ → Option ℕ
kept_stamp past zero = None
kept_stamp past (suc place) = stamp_of_ended (slice_get past place)

-- the stamps of all its commits
abbrev pub stamps_of_pass : PassState → List ℕ
stamps_of_pass st = filter_map (λ t. t.stamp) st.past

-- the name of the latest transaction of the pass with this number
abbrev pub name_at : ℕ → PassState → TxnName
name_at p st = record { job = p; number = number_of st }

abbrev pub name_of : (ℕ → PassState) → ℕ → TxnName
name_of pass p = name_at p (pass p)

-- ---- what transactions have, by name

-- the stamp that the transaction's pass keeps of it
abbrev pub stamp_by : (ℕ → PassState) → TxnName → Option ℕ
stamp_by pass by = kept_stamp (pass by.job).past by.number

-- what the latest transaction commits
abbrev pub now_of : PassState → Running
now_of st = record { start = st.start; writes = st.own }

abbrev pub running_part : PassState → Option Running
running_part st = cond (may_commit st.stage) (Some (now_of st)) None

-- those that may still commit
abbrev pub running_of : (ℕ → PassState) → TxnName → Option Running
running_of pass = of_latest number_of running_part None pass

-- the writes that stand in rows
abbrev pub laid_of : (ℕ → PassState) → TxnName → List Write
laid_of pass = of_latest number_of (λ st. st.laid) [] pass

-- one of its writes touches the row, and none of those that are taken back does
abbrev pub stands : List Write → List Write → Key → Bool
stands laid own k = any_touches own k && not (any_touches (drop (length laid) own) k)

abbrev pub touching_by : (ℕ → PassState) → TxnName → Key → Bool
touching_by pass by k = of_latest number_of (λ st. stands st.laid st.own k) false pass by

-- whom its snapshot sees, by as much of the journal as was seen
abbrev pub sees_by : ℕ → PassState → TxnName → Bool
sees_by p st = sees (stamp_in st.seen) st.start (name_at p st)

-- the row may have a record without a stamp of the pass's latest transaction
abbrev pub may_stand : PassState → Key → Bool
may_stand st k = is_active st.stage || has_key st.unstamped k

-- ---- the account of a pass

abbrev pub start_of : PassState → Option ℕ
start_of st = cond (is_active st.stage) (Some st.start) None

abbrev pub account_of : Config → ℕ → PassState → Account
account_of z p st = record {
  job = p;
  kind = z.kind;
  leaves = z.leaves;
  seen = st.seen;
  made = made_of st;
  sighted = st.sighted;
  start = start_of st;
  own = st.own;
  filled = st.filled;
  begun = number_of st;
  allowed = z.txns_per_pass;
  stamps = stamps_of_pass st;
}
