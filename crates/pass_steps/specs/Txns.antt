-- What begin, commit and what is seen of the journal make of the state of their pass.
use Rattle.std.specs.Prelude.{◌≡◌, ℕ, ◌+◌, ◌<◌, ◌≤◌, List, [], length, slice_get, Contains, Option, Some, None}
use mathlib.Core.List.{IsPrefix}
use Rattle.graph_model.specs.declared.journal.Begun.{Begun}
use Rattle.graph_model.specs.declared.journal.Commit.{Commit}
use Rattle.graph_model.specs.Conflict.{later}
use Rattle.txn_manager.specs.declared.config.Config.{Config}
use Rattle.store_rule.specs.StoreRelation.Keys.{changed_keys}
use Rattle.store_rule.specs.StoreRelation.Passes.{Meeting, PassState, name_at}
use Rattle.store_rule.specs.StoreRelation.Shared.{JournalState, longer_of}
use Rattle.store_rule.specs.StoreRelation.Steps.{begun, committed, committing, ended, refreshed, with_entry}
use Rattle.store_rule.specs.RuleModel.Sight.{Sight, with_pass}
use Rattle.pass_steps.specs.Passes.{state_in}

-- ---- begin

-- the next transaction is open: it sees the whole journal, whose length is its start
pub record Opens (old : PassState) (start : ℕ) (new : PassState) : Type 0 where
  pub journal : JournalState
  pub front : IsPrefix old.seen journal.commits
  pub is : new ≡ begun old journal
  pub start_is : start ≡ length journal.commits

-- and this is answered
pub record Begins (p : ℕ) (old : PassState) (answer : Begun) (new : PassState) : Type 0 where
  pub opens : Opens old answer.start new
  pub by : answer.by ≡ name_at p new

-- ---- commit

-- the transaction has ended with the next stamp of the journal, and the rows that it changed are still
-- to be stamped
pub record Commits (z : Config) (p : ℕ) (old : PassState) (stamp : ℕ) (new : PassState) : Type 0 where
  pub journal : JournalState
  pub front : IsPrefix old.seen journal.commits
  pub stamped : stamp ≡ length journal.commits + 1
  pub is : new ≡ committed (committing old) (with_entry journal p old) (changed_keys z.kind old.own)

-- without writes it has ended with no stamp
abbrev pub CommitsAs : Config → ℕ → PassState → Option ℕ → PassState → Type 0
CommitsAs z p old None new = (old.own ≡ []) × (new ≡ ended old None)
CommitsAs z p old (Some stamp) new = (0 < length old.own) × Commits z p old stamp new

-- what was seen has the commit of the latest transaction, with this stamp
pub record HasCommitted (p : ℕ) (st : PassState) (stamp : ℕ) : Type 0 where
  pub place : ℕ
  pub commit : Commit
  pub at : slice_get st.seen place ≡ Some commit
  pub by : commit.by ≡ name_at p st
  pub stamped : commit.stamp ≡ stamp

-- ---- what is seen

-- all that is published was seen, up to this clock; what was met behind a start is later than that
pub record Refreshes (z : Config) (old : PassState) (clock : ℕ) (new : PassState) : Type 0 where
  pub commits : List Commit
  pub front : IsPrefix old.seen commits
  pub is : new ≡ refreshed old commits
  pub clock_is : clock ≡ length commits
  pub met : (i : ℕ) (m : Meeting) → slice_get old.met i ≡ Some m → (start : ℕ) → start ≤ m.place
      → m.place < clock → Contains (later z.kind commits start m.write) (m.place + 1)

-- what another pass has seen was seen as well
pub record Meets (told : List Commit) (old new : PassState) : Type 0 where
  pub commits : List Commit
  pub front : IsPrefix old.seen commits
  pub told_front : IsPrefix told commits
  pub is : new ≡ refreshed old commits

-- what the view knows of the journal with what it was told
abbrev pub told_with : ℕ → Sight → List Commit
told_with p v = longer_of (state_in v p).seen v.told

abbrev pub told_seen : ℕ → Sight → Sight
told_seen p v = with_pass v p (refreshed (state_in v p) (told_with p v))
