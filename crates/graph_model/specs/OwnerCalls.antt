-- An engine of one owner: one journal and all passes, and exactly what each call does to them.
use Rattle.std.specs.Prelude.{◌≡◌, ℕ, ◌+◌, ◌-◌, ◌*◌, ◌^◌, ◌<◌, ◌≤◌, min, Bool, true, false, List, [], ◌∷◌, ◌++◌, length, map, ◌==◌, Option, Some, None, option_map, unwrap_or, Result, Ok, Err, slice_get, slice_set}
use Rattle.std.specs.List.{flat_map, filter}
use Rattle.graph_model.specs.declared.limits.TheConstants.{SPLIT_ROWS}
use Rattle.graph_model.specs.declared.write.Kind.{Kind}
use Rattle.graph_model.specs.declared.write.Write.{Write}
use Rattle.graph_model.specs.declared.journal.Begun.{Begun}
use Rattle.graph_model.specs.declared.journal.Commit.{Commit}
use Rattle.graph_model.specs.declared.journal.TxnName.{TxnName}
use Rattle.graph_model.specs.declared.refusal.Cause.{Cause}
use Rattle.graph_model.specs.declared.refusal.Refusal.{Refusal}
use Rattle.graph_model.specs.declared.refusal.Refusal.TheVariants as refusals
use Rattle.graph_model.specs.declared.refusal.BeginRefusal.{BeginRefusal}
use Rattle.graph_model.specs.declared.refusal.BeginRefusal.TheVariants as begin_refusals
use Rattle.graph_model.specs.Account.{Account, Sighting}
use Rattle.graph_model.specs.Conflict.{OpenTxn, conflict}
use Rattle.graph_model.specs.AccountSteps.{view_of, last_with, with_cause}
use Rattle.graph_model.specs.Inserted.{inserted, inserts}
use Rattle.graph_model.specs.Passes.{open_txns_of}
use Rattle.graph_model.specs.Refused.{refused}
use Rattle.graph_model.specs.Transactions.{Running, commit_of}

-- what the owner keeps of a pass: its part of the account
pub record PassState : Type 0 where
  pub made : List (List Write)
  pub sighted : List Sighting
  pub start : Option ℕ
  pub own : List Write
  pub filled : Bool
  pub begun : ℕ
  pub allowed : ℕ

pub record Core : Type 0 where
  pub kind : Kind
  pub leaves : ℕ
  pub journal : List Commit
  pub passes : List PassState
  -- the pass that the next calls speak of
  pub selected : ℕ
  -- how many service turns were taken, up to the last number
  pub served : ℕ

-- a pass that may begin no transaction, in place of one that isn't there
abbrev pub no_pass : PassState
no_pass = record { made = []; sighted = []; start = None; own = []; filled = false; begun = 0; allowed = 0 }

abbrev pub pass_at : Core → ℕ → PassState
pass_at core p = unwrap_or (slice_get core.passes p) no_pass

abbrev pub current : Core → PassState
current core = pass_at core core.selected

-- the core with another state of the selected pass
abbrev pub with_current : Core → PassState → Core
with_current core state = record core { passes = slice_set core.passes core.selected state }

-- the stamps of the commits of a pass
abbrev pub stamps_of : ℕ → List Commit → List ℕ
stamps_of p journal = map (λ c. c.stamp) (filter (λ c. c.by.job == p) journal)

abbrev pub account_of : Core → ℕ → PassState → Account
account_of core p state = record {
  job = p;
  kind = core.kind;
  leaves = core.leaves;
  seen = core.journal;
  made = state.made;
  sighted = state.sighted;
  start = state.start;
  own = state.own;
  filled = state.filled;
  begun = state.begun;
  allowed = state.allowed;
  stamps = stamps_of p core.journal;
}

-- the account of a pass: all passes see the whole journal
abbrev pub account_at : Core → ℕ → Account
account_at core p = account_of core p (pass_at core p)

abbrev pub account_here : Core → Account
account_here core = account_at core core.selected

-- the name of the selected pass's latest transaction
abbrev pub name_here : Core → TxnName
name_here core = record { job = core.selected; number = (current core).begun }

-- the open transaction of a pass, if it has one
abbrev pub running_of : PassState → Option Running
running_of state = option_map (λ start. record { start = start; writes = state.own }) state.start

-- all open transactions
abbrev pub open_txns : Core → List OpenTxn
open_txns core = open_txns_of (λ state. state.begun) running_of 0 core.passes

-- the rows that all writes may have inserted
abbrev pub inserted_here : Core → ℕ
inserted_here core = inserted core.kind (flat_map (λ state. flat_map (λ ws. ws) state.made) core.passes)

-- ---- the calls

abbrev pub begun_pass : Core → PassState
begun_pass core = record (current core) {
  start = Some (length core.journal);
  own = [];
  begun = (current core).begun + 1;
  made = (current core).made ++ [] ∷ [];
}

-- `begin` answers the next name, and the length of the journal as start
abbrev pub BeginsHere : Core → Result Begun BeginRefusal → Core → Type 0
BeginsHere old (Ok begun) new =
    ((current old).begun < (current old).allowed)
    × (begun ≡ record {
      by = record { job = old.selected; number = (current old).begun + 1 };
      start = length old.journal;
    })
    × (new ≡ with_current old (begun_pass old))
BeginsHere old (Err begin_refusals.TxnsUsed) new = ((current old).allowed ≤ (current old).begun) × (new ≡ old)
BeginsHere old (Err begin_refusals.NoMemory) new = new ≡ old

-- why snapshot isolation doesn't let the open transaction make the write, if it doesn't
abbrev pub conflict_here : Core → ℕ → Write → Option Cause
conflict_here core start w = conflict core.kind core.journal (open_txns core) (name_here core) start w

abbrev pub written_pass : Core → Write → PassState
written_pass core w = record (current core) {
  own = (current core).own ++ w ∷ [];
  made = last_with (current core).made w;
}

-- the view of the open transaction refuses the write, and nothing changed
abbrev pub RefusedHere : Core → ℕ → Write → Refusal → Core → Type 0
RefusedHere old start w refusal new = (refused (view_of (account_here old) start) w ≡ Some refusal) × (new ≡ old)

-- what a refused write means, and what it leaves
abbrev pub RefusesHere : Core → ℕ → Write → Refusal → Core → Type 0
RefusesHere old start w refusals.SelfLoop new = RefusedHere old start w refusals.SelfLoop new
RefusesHere old start w (refusals.NoVertex v) new = RefusedHere old start w (refusals.NoVertex v) new
RefusesHere old start w refusals.VertexExists new = RefusedHere old start w refusals.VertexExists new
RefusesHere old start w refusals.EdgeExists new = RefusedHere old start w refusals.EdgeExists new
RefusesHere old start w refusals.NoEdge new = RefusedHere old start w refusals.NoEdge new
RefusesHere old start w refusals.HasEdges new = RefusedHere old start w refusals.HasEdges new
RefusesHere old start w (refusals.Conflict cause) new =
    (refused (view_of (account_here old) start) w ≡ None) × (conflict_here old start w ≡ Some cause)
    × (new ≡ with_current old (record (current old) {
      sighted = (with_cause (account_here old) start w cause).sighted;
    }))
RefusesHere old start w (refusals.Full leaves) new =
    (refused (view_of (account_here old) start) w ≡ None) × (conflict_here old start w ≡ None)
    × (inserts w ≡ true) × (leaves ≡ old.leaves) × (SPLIT_ROWS * leaves ≤ inserted_here old)
    × (new ≡ with_current old (record (current old) { filled = true }))
RefusesHere old start w refusals.NoMemory new = new ≡ old

-- a write is made where the view allows it and nobody's write clashes with it
abbrev pub WritesHereFrom : Core → ℕ → Write → Result (Unit {0}) Refusal → Core → Type 0
WritesHereFrom old start w (Ok done) new =
    (refused (view_of (account_here old) start) w ≡ None) × (conflict_here old start w ≡ None)
    × (new ≡ with_current old (written_pass old w))
WritesHereFrom old start w (Err refusal) new = RefusesHere old start w refusal new

abbrev pub WritesHere : Core → Write → Result (Unit {0}) Refusal → Core → Type 0
WritesHere old w result new = (start : ℕ) × ((current old).start ≡ Some start) × WritesHereFrom old start w result new

abbrev pub ended_pass : Core → PassState
ended_pass core = record (current core) { start = None; own = [] }

-- a commit without writes has no stamp and leaves the journal
abbrev pub CommitsHereFrom : Core → ℕ → List Write → Option ℕ → Core → Type 0
CommitsHereFrom old start [] answer new = (answer ≡ None) × (new ≡ with_current old (ended_pass old))
CommitsHereFrom old start (w ∷ ws) answer new =
    (answer ≡ Some (length old.journal + 1))
    × (new ≡ record (with_current old (ended_pass old)) {
      journal = old.journal ++ commit_of old.journal (name_here old) (record { start = start; writes = w ∷ ws }) ∷ [];
    })

abbrev pub CommitsHere : Core → Option ℕ → Core → Type 0
CommitsHere old answer new =
    (start : ℕ) × ((current old).start ≡ Some start) × CommitsHereFrom old start (current old).own answer new

abbrev pub AbortsHere : Core → Core → Type 0
AbortsHere old new = new ≡ with_current old (ended_pass old)

-- a service turn is counted, up to the last number, and changes nothing else
abbrev pub one_more : ℕ → ℕ
one_more served = min (served + 1) (2 ^ 64 - 1)

abbrev pub ServesHere : Core → Core → Type 0
ServesHere old new = new ≡ record old { served = one_more old.served }
