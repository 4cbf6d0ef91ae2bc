-- What each call of an engine does to the account of its pass.
use Rattle.std.specs.Prelude.{◌≡◌, ◌≢◌, ℕ, ◌+◌, ◌<◌, ◌≤◌, true, List, [], ◌∷◌, ◌++◌, length, slice_get, Contains, Option, Some, None, Result, Ok, Err}
use Rattle.graph_model.specs.declared.write.Write.{Write}
use Rattle.graph_model.specs.declared.journal.TxnName.{TxnName}
use Rattle.graph_model.specs.declared.journal.Begun.{Begun}
use Rattle.graph_model.specs.declared.journal.Commit.{Commit}
use Rattle.graph_model.specs.declared.refusal.Cause.{Cause}
use Rattle.graph_model.specs.declared.refusal.Cause.TheVariants.{Later, Holder}
use Rattle.graph_model.specs.declared.refusal.Refusal.{Refusal}
use Rattle.graph_model.specs.declared.refusal.Refusal.TheVariants as refusals
use Rattle.graph_model.specs.declared.refusal.BeginRefusal.{BeginRefusal}
use Rattle.graph_model.specs.declared.refusal.BeginRefusal.TheVariants as begin_refusals
use Rattle.graph_model.specs.Graph.{Graph}
use Rattle.graph_model.specs.Conflict.{later}
use Rattle.graph_model.specs.Refused.{refused}
use Rattle.graph_model.specs.History.{view}
use Rattle.graph_model.specs.Legal.{IsLegal}
use Rattle.graph_model.specs.Account.{Account}
use Rattle.graph_model.specs.Inserted.{inserts}

-- what the open transaction sees
abbrev pub view_of : Account → ℕ → Graph
view_of account start = view account.kind account.seen start account.own

-- its name
abbrev pub name_of : Account → TxnName
name_of account = record { job = account.job; number = account.begun }

-- more of the journal may have been seen; but for that the account is as `changed` says
pub record GoesOn (old changed new : Account) : Type 0 where
  pub seen : (rest : List Commit) × (new.seen ≡ old.seen ++ rest)
  pub others : new ≡ record changed { seen = new.seen }

-- a call that changes nothing of its pass
abbrev pub ReadsBy : Account → Account → Type 0
ReadsBy old new = GoesOn old old new

-- ---- begin

-- a transaction of the next number, which has written nothing
abbrev pub begun_at : Account → ℕ → Account
begun_at account start =
    record account { start = Some start; own = []; begun = account.begun + 1; made = account.made ++ [] ∷ [] }

-- its start lies between what was seen before and what is seen now
pub record BeginsAt (old : Account) (answer : Begun) (new : Account) : Type 0 where
  pub room : old.begun < old.allowed
  pub by : answer.by ≡ record { job = old.job; number = old.begun + 1 }
  pub from : length old.seen ≤ answer.start
  pub until : answer.start ≤ length new.seen
  pub opened : GoesOn old (begun_at old answer.start) new

-- what `begin` may answer, and what it leaves
abbrev pub BeginsBy : Account → Result Begun BeginRefusal → Account → Type 0
BeginsBy old (Ok answer) new = BeginsAt old answer new
BeginsBy old (Err begin_refusals.TxnsUsed) new = (old.allowed ≤ old.begun) × GoesOn old old new
BeginsBy old (Err begin_refusals.NoMemory) new = GoesOn old old new

-- ---- writes

-- the last list has one write more
abbrev pub last_with : List (List Write) → Write → List (List Write)
last_with [] w = []
last_with (ws ∷ []) w = (ws ++ w ∷ []) ∷ []
last_with (ws ∷ vs ∷ rest) w = ws ∷ last_with (vs ∷ rest) w

-- the open transaction has made one write more
abbrev pub with_write : Account → Write → Account
with_write account w = record account { own = account.own ++ w ∷ []; made = last_with account.made w }

-- an open transaction that was met is noted
abbrev pub with_cause : Account → ℕ → Write → Cause → Account
with_cause account start w (Later stamp) = account
with_cause account start w (Holder by) =
    record account { sighted = account.sighted ++ record { by = by; write = w; start = start } ∷ [] }

-- A cause that is named is a commit that has been seen by now, stands behind the start and clashes with
-- the write, or a transaction of another pass.
abbrev pub IsNamed : Account → ℕ → Write → List Commit → Cause → Type 0
IsNamed account start w seen (Later stamp) = Contains (later account.kind seen start w) stamp
IsNamed account start w seen (Holder by) = by.job ≢ account.job

-- why a write was refused, one line a cause
abbrev pub RefusesBy : Account → ℕ → Write → Refusal → Account → Type 0
RefusesBy old start w refusals.SelfLoop new =
    (refused (view_of old start) w ≡ Some refusals.SelfLoop) × GoesOn old old new
RefusesBy old start w (refusals.NoVertex v) new =
    (refused (view_of old start) w ≡ Some (refusals.NoVertex v)) × GoesOn old old new
RefusesBy old start w refusals.VertexExists new =
    (refused (view_of old start) w ≡ Some refusals.VertexExists) × GoesOn old old new
RefusesBy old start w refusals.EdgeExists new =
    (refused (view_of old start) w ≡ Some refusals.EdgeExists) × GoesOn old old new
RefusesBy old start w refusals.NoEdge new =
    (refused (view_of old start) w ≡ Some refusals.NoEdge) × GoesOn old old new
RefusesBy old start w refusals.HasEdges new =
    (refused (view_of old start) w ≡ Some refusals.HasEdges) × GoesOn old old new
RefusesBy old start w (refusals.Conflict cause) new =
    (refused (view_of old start) w ≡ None) × IsNamed old start w new.seen cause
    × GoesOn old (with_cause old start w cause) new
RefusesBy old start w (refusals.Full leaves) new =
    (refused (view_of old start) w ≡ None) × (inserts w ≡ true) × (leaves ≡ old.leaves)
    × GoesOn old (record old { filled = true }) new
RefusesBy old start w refusals.NoMemory new = GoesOn old old new

-- what a write does where a transaction is open
abbrev pub WritesAt : Account → ℕ → Write → Result (Unit {0}) Refusal → Account → Type 0
WritesAt old start w (Ok u) new = (refused (view_of old start) w ≡ None) × GoesOn old (with_write old w) new
WritesAt old start w (Err e) new = RefusesBy old start w e new

-- what a write may answer, and what it leaves
abbrev pub WritesBy : Account → Write → Result (Unit {0}) Refusal → Account → Type 0
WritesBy old w result new = (start : ℕ) → old.start ≡ Some start → WritesAt old start w result new

-- ---- the end

-- no transaction is open
abbrev pub ended : Account → Account
ended account = record account { start = None; own = [] }

-- the journal has the open transaction's commit at this stamp
pub record HasCommit (old : Account) (start stamp : ℕ) (seen : List Commit) : Type 0 where
  pub wrote : 0 < length old.own
  pub place : ℕ
  pub commit : Commit
  pub at : slice_get seen place ≡ Some commit
  pub stamped : stamp ≡ place + 1
  pub begun : commit.start ≡ start
  pub by : commit.by ≡ name_of old
  pub writes : commit.writes ≡ old.own

-- and its commit was answered the stamp
abbrev pub stamped : Account → ℕ → Account
stamped account stamp = record (ended account) { stamps = account.stamps ++ stamp ∷ [] }

-- a commit without writes has no stamp and isn't in the journal
abbrev pub CommitsBy : Account → Option ℕ → Account → Type 0
CommitsBy old None new = (old.own ≡ []) × GoesOn old (ended old) new
CommitsBy old (Some stamp) new =
    ((start : ℕ) → old.start ≡ Some start → HasCommit old start stamp new.seen) × GoesOn old (stamped old stamp) new

-- an abort leaves nothing open
abbrev pub AbortsBy : Account → Account → Type 0
AbortsBy old new = GoesOn old (ended old) new

-- ---- any call

-- the journal that was seen after it is legal, and the service has had so many turns
pub record IsSteady (account : Account) (turns now : ℕ) : Type 0 where
  pub legal : IsLegal account.kind account.seen
  pub served : now ≡ turns
