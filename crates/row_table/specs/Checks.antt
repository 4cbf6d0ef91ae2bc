-- Who stands against a write of a row.
use Rattle.std.specs.Prelude.{◌≡◌, ℕ, Bool, true, false, nat_lt, cond, List, [], ◌∷◌, ◌++◌, take, Option, Some, None}
use Rattle.std.specs.List.{AllByRecursion, filter}
use Rattle.std.specs.declared.result.Result.{Result}
use Rattle.std.specs.declared.result.Result.TheVariants.{Ok, Err}
use Rattle.graph_model.specs.declared.row.Key.{Key}
use Rattle.graph_model.specs.declared.journal.TxnName.{TxnName}
use Rattle.graph_model.specs.declared.state.State.{State}
use Rattle.graph_model.specs.declared.state.State.TheVariants.{Live, Committed, Aborted}
use Rattle.graph_model.specs.declared.refusal.Cause.{Cause}
use Rattle.graph_model.specs.declared.refusal.Cause.TheVariants.{Later, Holder}
use Rattle.graph_model.specs.Conflict.{same_name}
use Rattle.store_model.specs.Check.{combine, no_value}
use Rattle.store_model.specs.Stamped.{Stamped, StampedVersions}
use Rattle.head_map.specs.UndoChainDeclared.states.Snapshot.{Snapshot}
use Rattle.head_map.specs.UndoChain.States.{Knowledge, IsAnswer}

-- ---- whom one may ask for

-- the writers of records without a stamp may be asked for
abbrev pub AreNamedIn : (TxnName → Bool) → List Stamped → Type 0
AreNamedIn names ps = AllByRecursion (λ p. p.stamp ≡ None → names p.by ≡ true) ps

pub record IsNamed (names : TxnName → Bool) (versions : StampedVersions) : Type 0 where
  pub pairs : AreNamedIn names versions.pairs
  pub touches : AreNamedIn names versions.touches

abbrev pub AreNamedRows : (TxnName → Bool) → List (Key × StampedVersions) → Type 0
AreNamedRows names rows = AllByRecursion (λ row. IsNamed names row.1) rows

-- ---- one writer

-- another open transaction stands against the write, and one that committed behind the start
abbrev pub blocked : Snapshot → TxnName → State → Option Cause
blocked snapshot by Live = cond (same_name by snapshot.own) None (Some (Holder by))
blocked snapshot by Aborted = None
blocked snapshot by (Committed stamp) = cond (nat_lt snapshot.start stamp) (Some (Later stamp)) None

-- Whoever asks is open itself. A record with a stamp is of a commit; for any other writer the answer is vouched.
abbrev pub IsStateBy : Knowledge → Knowledge → Bool → Option ℕ → TxnName → State → Type 0
IsStateBy old new true stamp by state = state ≡ Live
IsStateBy old new false (Some stamp) by state = state ≡ Committed stamp
IsStateBy old new false None by state = IsAnswer old by state × (new.vouched by state ≡ true)

-- where the writer of a record stands
abbrev pub IsStateOf : Knowledge → Knowledge → TxnName → Stamped → State → Type 0
IsStateOf old new own p state = IsStateBy old new (same_name p.by own) p.stamp p.by state

-- ---- several writers

-- one answer for each record
abbrev pub AreStatesOf : Knowledge → Knowledge → TxnName → List Stamped → List State → Type 0
AreStatesOf old new own [] [] = Unit {0}
AreStatesOf old new own (p ∷ ps) (state ∷ states) = IsStateOf old new own p state × AreStatesOf old new own ps states
AreStatesOf old new own [] (state ∷ states) = ⊥
AreStatesOf old new own (p ∷ ps) [] = ⊥

-- of several writers the one that counts
abbrev pub blocked_by : Snapshot → List Stamped → List State → Option Cause
blocked_by snapshot [] states = None
blocked_by snapshot (p ∷ ps) [] = None
blocked_by snapshot (p ∷ ps) (state ∷ states) = combine (blocked snapshot p.by state) (blocked_by snapshot ps states)

-- what these records say against a write
pub record IsChecked (old new : Knowledge) (snapshot : Snapshot) (ps : List Stamped) (cause : Option Cause)
    : Type 0 where
  pub states : List State
  pub each : AreStatesOf old new snapshot.own ps states
  pub is : cause ≡ blocked_by snapshot ps states

abbrev pub cause_in : {X : Type 0} → Result X Cause → Option Cause
cause_in (Ok x) = None
cause_in (Err cause) = Some cause

-- ---- at whom a write looks

-- at the newest pair of the row that it writes
abbrev pub newest_of : StampedVersions → List Stamped
newest_of versions = take 1 versions.pairs

-- where it removes a vertex, at the touches as well
abbrev pub newest_and_touches : StampedVersions → List Stamped
newest_and_touches versions = take 1 versions.pairs ++ versions.touches

-- where it adds an edge, at those who removed an end
abbrev pub drops_in : List Stamped → List Stamped
drops_in pairs = filter (λ p. no_value p.value) pairs

abbrev pub drops_of : StampedVersions → List Stamped
drops_of versions = drops_in versions.pairs
