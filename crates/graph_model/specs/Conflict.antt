-- What a refused writer may have met: later commits, or another open transaction.
use Rattle.std.specs.Prelude.{ℕ, Bool, ◌==◌, ◌&&◌, not, cond, nat_lt, nat_le, List, [], ◌∷◌, map, Option, Some, None}
use Rattle.std.specs.List.{filter, list_any}
use Rattle.graph_model.specs.declared.write.Kind.{Kind}
use Rattle.graph_model.specs.declared.write.Write.{Write}
use Rattle.graph_model.specs.declared.journal.TxnName.{TxnName}
use Rattle.graph_model.specs.declared.journal.Commit.{Commit}
use Rattle.graph_model.specs.declared.refusal.Cause.{Cause}
use Rattle.graph_model.specs.declared.refusal.Cause.TheVariants.{Later, Holder}
use Rattle.graph_model.specs.Items.{clash}

-- one of the writes clashes with w
abbrev pub meets : Kind → Write → List Write → Bool
meets kind w writes = list_any (clash kind w) writes

-- the stamps above the start whose commits hold a write that clashes with w
abbrev pub later : Kind → List Commit → ℕ → Write → List ℕ
later kind journal start w =
    map (λ c. c.stamp) (filter (λ c. nat_lt start c.stamp && meets kind w c.writes) journal)

-- a transaction that has begun and not ended, with its writes so far
pub record OpenTxn : Type 0 where
  pub by : TxnName
  pub writes : List Write

-- one transaction
abbrev pub same_name : TxnName → TxnName → Bool
same_name a b = (a.job == b.job) && (a.number == b.number)

-- of a name and the least of the others
abbrev pub with_lesser_job : TxnName → Option TxnName → TxnName
with_lesser_job a None = a
with_lesser_job a (Some b) = cond (nat_le a.job b.job) a b

-- the name with the least job, or none
abbrev pub least_job : List TxnName → Option TxnName
least_job [] = None
least_job (name ∷ names) = Some (with_lesser_job name (least_job names))

-- of the open transactions other than by that hold a write that clashes with w, the one with the least job
abbrev pub holder : Kind → List OpenTxn → TxnName → Write → Option TxnName
holder kind txns by w =
    least_job (map (λ t. t.by) (filter (λ t. not (same_name t.by by) && meets kind w t.writes) txns))

-- of a number and the greatest of the others
abbrev pub with_greater : ℕ → Option ℕ → ℕ
with_greater a None = a
with_greater a (Some b) = cond (nat_le a b) b a

-- the greatest of the numbers, or none
abbrev pub greatest : List ℕ → Option ℕ
greatest [] = None
greatest (x ∷ xs) = Some (with_greater x (greatest xs))

-- the stamp of the newest of the later commits that clash with w
abbrev pub newest_later : Kind → List Commit → ℕ → Write → Option ℕ
newest_later kind journal start w = greatest (later kind journal start w)

-- of the two an open transaction is named before a later commit
abbrev pub cause_of : Option TxnName → Option ℕ → Option Cause
cause_of (Some by) stamp = Some (Holder by)
cause_of None (Some stamp) = Some (Later stamp)
cause_of None None = None

-- the cause of a conflict: why snapshot isolation doesn't let by, which began at start, make the write
abbrev pub conflict : Kind → List Commit → List OpenTxn → TxnName → ℕ → Write → Option Cause
conflict kind journal txns by start w = cause_of (holder kind txns by w) (newest_later kind journal start w)
