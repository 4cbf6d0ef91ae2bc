-- Laws of conflicts: who or what a refused writer has met. Each is the contract of a function in `laws`.
use Rattle.std.specs.Prelude.{◌≡◌, ◌↔◌, ℕ, ◌<◌, ◌≤◌, true, false, List, slice_get, Some, None}
use Rattle.graph_model.specs.declared.write.Kind.{Kind}
use Rattle.graph_model.specs.declared.write.Write.{Write}
use Rattle.graph_model.specs.declared.journal.Commit.{Commit}
use Rattle.graph_model.specs.declared.journal.TxnName.{TxnName}
use Rattle.graph_model.specs.declared.refusal.Cause.TheVariants.{Later, Holder}
use Rattle.graph_model.specs.Conflict.{meets, OpenTxn, same_name, conflict}

-- no other open transaction has made a write that clashes
abbrev pub NoHolder : Kind → List OpenTxn → TxnName → Write → Type 0
NoHolder kind txns by w = (i : ℕ) (t : OpenTxn) → slice_get txns i ≡ Some t → same_name t.by by ≡ false
    → meets kind w t.writes ≡ false

-- no later commit has one
abbrev pub NoLater : Kind → List Commit → ℕ → Write → Type 0
NoLater kind journal start w = (i : ℕ) (c : Commit) → slice_get journal i ≡ Some c → start < c.stamp
    → meets kind w c.writes ≡ false

-- another open transaction has made a write that clashes
pub record IsHolder (kind : Kind) (txns : List OpenTxn) (by : TxnName) (w : Write) (t : OpenTxn)
    : Type 0 where
  pub listed : (i : ℕ) × (slice_get txns i ≡ Some t)
  pub other : same_name t.by by ≡ false
  pub met : meets kind w t.writes ≡ true

-- a commit is later than the start, and has a write that clashes
pub record IsLater (kind : Kind) (journal : List Commit) (start : ℕ) (w : Write) (c : Commit) : Type 0 where
  pub listed : (i : ℕ) × (slice_get journal i ≡ Some c)
  pub after : start < c.stamp
  pub met : meets kind w c.writes ≡ true

-- a write has no conflict exactly where it clashes with no other open transaction and no later commit
abbrev pub NoConflict : Type 0
NoConflict =
    (kind : Kind) (journal : List Commit) (txns : List OpenTxn) (by : TxnName) (start : ℕ) (w : Write)
    → (conflict kind journal txns by start w ≡ None)
    ↔ (NoHolder kind txns by w × NoLater kind journal start w)

-- an open transaction that is named is one of those that clash, and none of them has a lesser job
abbrev pub NamesLeastJob : Type 0
NamesLeastJob =
    (kind : Kind) (journal : List Commit) (txns : List OpenTxn) (by : TxnName) (start : ℕ) (w : Write)
    (name : TxnName)
    → conflict kind journal txns by start w ≡ Some (Holder name)
    → ((t : OpenTxn) × IsHolder kind txns by w t × (t.by ≡ name))
    × ((t : OpenTxn) → IsHolder kind txns by w t → name.job ≤ t.by.job)

-- a commit that is named is the newest of those that clash, and no other open transaction does
abbrev pub NamesNewest : Type 0
NamesNewest =
    (kind : Kind) (journal : List Commit) (txns : List OpenTxn) (by : TxnName) (start : ℕ) (w : Write)
    (stamp : ℕ)
    → conflict kind journal txns by start w ≡ Some (Later stamp)
    → NoHolder kind txns by w
    × ((c : Commit) × IsLater kind journal start w c × (c.stamp ≡ stamp))
    × ((c : Commit) → IsLater kind journal start w c → c.stamp ≤ stamp)
