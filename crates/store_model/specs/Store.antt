-- The store relation: rows of versions hold the journal's graphs, and on them what open transactions wrote.
use Rattle.std.specs.Prelude.{◌≡◌, ℕ, ◌≤◌, Bool, true, false, ◌&&◌, ◌||◌, cond, List, [], ◌∷◌, ◌++◌, drop, slice_get, Option, Some, None}
use Rattle.graph_model.specs.declared.write.Kind.{Kind}
use Rattle.graph_model.specs.declared.write.Write.{Write}
use Rattle.graph_model.specs.declared.row.Key.{Key}
use Rattle.graph_model.specs.declared.journal.Commit.{Commit}
use Rattle.graph_model.specs.declared.journal.TxnName.{TxnName}
use Rattle.graph_model.specs.Conflict.{same_name}
use Rattle.graph_model.specs.Rows.{value_at}
use Rattle.graph_model.specs.ConflictLaws.{NoLater}
use Rattle.graph_model.specs.History.{graph_at}
use Rattle.graph_model.specs.Effects.{touches_at, any_writes, any_touches}
use Rattle.graph_model.specs.Transactions.{Running, own_of, has_name, MeetsNoHolder, AreTransactions}
use Rattle.store_model.specs.declared.versions.Versions.{Versions}
use Rattle.store_model.specs.Layers.{row_key, after_write, before_write, layered, layered_all, touched_in}

-- ---- rows

-- What a row holds. The commits behind `cut` have laid their pairs on the row's value at that stamp, and
-- on these lie the pairs of at most one transaction more, the keeper (any name where there is none). The
-- touches are those of the commits behind `since`, and of whoever has touched the row and not committed.
pub record IsRow (kind : Kind) (journal : List Commit)
    (own : TxnName → List Write) (touching : TxnName → Key → Bool)
    (k : Key) (cut since : ℕ) (keeper : TxnName) (vs : Versions) : Type 0 where
  pub only : (by : TxnName) → any_writes kind (own by) k ≡ true → by ≡ keeper
  pub pairs : vs.pairs ≡ layered kind k keeper (own keeper) (layered_all kind k (drop cut journal) [])
  pub oldest : vs.oldest ≡ value_at (graph_at kind journal cut) k
  pub touched : (by : TxnName) → has_name vs.touches by ≡ (touching by k || touched_in (drop since journal) by k)

-- the versions are a row's that was cut at stamps up to the horizon
pub record HasRow (kind : Kind) (journal : List Commit)
    (own : TxnName → List Write) (touching : TxnName → Key → Bool)
    (horizon : ℕ) (k : Key) (vs : Versions) : Type 0 where
  pub cut : ℕ
  pub since : ℕ
  pub keeper : TxnName
  pub below : cut ≤ horizon
  pub below_since : since ≤ horizon
  pub row : IsRow kind journal own touching k cut since keeper vs

-- Contents are a function of keys; a key that has no row has `no_versions`. `own` gives the writes that a
-- transaction has laid in rows beside its commit, `touching` where its touches stand.
abbrev pub Holds : Kind → List Commit → (TxnName → List Write) → (TxnName → Key → Bool) → ℕ → (Key → Versions) → Type 0
Holds kind journal own touching horizon contents =
    (k : Key) → HasRow kind journal own touching horizon k (contents k)

-- ---- the store

-- THE STORE RELATION: the rows hold what was laid in them. Whoever may still commit (`running`) has laid
-- all of its writes, an abort what is left of its own, and whoever has committed nothing besides.
pub record IsStore (kind : Kind) (journal : List Commit) (running : TxnName → Option Running)
    (own : TxnName → List Write) (touching : TxnName → Key → Bool)
    (horizon : ℕ) (contents : Key → Versions) : Type 0 where
  pub transactions : AreTransactions kind journal running horizon
  pub rows : Holds kind journal own touching horizon contents
  pub laid : (by : TxnName) (t : Running) → running by ≡ Some t → own by ≡ t.writes
  pub marked : (by : TxnName) (t : Running) → running by ≡ Some t
      → (k : Key) → touching by k ≡ any_touches t.writes k
  pub settled : (i : ℕ) (c : Commit) → slice_get journal i ≡ Some c
      → (own c.by ≡ []) × ((k : Key) → touching c.by k ≡ false)

-- where the writes of each open transaction touch
abbrev pub touching_of : (TxnName → Option Running) → TxnName → Key → Bool
touching_of running by k = any_touches (own_of running by) k

-- one transaction is open that began on the empty journal, and no other is
abbrev pub alone : TxnName → List Write → TxnName → Option Running
alone by writes q = cond (same_name q by) (Some (record { start = 0; writes = writes })) None

-- the store of one owner: between its calls nothing is laid but the writes of open transactions
abbrev pub IsPlainStore : Kind → List Commit → (TxnName → Option Running) → ℕ → (Key → Versions) → Type 0
IsPlainStore kind journal running horizon contents =
    IsStore kind journal running (own_of running) (touching_of running) horizon contents

-- ---- what changes in it

-- nobody stands against a write: no other transaction has laid its row, and it clashes with no open
-- transaction and no later commit
pub record MeetsNobody (kind : Kind) (journal : List Commit) (running : TxnName → Option Running)
    (own : TxnName → List Write) (by : TxnName) (start : ℕ) (w : Write) : Type 0 where
  pub clear : (q : TxnName) → same_name q by ≡ false → any_writes kind (own q) (row_key w) ≡ false
  pub holder : MeetsNoHolder kind running by w
  pub later : NoLater kind journal start w

-- a transaction lays one write more
pub record Lays (kind : Kind) (by : TxnName) (w : Write)
    (own own' : TxnName → List Write) (touching touching' : TxnName → Key → Bool)
    (contents contents' : Key → Versions) : Type 0 where
  pub mine : own' by ≡ own by ++ w ∷ []
  pub others : (q : TxnName) → same_name q by ≡ false → own' q ≡ own q
  pub touches : (q : TxnName) (k : Key) → touching' q k ≡ ((same_name q by && touches_at w k) || touching q k)
  pub rows : (k : Key) → contents' k ≡ after_write kind by w k (contents k)

-- a transaction takes its newest write back, and the touches of that write with it
pub record TakesBack (kind : Kind) (by : TxnName) (w : Write)
    (own own' : TxnName → List Write) (touching touching' : TxnName → Key → Bool)
    (contents contents' : Key → Versions) : Type 0 where
  pub mine : own by ≡ own' by ++ w ∷ []
  pub others : (q : TxnName) → same_name q by ≡ false → own' q ≡ own q
  pub touches : (q : TxnName) (k : Key)
      → touching' q k ≡ cond (same_name q by && touches_at w k) false (touching q k)
  pub rows : (k : Key) → contents' k ≡ before_write kind by w k (contents k)

-- what a transaction has laid is the journal's from now on
pub record Settles (by : TxnName)
    (own own' : TxnName → List Write) (touching touching' : TxnName → Key → Bool) : Type 0 where
  pub mine : own' by ≡ []
  pub others : (q : TxnName) → same_name q by ≡ false → own' q ≡ own q
  pub touches : (q : TxnName) (k : Key) → touching' q k ≡ cond (same_name q by) false (touching q k)
