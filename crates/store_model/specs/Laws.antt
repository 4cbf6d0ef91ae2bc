-- What a store keeps through each kind of change, and what reads and checks get out of it. Each law is the
-- contract of a function in `laws`; none speaks of a struct.
use Rattle.std.specs.Prelude.{◌≡◌, ◌⊎◌, ℕ, ◌+◌, ◌<◌, ◌≤◌, Bool, true, false, List, [], ◌∷◌, ◌++◌, length, slice_get, slice_set, Option, Some, None, is_some}
use Rattle.std.specs.List.{AllByRecursion}
use mathlib.Core.List.{IsPrefix}
use Rattle.graph_model.specs.declared.write.Kind.{Kind}
use Rattle.graph_model.specs.declared.write.Write.{Write}
use Rattle.graph_model.specs.declared.row.Key.{Key}
use Rattle.graph_model.specs.declared.journal.Commit.{Commit}
use Rattle.graph_model.specs.declared.journal.TxnName.{TxnName}
use Rattle.graph_model.specs.Conflict.{OpenTxn, same_name, meets, conflict}
use Rattle.graph_model.specs.ConflictLaws.{NoLater}
use Rattle.graph_model.specs.Effects.{any_writes, any_touches}
use Rattle.graph_model.specs.History.{graph_at, view}
use Rattle.graph_model.specs.Graph.{empty_graph}
use Rattle.graph_model.specs.Legal.{IsLegal}
use Rattle.graph_model.specs.Refused.{refused, AllAllowed, IsWithinLimits}
use Rattle.graph_model.specs.Rows.{vertex_key, value_at, is_between}
use Rattle.graph_model.specs.Transactions.{Running, Changes, own_of, commit_of, stamp_in, has_name, HasNotCommitted, MeetsNoHolder, IsListed}
use Rattle.store_model.specs.declared.versions.Versions.{Versions}
use Rattle.store_model.specs.Versions.{no_versions, first_seen, sees, read, prune, IsPruned}
use Rattle.store_model.specs.Layers.{row_key, after_write, laid, undone}
use Rattle.store_model.specs.Store.{alone, IsStore, IsPlainStore, MeetsNobody, Lays, TakesBack, Settles}
use Rattle.store_model.specs.Check.{writers, droppers, looked, any_drops, looks_at, check, combine, IsCommitted, IsReached, NeverRise, MayWrite}
use Rattle.store_model.specs.Cells.{Cell, all_cells, contents_in, AreCells}

-- ---- reads

-- At each stamp from the horizon on, a name that has not committed reads the graph there under what it has
-- laid itself.
abbrev pub ValueAtStamp : Type 0
ValueAtStamp =
    (kind : Kind) (journal : List Commit) (running : TxnName → Option Running) (own : TxnName → List Write)
    (touching : TxnName → Key → Bool) (horizon : ℕ) (contents : Key → Versions)
    → IsStore kind journal running own touching horizon contents
    → (s : ℕ) (by : TxnName) (k : Key) → horizon ≤ s → HasNotCommitted journal by
    → read (stamp_in journal) s by (contents k) ≡ value_at (view kind journal s (own by)) k

-- An open transaction reads its view.
abbrev pub ValueOfView : Type 0
ValueOfView =
    (kind : Kind) (journal : List Commit) (running : TxnName → Option Running) (own : TxnName → List Write)
    (touching : TxnName → Key → Bool) (horizon : ℕ) (contents : Key → Versions)
    → IsStore kind journal running own touching horizon contents
    → (by : TxnName) (t : Running) → running by ≡ Some t → (k : Key)
    → read (stamp_in journal) t.start by (contents k) ≡ value_at (view kind journal t.start t.writes) k

-- Where nothing is laid beside the journal, the newest value of each row is the newest graph's.
abbrev pub ValueAtEnd : Type 0
ValueAtEnd =
    (kind : Kind) (journal : List Commit) (running : TxnName → Option Running) (own : TxnName → List Write)
    (touching : TxnName → Key → Bool) (horizon : ℕ) (contents : Key → Versions)
    → IsStore kind journal running own touching horizon contents
    → ((by : TxnName) → own by ≡ []) → (k : Key)
    → first_seen (λ by. true) (contents k).pairs (contents k).oldest
    ≡ value_at (graph_at kind journal (length journal)) k

-- ---- begun

-- A store without rows holds the empty journal.
abbrev pub StoreNew : Type 0
StoreNew =
    (kind : Kind) → IsPlainStore kind [] (λ by. None) 0 (λ k. no_versions)

-- A transaction begins at the newest stamp, under a name that has no commit and nothing laid.
abbrev pub StoreBegun : Type 0
StoreBegun =
    (kind : Kind) (journal : List Commit) (running : TxnName → Option Running) (own : TxnName → List Write)
    (touching : TxnName → Key → Bool) (horizon : ℕ) (contents : Key → Versions)
    → IsStore kind journal running own touching horizon contents
    → (by : TxnName) (running' : TxnName → Option Running)
    → Changes by running running' (Some (record { start = length journal; writes = [] }))
    → own by ≡ [] → ((k : Key) → touching by k ≡ false) → HasNotCommitted journal by
    → IsStore kind journal running' own touching horizon contents

-- The same for one owner, where nothing is laid of a name that isn't open.
abbrev pub OwnerBegun : Type 0
OwnerBegun =
    (kind : Kind) (journal : List Commit) (running : TxnName → Option Running) (horizon : ℕ) (contents : Key → Versions)
    → IsPlainStore kind journal running horizon contents
    → (by : TxnName) (running' : TxnName → Option Running)
    → Changes by running running' (Some (record { start = length journal; writes = [] }))
    → running by ≡ None → HasNotCommitted journal by
    → IsPlainStore kind journal running' horizon contents

-- An open transaction stops: it can't commit any more, and what it has laid stands.
abbrev pub StoreStopped : Type 0
StoreStopped =
    (kind : Kind) (journal : List Commit) (running : TxnName → Option Running) (own : TxnName → List Write)
    (touching : TxnName → Key → Bool) (horizon : ℕ) (contents : Key → Versions)
    → IsStore kind journal running own touching horizon contents
    → (by : TxnName) (running' : TxnName → Option Running) → Changes by running running' None
    → IsStore kind journal running' own touching horizon contents

-- ---- written

-- An open transaction lays a write of any kind that its view allows and that meets nobody.
abbrev pub StoreWritten : Type 0
StoreWritten =
    (kind : Kind) (journal : List Commit) (running : TxnName → Option Running) (own : TxnName → List Write)
    (touching : TxnName → Key → Bool) (horizon : ℕ) (contents : Key → Versions)
    → IsStore kind journal running own touching horizon contents
    → (by : TxnName) (running' : TxnName → Option Running) (t : Running) → running by ≡ Some t
    → (own' : TxnName → List Write) (touching' : TxnName → Key → Bool) (w : Write) (contents' : Key → Versions)
    → Changes by running running' (Some (record { start = t.start; writes = t.writes ++ w ∷ [] }))
    → refused (view kind journal t.start t.writes) w ≡ None → IsWithinLimits w
    → MeetsNobody kind journal running own by t.start w
    → Lays kind by w own own' touching touching' contents contents'
    → IsStore kind journal running' own' touching' horizon contents'

-- The same for one owner: no other open transaction has laid its row where none clashes.
abbrev pub OwnerWritten : Type 0
OwnerWritten =
    (kind : Kind) (journal : List Commit) (running : TxnName → Option Running) (horizon : ℕ) (contents : Key → Versions)
    → IsPlainStore kind journal running horizon contents
    → (by : TxnName) (t : Running) → running by ≡ Some t
    → (w : Write) (running' : TxnName → Option Running) (contents' : Key → Versions)
    → Changes by running running' (Some (record { start = t.start; writes = t.writes ++ w ∷ [] }))
    → refused (view kind journal t.start t.writes) w ≡ None → IsWithinLimits w
    → MeetsNoHolder kind running by w → NoLater kind journal t.start w
    → ((k : Key) → contents' k ≡ after_write kind by w k (contents k))
    → IsPlainStore kind journal running' horizon contents'

-- Before the first commit, one transaction lays writes that the empty graph allows one behind the other.
abbrev pub OwnerLoaded : Type 0
OwnerLoaded =
    (kind : Kind) (by : TxnName) (load : List Write)
    → AllAllowed kind empty_graph load → AllByRecursion IsWithinLimits load
    → IsPlainStore kind [] (alone by load) 0 (λ k. laid kind by load k no_versions)

-- ---- committed

-- An open transaction commits what it wrote, and no row changes.
abbrev pub StoreCommitted : Type 0
StoreCommitted =
    (kind : Kind) (journal : List Commit) (running : TxnName → Option Running) (own : TxnName → List Write)
    (touching : TxnName → Key → Bool) (horizon : ℕ) (contents : Key → Versions)
    → IsStore kind journal running own touching horizon contents
    → (by : TxnName) (running' : TxnName → Option Running) (t : Running) → running by ≡ Some t
    → (own' : TxnName → List Write) (touching' : TxnName → Key → Bool)
    → Changes by running running' None → 0 < length t.writes
    → Settles by own own' touching touching'
    → IsStore kind (journal ++ commit_of journal by t ∷ []) running' own' touching' horizon contents

-- The same for one owner.
abbrev pub OwnerCommitted : Type 0
OwnerCommitted =
    (kind : Kind) (journal : List Commit) (running : TxnName → Option Running) (horizon : ℕ) (contents : Key → Versions)
    → IsPlainStore kind journal running horizon contents
    → (by : TxnName) (t : Running) → running by ≡ Some t
    → (running' : TxnName → Option Running) → Changes by running running' None → 0 < length t.writes
    → IsPlainStore kind (journal ++ commit_of journal by t ∷ []) running' horizon contents

-- ---- undone

-- Whoever can't commit takes its newest write back.
abbrev pub StoreUndone : Type 0
StoreUndone =
    (kind : Kind) (journal : List Commit) (running : TxnName → Option Running) (own : TxnName → List Write)
    (touching : TxnName → Key → Bool) (horizon : ℕ) (contents : Key → Versions)
    → IsStore kind journal running own touching horizon contents
    → (by : TxnName) → running by ≡ None
    → (w : Write) (own' : TxnName → List Write) (touching' : TxnName → Key → Bool) (contents' : Key → Versions)
    → TakesBack kind by w own own' touching touching' contents contents'
    → IsStore kind journal running own' touching' horizon contents'

-- One owner takes back all writes of an open transaction, the newest first; one without writes just ends.
abbrev pub OwnerAborted : Type 0
OwnerAborted =
    (kind : Kind) (journal : List Commit) (running : TxnName → Option Running) (horizon : ℕ) (contents : Key → Versions)
    → IsPlainStore kind journal running horizon contents
    → (by : TxnName) (t : Running) → running by ≡ Some t
    → (running' : TxnName → Option Running) (contents' : Key → Versions) → Changes by running running' None
    → ((k : Key) → contents' k ≡ undone kind by t.writes k (contents k))
    → IsPlainStore kind journal running' horizon contents'

-- ---- pruned

-- Any of the rows are pruned at a stamp up to the new horizon, which is above no start of an open transaction.
abbrev pub StorePruned : Type 0
StorePruned =
    (kind : Kind) (journal : List Commit) (running : TxnName → Option Running) (own : TxnName → List Write)
    (touching : TxnName → Key → Bool) (horizon : ℕ) (contents : Key → Versions)
    → IsStore kind journal running own touching horizon contents
    → (at horizon' : ℕ) (contents' : Key → Versions)
    → at ≤ horizon' → horizon ≤ horizon' → horizon' ≤ length journal
    → ((by : TxnName) (t : Running) → running by ≡ Some t → horizon' ≤ t.start)
    → ((k : Key) → IsPruned (stamp_in journal) at (contents k) (contents' k))
    → IsStore kind journal running own touching horizon' contents'

-- Where nothing is laid beside the journal, a row that is pruned at the newest stamp is the newest graph's
-- value alone.
abbrev pub RowSettled : Type 0
RowSettled =
    (kind : Kind) (journal : List Commit) (running : TxnName → Option Running) (own : TxnName → List Write)
    (touching : TxnName → Key → Bool) (horizon : ℕ) (contents : Key → Versions)
    → IsStore kind journal running own touching horizon contents
    → ((by : TxnName) → own by ≡ []) → ((by : TxnName) (k : Key) → touching by k ≡ false) → (k : Key)
    → prune (stamp_in journal) (length journal) (contents k)
    ≡ record { pairs = []; oldest = value_at (graph_at kind journal (length journal)) k; touches = [] }

-- ---- moved

-- Nothing changes but how one says what is laid, and where the rows lie.
abbrev pub StoreSame : Type 0
StoreSame =
    (kind : Kind) (journal : List Commit) (running : TxnName → Option Running) (own : TxnName → List Write)
    (touching : TxnName → Key → Bool) (horizon : ℕ) (contents : Key → Versions)
    → IsStore kind journal running own touching horizon contents
    → (own' : TxnName → List Write) (touching' : TxnName → Key → Bool) (contents' : Key → Versions)
    → ((q : TxnName) → own' q ≡ own q) → ((q : TxnName) (k : Key) → touching' q k ≡ touching q k)
    → ((k : Key) → contents' k ≡ contents k)
    → IsStore kind journal running own' touching' horizon contents'

-- The rows of one owner change their places.
abbrev pub OwnerMoved : Type 0
OwnerMoved =
    (kind : Kind) (journal : List Commit) (running : TxnName → Option Running) (horizon : ℕ) (contents : Key → Versions)
    → IsPlainStore kind journal running horizon contents
    → (contents' : Key → Versions) → ((k : Key) → contents' k ≡ contents k)
    → IsPlainStore kind journal running horizon contents'

-- ---- who stands in a row

-- The writer of a pair has laid a write of the row, or has committed one.
abbrev pub WriterOfPair : Type 0
WriterOfPair =
    (kind : Kind) (journal : List Commit) (running : TxnName → Option Running) (own : TxnName → List Write)
    (touching : TxnName → Key → Bool) (horizon : ℕ) (contents : Key → Versions)
    → IsStore kind journal running own touching horizon contents
    → (n : TxnName) (k : Key) → has_name (writers (contents k)) n ≡ true
    → (any_writes kind (own n) k ≡ true) ⊎ IsCommitted journal n (λ ws. any_writes kind ws k)

-- Whoever has a touch touches the row, or has committed a write that does.
abbrev pub WriterOfTouch : Type 0
WriterOfTouch =
    (kind : Kind) (journal : List Commit) (running : TxnName → Option Running) (own : TxnName → List Write)
    (touching : TxnName → Key → Bool) (horizon : ℕ) (contents : Key → Versions)
    → IsStore kind journal running own touching horizon contents
    → (n : TxnName) (k : Key) → has_name (contents k).touches n ≡ true
    → (touching n k ≡ true) ⊎ IsCommitted journal n (λ ws. any_touches ws k)

-- A write looks at one that has not committed exactly where it clashes with what that one has laid.
abbrev pub LookedOpen : Type 0
LookedOpen =
    (kind : Kind) (journal : List Commit) (running : TxnName → Option Running) (own : TxnName → List Write)
    (touching : TxnName → Key → Bool) (horizon : ℕ) (contents : Key → Versions)
    → IsStore kind journal running own touching horizon contents
    → (n : TxnName) → HasNotCommitted journal n → ((k : Key) → touching n k ≡ any_touches (own n) k)
    → (w : Write) → has_name (looked w contents) n ≡ meets kind w (own n)

-- One at which a write looks, and who has nothing laid beside its commit, has committed a clashing write.
abbrev pub LookedCommitted : Type 0
LookedCommitted =
    (kind : Kind) (journal : List Commit) (running : TxnName → Option Running) (own : TxnName → List Write)
    (touching : TxnName → Key → Bool) (horizon : ℕ) (contents : Key → Versions)
    → IsStore kind journal running own touching horizon contents
    → (n : TxnName) → own n ≡ [] → ((k : Key) → touching n k ≡ false)
    → (w : Write) → has_name (looked w contents) n ≡ true → IsCommitted journal n (meets kind w)

-- Where a commit behind the start clashes, a write looks at a commit at least as late.
abbrev pub LookedLate : Type 0
LookedLate =
    (kind : Kind) (journal : List Commit) (running : TxnName → Option Running) (own : TxnName → List Write)
    (touching : TxnName → Key → Bool) (horizon : ℕ) (contents : Key → Versions)
    → IsStore kind journal running own touching horizon contents
    → (by : TxnName) (t : Running) → running by ≡ Some t → (w : Write)
    → ((n : TxnName) → same_name n by ≡ false → any_writes kind (own n) (row_key w) ≡ false)
    → (i : ℕ) (d : Commit) → slice_get journal i ≡ Some d → t.start < d.stamp → meets kind w d.writes ≡ true
    → IsReached journal (looked w contents) d.stamp

-- Whoever a write looks at has laid a write that clashes, or has committed one. An abort may have taken some of
-- its writes back: `ws` are all that it made.
abbrev pub LookedLaid : Type 0
LookedLaid =
    (kind : Kind) (journal : List Commit) (running : TxnName → Option Running) (own : TxnName → List Write)
    (touching : TxnName → Key → Bool) (horizon : ℕ) (contents : Key → Versions)
    → IsStore kind journal running own touching horizon contents
    → (n : TxnName) (ws : List Write) → IsPrefix (own n) ws
    → ((k : Key) → touching n k ≡ true → any_touches ws k ≡ true)
    → (w : Write) → has_name (looked w contents) n ≡ true
    → (meets kind w ws ≡ true) ⊎ IsCommitted journal n (meets kind w)

-- At whom a write looks in one row, it looks.
abbrev pub LookedInRow : Type 0
LookedInRow =
    (w : Write) (contents : Key → Versions) (k : Key) (n : TxnName)
    → looks_at w k (contents k) n ≡ true → has_name (looked w contents) n ≡ true

-- A pair without value in the row of a vertex is of one who removed it, and who has laid or committed that.
abbrev pub DroppedVertex : Type 0
DroppedVertex =
    (kind : Kind) (journal : List Commit) (running : TxnName → Option Running) (own : TxnName → List Write)
    (touching : TxnName → Key → Bool) (horizon : ℕ) (contents : Key → Versions)
    → IsStore kind journal running own touching horizon contents
    → (n : TxnName) (v : ℕ) → has_name (droppers (contents (vertex_key v))) n ≡ true
    → (any_drops (own n) (vertex_key v) ≡ true) ⊎ IsCommitted journal n (λ ws. any_drops ws (vertex_key v))

-- In a legal journal a stamp is the place of a commit, counted from 1: whoever has one has that commit.
abbrev pub StampIsPlace : Type 0
StampIsPlace =
    (kind : Kind) (journal : List Commit) → IsLegal kind journal
    → (by : TxnName) (stamp : ℕ) → stamp_in journal by ≡ Some stamp
    → (i : ℕ) × (c : Commit) × (slice_get journal i ≡ Some c) × (c.by ≡ by) × (stamp ≡ i + 1)
    × (stamp ≤ length journal)

-- The stamps of a row's writers never rise from the newest pair down, and open writers stand on top.
abbrev pub StampsNeverRise : Type 0
StampsNeverRise =
    (kind : Kind) (journal : List Commit) (running : TxnName → Option Running) (own : TxnName → List Write)
    (touching : TxnName → Key → Bool) (horizon : ℕ) (contents : Key → Versions)
    → IsStore kind journal running own touching horizon contents
    → (k : Key) → NeverRise (stamp_in journal) (contents k).pairs

-- ---- the check

-- The check of one owner answers the cause of a conflict, by the definition over all open transactions and
-- the journal.
abbrev pub CheckIsConflict : Type 0
CheckIsConflict =
    (kind : Kind) (journal : List Commit) (running : TxnName → Option Running) (horizon : ℕ) (contents : Key → Versions)
    → IsPlainStore kind journal running horizon contents
    → (by : TxnName) (t : Running) → running by ≡ Some t → (w : Write)
    → (txns : List OpenTxn) → IsListed txns running
    → check (λ n. is_some (running n)) (stamp_in journal) t.start by (looked w contents)
    ≡ conflict kind journal txns by t.start w

-- Where it answers none, the write meets nobody.
abbrev pub CheckAllows : Type 0
CheckAllows =
    (kind : Kind) (journal : List Commit) (running : TxnName → Option Running) (horizon : ℕ) (contents : Key → Versions)
    → IsPlainStore kind journal running horizon contents
    → (by : TxnName) (t : Running) → running by ≡ Some t → (w : Write)
    → check (λ n. is_some (running n)) (stamp_in journal) t.start by (looked w contents) ≡ None
    → MeetsNobody kind journal running (own_of running) by t.start w

-- The answer for two lists of names is the one of their answers that counts.
abbrev pub CheckByParts : Type 0
CheckByParts =
    (is_live : TxnName → Bool) (stamps : TxnName → Option ℕ) (start : ℕ) (own : TxnName) (xs ys : List TxnName)
    → check is_live stamps start own (xs ++ ys)
    ≡ combine (check is_live stamps start own xs) (check is_live stamps start own ys)

-- Whoever reads rows and doesn't know who is open: where a write looks at none but writers that its snapshot
-- sees, it meets nobody.
abbrev pub SeenAllows : Type 0
SeenAllows =
    (kind : Kind) (journal : List Commit) (running : TxnName → Option Running) (own : TxnName → List Write)
    (touching : TxnName → Key → Bool) (horizon : ℕ) (contents : Key → Versions)
    → IsStore kind journal running own touching horizon contents
    → (by : TxnName) (t : Running) → running by ≡ Some t → (w : Write)
    → ((n : TxnName) → has_name (looked w contents) n ≡ true → sees (stamp_in journal) t.start by n ≡ true)
    → MeetsNobody kind journal running own by t.start w

-- And it looks at none but these where each row may be written.
abbrev pub SeenByRow : Type 0
SeenByRow =
    (kind : Kind) (seen : TxnName → Bool) (w : Write) (contents : Key → Versions)
    → ((k : Key) → MayWrite kind seen w k (contents k))
    → (n : TxnName) → has_name (looked w contents) n ≡ true → seen n ≡ true

-- ---- cells

-- The versions of a key are those in the cell whose fence keys hold it.
abbrev pub ContentsRouted : Type 0
ContentsRouted =
    (cells : List Cell) → AreCells cells
    → (q : Key) (i : ℕ) (c : Cell) → slice_get cells i ≡ Some c → is_between c.low c.high q ≡ true
    → contents_in (all_cells cells) q ≡ contents_in c.rows q

-- A change of one cell, which leaves its fence keys, changes the contents within them as it says, and none
-- beside.
abbrev pub CellChanged : Type 0
CellChanged =
    (cells : List Cell) → AreCells cells
    → (i : ℕ) (c d : Cell) → slice_get cells i ≡ Some c → AreCells (slice_set cells i d)
    → slice_get (slice_set cells i d) i ≡ Some d → d.low ≡ c.low → d.high ≡ c.high
    → (f : Key → Versions → Versions)
    → ((q : Key) → is_between c.low c.high q ≡ true → contents_in d.rows q ≡ f q (contents_in c.rows q))
    → ((q : Key) (vs : Versions) → is_between c.low c.high q ≡ false → f q vs ≡ vs)
    → (q : Key) → contents_in (all_cells (slice_set cells i d)) q ≡ f q (contents_in (all_cells cells) q)
