-- What a write looks at before it is made, and what it answers.
use Rattle.std.specs.Prelude.{◌≡◌, ℕ, ◌≤◌, Bool, true, false, ◌&&◌, ◌||◌, not, cond, nat_lt, nat_le, List, [], ◌∷◌, ◌++◌, map, take, slice_get, Option, Some, None, is_some}
use Rattle.std.specs.List.{filter, list_any, AllByRecursion}
use Rattle.graph_model.specs.declared.write.Kind.{Kind}
use Rattle.graph_model.specs.declared.write.Write.{Write}
use Rattle.graph_model.specs.declared.write.Write.TheVariants.{AddVertex, DropVertex, AddEdge, SetEdge, DropEdge}
use Rattle.graph_model.specs.declared.row.Key.{Key}
use Rattle.graph_model.specs.declared.journal.Commit.{Commit}
use Rattle.graph_model.specs.declared.journal.TxnName.{TxnName}
use Rattle.graph_model.specs.declared.refusal.Cause.{Cause}
use Rattle.graph_model.specs.declared.refusal.Cause.TheVariants.{Later, Holder}
use Rattle.graph_model.specs.Conflict.{same_name, least_job, greatest, cause_of}
use Rattle.graph_model.specs.Rows.{vertex_key, arc_key}
use Rattle.graph_model.specs.Effects.{same_key, writes_at, touches_at}
use Rattle.graph_model.specs.Transactions.{stamp_in, has_name}
use Rattle.store_model.specs.declared.version.Version.{Version}
use Rattle.store_model.specs.declared.versions.Versions.{Versions}
use Rattle.store_model.specs.Layers.{row_key}

-- the writers of a row's pairs
abbrev pub writers : Versions → List TxnName
writers vs = map (λ p. p.by) vs.pairs

-- the writer of the newest pair
abbrev pub newest : Versions → List TxnName
newest vs = map (λ p. p.by) (take 1 vs.pairs)

abbrev pub no_value : Option ℕ → Bool
no_value value = not (is_some value)

-- the writers of the pairs without value
abbrev pub droppers : Versions → List TxnName
droppers vs = map (λ p. p.by) (filter (λ p. no_value p.value) vs.pairs)

-- The writers that a write looks at: the newest of the row that it writes; where it adds an edge, those
-- that removed an end; where it removes a vertex, those that added an edge there.
abbrev pub looked : Write → (Key → Versions) → List TxnName
looked (AddVertex v) contents = newest (contents (vertex_key v))
looked (DropVertex v) contents = newest (contents (vertex_key v)) ++ (contents (vertex_key v)).touches
looked (AddEdge u v weight) contents =
    newest (contents (arc_key u v)) ++ (droppers (contents (vertex_key u)) ++ droppers (contents (vertex_key v)))
looked (SetEdge u v weight) contents = newest (contents (arc_key u v))
looked (DropEdge u v) contents = newest (contents (arc_key u v))

-- the write removes the vertex of this row
abbrev pub drops_at : Write → Key → Bool
drops_at (AddVertex v) k = false
drops_at (DropVertex v) k = same_key k (vertex_key v)
drops_at (AddEdge u v weight) k = false
drops_at (SetEdge u v weight) k = false
drops_at (DropEdge u v) k = false

-- one of the writes does
abbrev pub any_drops : List Write → Key → Bool
any_drops ws k = list_any (λ w. drops_at w k) ws

-- the same writers, row by row
abbrev pub looks_at : Write → Key → Versions → TxnName → Bool
looks_at w k vs n =
    (same_key k (row_key w) && has_name (newest vs) n)
    || ((touches_at w k && has_name (droppers vs) n) || (drops_at w k && has_name vs.touches n))

-- ---- the check of one owner, who knows which transactions are open

abbrev pub if_above : ℕ → Option ℕ → List ℕ → List ℕ
if_above start None rest = rest
if_above start (Some stamp) rest = cond (nat_lt start stamp) (stamp ∷ rest) rest

-- the commit stamps above the start, of the names that have one
abbrev pub above : (TxnName → Option ℕ) → ℕ → List TxnName → List ℕ
above stamps start [] = []
above stamps start (n ∷ ns) = if_above start (stamps n) (above stamps start ns)

-- of the writers that were looked at: another open one with the least job, else the greatest stamp above
-- the start, else nobody
abbrev pub check : (TxnName → Bool) → (TxnName → Option ℕ) → ℕ → TxnName → List TxnName → Option Cause
check is_live stamps start own names =
    cause_of (least_job (filter (λ n. not (same_name n own) && is_live n) names)) (greatest (above stamps start names))

-- of two answers the one that counts
abbrev pub combine : Option Cause → Option Cause → Option Cause
combine None b = b
combine (Some (Holder x)) None = Some (Holder x)
combine (Some (Holder x)) (Some (Holder y)) = Some (Holder (cond (nat_le x.job y.job) x y))
combine (Some (Holder x)) (Some (Later c)) = Some (Holder x)
combine (Some (Later c)) None = Some (Later c)
combine (Some (Later c)) (Some (Holder y)) = Some (Holder y)
combine (Some (Later c)) (Some (Later d)) = Some (Later (cond (nat_le c d) d c))

-- ---- who stands in a row

-- a commit of the list is by this name, and its writes pass the test
pub record IsCommitted (cs : List Commit) (n : TxnName) (p : List Write → Bool) : Type 0 where
  pub place : ℕ
  pub commit : Commit
  pub at : slice_get cs place ≡ Some commit
  pub named : commit.by ≡ n
  pub wrote : p commit.writes ≡ true

-- one of the names has committed, and with a stamp at least this great
pub record IsReached (cs : List Commit) (names : List TxnName) (least : ℕ) : Type 0 where
  pub name : TxnName
  pub stamp : ℕ
  pub found : has_name names name ≡ true
  pub stamped : stamp_in cs name ≡ Some stamp
  pub late : least ≤ stamp

-- ---- stamps down a row

-- above a pair stands an open writer, or one that committed no earlier
abbrev pub IsNotAbove : Option ℕ → Option ℕ → Type 0
IsNotAbove None below = Unit {0}
IsNotAbove (Some upper) below = (lower : ℕ) × (below ≡ Some lower) × (lower ≤ upper)

-- from the newest pair down the stamps of the writers never rise
abbrev pub NeverRise : (TxnName → Option ℕ) → List Version → Type 0
NeverRise stamps [] = Unit {0}
NeverRise stamps (p ∷ ps) =
    AllByRecursion (λ q. IsNotAbove (stamps p.by) (stamps q.by)) ps × NeverRise stamps ps

-- ---- the check row by row, for whoever knows only whom its snapshot sees

-- the newest pair is of a writer that is seen
abbrev pub IsFree : (TxnName → Bool) → List Version → Type 0
IsFree seen [] = Unit {0}
IsFree seen (p ∷ ps) = seen p.by ≡ true

-- and so are the pairs without value
abbrev pub IsFreeOfDrops : (TxnName → Bool) → List Version → Type 0
IsFreeOfDrops seen ps = AllByRecursion (λ p. p.value ≡ None → seen p.by ≡ true) ps

-- a write may be made as far as one row goes: its newest pair where the write writes it, its pairs
-- without value where the write touches it, and its touches where the write removes the vertex
pub record MayWrite (kind : Kind) (seen : TxnName → Bool) (w : Write) (k : Key) (vs : Versions) : Type 0 where
  pub free : writes_at kind w k ≡ true → IsFree seen vs.pairs
  pub ends : touches_at w k ≡ true → IsFreeOfDrops seen vs.pairs
  pub touches : writes_at kind w k ≡ true → w ≡ DropVertex k.src → AllByRecursion (λ by. seen by ≡ true) vs.touches
