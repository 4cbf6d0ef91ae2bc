-- Worked examples, with values reckoned by hand: an arc with two writers, prunes, checks, a store.
use Rattle.std.specs.Prelude.{◌≡◌, ℕ, cond, List, [], ◌∷◌, Option, Some, None}
use Rattle.graph_model.specs.declared.write.Kind.TheVariants.{Directed, Undirected}
use Rattle.graph_model.specs.declared.write.Write.{Write}
use Rattle.graph_model.specs.declared.write.Write.TheVariants.{AddVertex, DropVertex, AddEdge, SetEdge, DropEdge}
use Rattle.graph_model.specs.declared.row.Key.{Key}
use Rattle.graph_model.specs.declared.journal.Commit.{Commit}
use Rattle.graph_model.specs.declared.journal.TxnName.{TxnName}
use Rattle.graph_model.specs.declared.refusal.Cause.{Cause}
use Rattle.graph_model.specs.declared.refusal.Cause.TheVariants.{Later, Holder}
use Rattle.graph_model.specs.Conflict.{same_name}
use Rattle.graph_model.specs.Effects.{same_key}
use Rattle.graph_model.specs.Rows.{vertex_key, arc_key}
use Rattle.graph_model.specs.Transactions.{Running, stamp_in}
use Rattle.store_model.specs.declared.version.Version.{Version}
use Rattle.store_model.specs.declared.versions.Versions.{Versions}
use Rattle.store_model.specs.Versions.{no_versions, read, prune}
use Rattle.store_model.specs.Layers.{after_write, undone, layered_all}
use Rattle.store_model.specs.Store.{IsPlainStore}
use Rattle.store_model.specs.Check.{looked, check, combine}
use Rattle.store_model.specs.Cells.{Cell, all_cells, contents_in}
use Rattle.store_model.specs.Stamped.{StampedVersions, read_stamped, stamp}

-- the names of the load, of a transaction that has committed on it, of one that is open, and of a fourth
abbrev pub load : TxnName
load = record { job = 0; number = 1 }

abbrev pub setter : TxnName
setter = record { job = 1; number = 1 }

abbrev pub writer : TxnName
writer = record { job = 2; number = 1 }

abbrev pub reader : TxnName
reader = record { job = 3; number = 1 }

abbrev pub pair : TxnName → Option ℕ → Version
pair by value = record { by = by; value = value }

abbrev pub row : List Version → Option ℕ → List TxnName → Versions
row pairs oldest touches = record { pairs = pairs; oldest = oldest; touches = touches }

abbrev pub load_writes : List Write
load_writes = AddVertex 1 ∷ AddVertex 2 ∷ AddEdge 1 2 5 ∷ []

-- the load makes the vertices 1 and 2 and an arc of weight 5; then another sets the weight to 9
abbrev pub journal : List Commit
journal = record { stamp = 1; start = 0; by = load; writes = load_writes }
    ∷ record { stamp = 2; start = 1; by = setter; writes = SetEdge 1 2 9 ∷ [] } ∷ []

-- the pairs that both have laid in the arc's row
abbrev pub committed : List Version
committed = pair setter (Some 9) ∷ pair load (Some 5) ∷ []

-- the arc's row, where the open transaction has set it to 7
abbrev pub arc_row : Versions
arc_row = row (pair writer (Some 7) ∷ committed) None []

pub record LayerExamples : Type 0 where
  -- the newest commit lies on top
  pub commits : layered_all Directed (arc_key 1 2) journal [] ≡ committed
  -- and the open transaction on that
  pub on_top : after_write Directed writer (SetEdge 1 2 7) (arc_key 1 2) (row committed None []) ≡ arc_row
  -- an edge without direction has two rows
  pub other_way : layered_all Undirected (arc_key 2 1) journal [] ≡ committed
  pub one_way : layered_all Directed (arc_key 2 1) journal [] ≡ []
  -- an edge touches its ends and lays nothing there
  pub touch : after_write Directed writer (AddEdge 1 2 5) (vertex_key 2) no_versions ≡ row [] None (writer ∷ [])
  -- what was written twice is taken back twice
  pub taken_back : undone Directed writer (SetEdge 1 2 7 ∷ SetEdge 1 2 8 ∷ []) (arc_key 1 2)
      (after_write Directed writer (SetEdge 1 2 8) (arc_key 1 2) arc_row) ≡ row committed None []

pub record ReadExamples : Type 0 where
  pub before_load : read (stamp_in journal) 0 reader arc_row ≡ None
  pub at_load : read (stamp_in journal) 1 reader arc_row ≡ Some 5
  pub at_end : read (stamp_in journal) 2 reader arc_row ≡ Some 9
  -- what is open is seen by its own writer alone
  pub own : read (stamp_in journal) 1 writer arc_row ≡ Some 7
  pub removed : read (stamp_in journal) 2 writer
      (after_write Directed writer (DropEdge 1 2) (arc_key 1 2) arc_row) ≡ None

pub record PruneExamples : Type 0 where
  -- nothing had committed by stamp 0
  pub keeps : prune (stamp_in journal) 0 arc_row ≡ arc_row
  -- the load's pair goes, and its value is the oldest from then on
  pub drops_one : prune (stamp_in journal) 1 arc_row
      ≡ row (pair writer (Some 7) ∷ pair setter (Some 9) ∷ []) (Some 5) []
  -- a pair goes with all that is older, and the open transaction's stays
  pub drops_two : prune (stamp_in journal) 2 arc_row ≡ row (pair writer (Some 7) ∷ []) (Some 9) []
  pub touches : prune (stamp_in journal) 1 (row [] (Some 0) (load ∷ setter ∷ writer ∷ []))
      ≡ row [] (Some 0) (setter ∷ writer ∷ [])

-- what a write is answered where nothing but the vertex 2 has a row, and only the writer is open
abbrev pub answer : ℕ → TxnName → Write → Versions → Option Cause
answer start own w vs =
    check (λ n. same_name n writer) (stamp_in journal) start own
    (looked w (λ k. cond (same_key k (vertex_key 2)) vs no_versions))

pub record CheckExamples : Type 0 where
  -- a removal meets a touch: of an open transaction, of a later commit, of one that its snapshot sees
  pub touch_open : answer 2 reader (DropVertex 2) (row [] (Some 0) (setter ∷ writer ∷ [])) ≡ Some (Holder writer)
  pub touch_later : answer 1 reader (DropVertex 2) (row [] (Some 0) (setter ∷ [])) ≡ Some (Later 2)
  pub touch_seen : answer 2 reader (DropVertex 2) (row [] (Some 0) (setter ∷ [])) ≡ None
  -- an edge that is added meets a removal of its end, also below a newer pair
  pub drop_later : answer 1 reader (AddEdge 1 2 5) (row (pair load (Some 0) ∷ pair setter None ∷ []) (Some 0) [])
      ≡ Some (Later 2)
  -- one that is set doesn't look at its ends
  pub not_set : answer 1 reader (SetEdge 1 2 5) (row (pair setter None ∷ []) (Some 0) []) ≡ None
  -- nobody meets itself
  pub own : answer 2 writer (DropVertex 2) (row [] (Some 0) (writer ∷ [])) ≡ None
  -- of two answers: an open transaction before a commit, the lesser job, the later commit
  pub holder_first : combine (Some (Later 7)) (Some (Holder writer)) ≡ Some (Holder writer)
  pub lesser_job : combine (Some (Holder reader)) (Some (Holder writer)) ≡ Some (Holder writer)
  pub later_commit : combine (Some (Later 2)) (Some (Later 7)) ≡ Some (Later 7)

-- the setter's pair in a record without stamp, on the weight 5
abbrev pub arc_records : StampedVersions
arc_records =
    record { pairs = record { by = setter; stamp = None; value = Some 9 } ∷ []; oldest = Some 5; touches = [] }

pub record StampExamples : Type 0 where
  -- a record without stamp is read by what is known of its writer, one with a stamp by that alone
  pub asked : read_stamped (stamp_in journal) 2 reader arc_records ≡ Some 9
  pub told : read_stamped (λ n. None) 2 reader (stamp setter 2 arc_records) ≡ Some 9
  pub too_early : read_stamped (λ n. None) 1 reader (stamp setter 2 arc_records) ≡ Some 5

-- two cells: the arc's row stands in the first
abbrev pub cells : List Cell
cells = record { low = vertex_key 1; high = vertex_key 2; rows = (arc_key 1 2, arc_row) ∷ [] }
    ∷ record { low = vertex_key 2; high = vertex_key 9; rows = [] } ∷ []

pub record CellExamples : Type 0 where
  pub there : contents_in (all_cells cells) (arc_key 1 2) ≡ arc_row
  pub none : contents_in (all_cells cells) (vertex_key 2) ≡ no_versions

-- ---- a store that holds

-- one open transaction
abbrev pub only : TxnName → Running → TxnName → Option Running
only by t q = cond (same_name q by) (Some t) None

-- the load has made the vertex 1 and committed
abbrev pub first_commit : Commit
first_commit = record { stamp = 1; start = 0; by = load; writes = AddVertex 1 ∷ [] }

abbrev pub first_rows : Key → Versions
first_rows k = after_write Directed load (AddVertex 1) k no_versions

-- and the writer has made the vertex 2 on it and is open
abbrev pub StoreExample : Type 0
StoreExample =
    IsPlainStore Directed (first_commit ∷ []) (only writer (record { start = 1; writes = AddVertex 2 ∷ [] })) 0
    (λ k. after_write Directed writer (AddVertex 2) k (first_rows k))
