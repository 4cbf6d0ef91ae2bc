-- Rows of key ranges, cell by cell. Only the crate itself speaks of them.
use Rattle.std.specs.Prelude.{◌≡◌, ℕ, ◌+◌, ◌==◌, Bool, true, cond, List, [], ◌∷◌, Option, Some, None}
use Rattle.graph_model.specs.declared.row.Key.{Key}
use Rattle.graph_model.specs.declared.row.Row.{Row}
use Rattle.graph_model.specs.declared.journal.TxnName.{TxnName}
use Rattle.graph_model.specs.Graph.{Graph}
use Rattle.graph_model.specs.Rows.{is_below, value_at}
use Rattle.store_model.specs.Versions.{read}
use Rattle.undo_chain.specs.declared.states.Snapshot.{Snapshot}
use Rattle.undo_chain.specs.States.{Knowledge}
use Rattle.row_writes.specs.VersionSegment.Rows.{VersionedRows}
use Rattle.leaf_store.specs.Leaves.{Leaves, cells_of, cell_at, contents_of}

-- a snapshot sees this graph in the rows, by the stamps of their writers
abbrev pub ShowsBy : (TxnName → Option ℕ) → Snapshot → Leaves → Graph → Type 0
ShowsBy stamps snapshot s g = (k : Key) → read stamps snapshot.start snapshot.own (contents_of s k) ≡ value_at g k

-- it may be asked for any transaction
abbrev pub KnowsAll : Knowledge → Type 0
KnowsAll m = (by : TxnName) → m.names by ≡ true

abbrev pub lesser : Key → Key → Key
lesser a b = cond (is_below a b) a b

-- where the cell of a key ends, or before it where the range does
abbrev pub run_end : Leaves → Key → Key → Key
run_end s from until = lesser (cell_at s from).high until

-- how many cells end behind a key
abbrev pub cells_behind : Key → List VersionedRows → ℕ
cells_behind key [] = 0
cells_behind key (c ∷ cs) = cond (is_below key c.high) 1 0 + cells_behind key cs

-- so many runs at most are still to come
abbrev pub runs_left : Leaves → Key → Key → ℕ
runs_left s key until = cond (is_below key until) (cells_behind key (cells_of s) + 1) 0

-- the row's key has this second number, if one is given
abbrev pub has_second : Option ℕ → Row → Bool
has_second None row = true
has_second (Some second) row = row.key.second == second
